-- What is written of a text that is no payload, with what its fault means.
use Rattle.std.specs.Prelude.{◌≡◌, ℕ, Bool, true, false, List, [], ◌++◌, codes, Option, Some, None, MatchResult}
use Rattle.std.specs.Io.KnownBytes.{Appends}
use Rattle.hex.specs.Hex.{decode_of}
use Rattle.hex.specs.declared.error.FromHexError.{FromHexError}
use Rattle.hex.specs.declared.error.FromHexError.TheVariants.{InvalidHexCharacter, OddLength, InvalidStringLength}
use Rattle.hex.specs.declared.error.FromHexError.TheVariants.{OutOfMemory}
use Rattle.map_codec.specs.declared.fault.DecodeFault.{DecodeFault}
use Rattle.map_codec.specs.declared.fault.DecodeFault.TheVariants.{Short, TooMany, WrongLength, Expansion, Descending}
use Rattle.map_codec.specs.declared.fault.DecodeFault.TheVariants.{NoNull, SecondNull, Memory}
use Rattle.map_codec.specs.DecodeFault.{fault_of}
use Rattle.decode_command.specs.Table.{labelled, index_of, fault_line, not_hex_line}

-- what a fault of a payload means, up to its element where it names one
abbrev pub fault_words : DecodeFault → List ℕ
fault_words Short = codes "it is shorter than the 16 bytes before the elements"
fault_words TooMany = codes "it says that it has more than 240 elements"
fault_words WrongLength = codes "its length is not 16 bytes and 4 for each element that it says it has"
fault_words (Expansion i) = codes "IUC 15, an expansion of another code, stands in element"
fault_words (Descending i) = codes "the offset falls below that of the element before in element"
fault_words NoNull = codes "no element has IUC 7, the null that ends the frame"
fault_words (SecondNull i) = codes "a second IUC 7, the null that ends the frame, stands in element"
fault_words Memory = codes "out of memory"

-- what is wrong with a text that is not hexadecimal, up to the place of a character
abbrev pub hex_words : FromHexError → List ℕ
hex_words (InvalidHexCharacter c index) = codes "no hexadecimal digit stands at byte"
hex_words OddLength = codes "the digits are odd in number, and two make a byte"
hex_words InvalidStringLength = codes "the digits are another number"
hex_words OutOfMemory = codes "out of memory"

-- the place of the character that is no digit
abbrev pub digit_of : FromHexError → Option ℕ
digit_of (InvalidHexCharacter c index) = Some index
digit_of OddLength = None
digit_of InvalidStringLength = None
digit_of OutOfMemory = None

-- a place behind words, where there is one
abbrev pub behind_words : Option ℕ → List ℕ
behind_words None = []
behind_words (Some i) = labelled (codes " ") i ++ codes ", counted from 0"

-- a line of words, with a place behind them where there is one
unfoldable pub counted : List ℕ → Option ℕ → List ℕ
counted words place = words ++ behind_words place ++ codes "\n"

-- the line of a fault, and what it means
unfoldable pub explained_fault : DecodeFault → List ℕ
explained_fault fault = fault_line fault ++ counted (fault_words fault) (index_of fault)

-- the line of a text that is not hexadecimal, and what is wrong with it
unfoldable pub explained_hex : FromHexError → List ℕ
explained_hex fault = not_hex_line ++ counted (hex_words fault) (digit_of fault)

-- the line of a fault, and what it means where that is asked for
abbrev pub fault_text : Bool → DecodeFault → List ℕ
fault_text true fault = explained_fault fault
fault_text false fault = fault_line fault

-- the line of a text that is not hexadecimal, and what is wrong with it where that is asked for
abbrev pub hex_text : Bool → FromHexError → List ℕ
hex_text true fault = explained_hex fault
hex_text false fault = not_hex_line

-- the bytes have a fault, and what was written is its line, and what it means where that is asked for
pub record PutsFault (explained : Bool) (bytes : List ℕ) (old new : Option (List ℕ)) : Type 0 where
  pub fault : DecodeFault
  pub is_fault : fault_of bytes ≡ Some fault
  pub written : Appends old new (fault_text explained fault)

-- the text is hexadecimal of bytes with a fault, or it is not hexadecimal, and what was written is the line of that,
-- and what it means where that is asked for
abbrev pub ShowsFault : Bool → List ℕ → Option (List ℕ) → Option (List ℕ) → Type 0
ShowsFault explained text old new = MatchResult (decode_of text) (λ bytes. PutsFault explained bytes old new)
    (λ e. Appends old new (hex_text explained e))
