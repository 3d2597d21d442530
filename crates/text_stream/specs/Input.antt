-- The bytes that a reader has, and the JSON value that they are the text of.
use Rattle.std.specs.Prelude.{◌≡◌, ◌≢◌, ℕ, ◌<◌, ◌≤◌, if◌then◌else◌, List, length, Option, ok_or, Result, Ok, Err}
use Rattle.std.specs.Str.{is_utf8}
use Rattle.std.specs.Io.KnownBytes.{Consumes, IsAtEnd}
use Rattle.serde_json.specs.Data.{Data}
use Rattle.serde_json.specs.Read.{read}
use Rattle.text_stream.specs.declared.input.TheConstants.{MAX_INPUT}
use Rattle.text_stream.specs.declared.fault.TextFault.{TextFault}
use Rattle.text_stream.specs.declared.fault.TextFault.TheVariants.{Input, TooLong, NotJson, Shape, Config, Memory}
use Rattle.text_stream.specs.declared.fault.TextFault.TheVariants.{Output}

-- the value that the bytes are the text of, in UTF-8
unfoldable pub value_of : List ℕ → Result Data TextFault
value_of bytes = if is_utf8 bytes then ok_or (read bytes) NotJson else Err NotJson

-- the reader had these bytes and no more, and they are not too many
pub record ReadsAll (old new : Option (List ℕ)) (bytes : List ℕ) : Type 0 where
  pub consumed : Consumes old new bytes
  pub ended : IsAtEnd new
  pub short : length bytes ≤ MAX_INPUT

-- too many bytes came from the reader
pub record ReadsTooMany (old new : Option (List ℕ)) : Type 0 where
  pub bytes : List ℕ
  pub consumed : Consumes old new bytes
  pub long : MAX_INPUT < length bytes

-- why the bytes of a reader are not had: nothing is said of what a read that failed leaves
abbrev pub StopsReading : Option (List ℕ) → Option (List ℕ) → TextFault → Type 0
StopsReading old new Input = Unit {0}
StopsReading old new TooLong = ReadsTooMany old new
StopsReading old new NotJson = ⊥
StopsReading old new (Shape n) = ⊥
StopsReading old new (Config field) = ⊥
StopsReading old new Memory = Unit {0}
StopsReading old new Output = ⊥

-- what was made, seen by view, is what stands there, or the fault is, unless memory ran out
abbrev pub Gives : {X Y : Type 0} → (X → Y) → Result X TextFault → Result Y TextFault → Type 0
Gives view (Ok x) there = there ≡ Ok (view x)
Gives view (Err e) there = e ≢ Memory → there ≡ Err e
