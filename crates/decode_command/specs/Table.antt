-- The table of a MAP, and the line of a fault: what is shown of a text.
use Rattle.std.specs.Prelude.{◌≡◌, ℕ, ◌-◌, ◌==◌, if◌then◌else◌, List, [], ◌++◌, length, replicate, codes, decimal}
use Rattle.std.specs.Prelude.{Option, Some, None, IsOkAnd}
use Rattle.std.specs.List.{flat_map}
use Rattle.std.specs.Io.KnownBytes.{Appends}
use Rattle.hex.specs.Hex.{decode_of}
use Rattle.map_codec.specs.declared.element.Element.{Element}
use Rattle.map_codec.specs.declared.element.iuc.TheConstants.{REQUEST, REQUEST_DATA, INITIAL_MAINTENANCE}
use Rattle.map_codec.specs.declared.element.iuc.TheConstants.{STATION_MAINTENANCE, SHORT_DATA_GRANT, LONG_DATA_GRANT}
use Rattle.map_codec.specs.declared.element.iuc.TheConstants.{NULL, DATA_ACKNOWLEDGE, ADVANCED_SHORT_DATA_GRANT}
use Rattle.map_codec.specs.declared.element.iuc.TheConstants.{ADVANCED_LONG_DATA_GRANT, ADVANCED_UNSOLICITED_GRANT}
use Rattle.map_codec.specs.declared.fault.DecodeFault.{DecodeFault}
use Rattle.map_codec.specs.declared.fault.DecodeFault.TheVariants.{Short, TooMany, WrongLength, Expansion, Descending}
use Rattle.map_codec.specs.declared.fault.DecodeFault.TheVariants.{NoNull, SecondNull, Memory}
use Rattle.map_codec.specs.declared.wire_map.WireMap.{WireMap}
use Rattle.map_codec.specs.WireMap.{spelling, IsWellFormed, IsPayload}
use Rattle.map_drawing.specs.Legend.{drawing_text}

-- a label and a number in decimal
unfoldable pub labelled : List ℕ → ℕ → List ℕ
labelled label n = label ++ decimal n

-- a backoff window: a label, its start and its end
unfoldable pub backoff_text : List ℕ → ℕ → ℕ → List ℕ
backoff_text label start end = labelled label start ++ labelled (codes " ") end

-- a number in decimal, at the right of so many places
unfoldable pub at_right : ℕ → ℕ → List ℕ
at_right places n = replicate (places - length (decimal n)) 32 ++ decimal n

-- a column: a number at the right of so many places, and a space
unfoldable pub column : ℕ → ℕ → List ℕ
column places n = at_right places n ++ codes " "

-- the name that the table gives to an interval usage code
unfoldable pub name_of : ℕ → List ℕ
name_of iuc =
    if iuc == REQUEST then codes "request"
    else if iuc == REQUEST_DATA then codes "request_data"
    else if iuc == INITIAL_MAINTENANCE then codes "initial"
    else if iuc == STATION_MAINTENANCE then codes "station"
    else if iuc == SHORT_DATA_GRANT then codes "short"
    else if iuc == LONG_DATA_GRANT then codes "long"
    else if iuc == NULL then codes "null"
    else if iuc == DATA_ACKNOWLEDGE then codes "data_ack"
    else if iuc == ADVANCED_SHORT_DATA_GRANT then codes "aphy_short"
    else if iuc == ADVANCED_LONG_DATA_GRANT then codes "aphy_long"
    else if iuc == ADVANCED_UNSOLICITED_GRANT then codes "aphy_ug"
    else codes "reserved"

-- the first line of a table
unfoldable pub counts_line : WireMap → List ℕ
counts_line m =
    labelled (codes "channel ") m.channel ++ labelled (codes " ucd ") m.ucd_count
    ++ labelled (codes " elements ") (length m.elements) ++ labelled (codes " reserved ") m.reserved ++ codes "\n"

-- the second line of a table
unfoldable pub times_line : WireMap → List ℕ
times_line m =
    labelled (codes "start ") m.alloc_start ++ labelled (codes " ack ") m.ack
    ++ backoff_text (codes " ranging ") m.ranging_start m.ranging_end
    ++ backoff_text (codes " data ") m.data_start m.data_end ++ codes "\n"

-- the line of an element
unfoldable pub element_line : Element → List ℕ
element_line e = column 5 e.sid ++ column 2 e.iuc ++ column 5 e.offset ++ name_of e.iuc ++ codes "\n"

-- the lines of elements, in their order
abbrev pub element_lines : List Element → List ℕ
element_lines es = flat_map element_line es

-- the table of a MAP
unfoldable pub table_text : WireMap → List ℕ
table_text m = counts_line m ++ times_line m ++ element_lines m.elements

-- what is shown of a MAP: its table, and its drawing where one in so many columns is asked for
abbrev pub shown_text : Option ℕ → WireMap → List ℕ
shown_text None m = table_text m
shown_text (Some columns) m = table_text m ++ drawing_text m.elements columns

-- the number of a fault, in the order of the tests
abbrev pub number_of : DecodeFault → ℕ
number_of Short = 1
number_of TooMany = 2
number_of WrongLength = 3
number_of (Expansion i) = 4
number_of (Descending i) = 5
number_of NoNull = 6
number_of (SecondNull i) = 7
number_of Memory = 8

-- the place of the element that a fault names
abbrev pub index_of : DecodeFault → Option ℕ
index_of Short = None
index_of TooMany = None
index_of WrongLength = None
index_of (Expansion i) = Some i
index_of (Descending i) = Some i
index_of NoNull = None
index_of (SecondNull i) = Some i
index_of Memory = None

-- a place after a space, where there is one
abbrev pub place_text : Option ℕ → List ℕ
place_text None = []
place_text (Some i) = labelled (codes " ") i

-- the line of a fault
unfoldable pub fault_line : DecodeFault → List ℕ
fault_line fault = labelled (codes "fault ") (number_of fault) ++ place_text (index_of fault) ++ codes "\n"

-- the line of a text that is not hexadecimal
abbrev pub not_hex_line : List ℕ
not_hex_line = codes "fault hex\n"

-- the text is hexadecimal of a payload
abbrev pub IsHexOfPayload : List ℕ → Type 0
IsHexOfPayload text = IsOkAnd (decode_of text) IsPayload

-- the bytes are a MAP's spelling, and what was written is what is shown of it
pub record PutsMap (columns : Option ℕ) (bytes : List ℕ) (old new : Option (List ℕ)) : Type 0 where
  pub map : WireMap
  pub well_formed : IsWellFormed map
  pub spelled : bytes ≡ spelling map
  pub written : Appends old new (shown_text columns map)

-- the text is hexadecimal of a MAP's spelling, and what was written is what is shown of it
abbrev pub ShowsMap : Option ℕ → List ℕ → Option (List ℕ) → Option (List ℕ) → Type 0
ShowsMap columns text old new = IsOkAnd (decode_of text) (λ bytes. PutsMap columns bytes old new)
