-- The keys that a call may have, and a member that is noted. Only private clauses cite it.
use Rattle.std.specs.Prelude.{◌≡◌, ◌<◌, ℕ, List, length, codes, Some}
use Rattle.json.specs.Token.{Token}
use Rattle.json.specs.Json.{read_key, value}
use Rattle.serde_json.specs.Data.{Data}
use Rattle.serde_json.specs.Read.{of_json, converted}
use Rattle.call_reading.specs.Seen.{Seen, seen_with}
use Rattle.call_reading.specs.declared.field.Field.{Field}
use Rattle.call_reading.specs.declared.field.RangingField.{RangingField}
use Rattle.call_reading.specs.declared.field.Field.TheVariants.{Name, Sid, Receiver, Bytes, Heard, Upto, Time, Flow}
use Rattle.call_reading.specs.declared.field.Field.TheVariants.{Ranging}
use Rattle.call_reading.specs.declared.field.RangingField.TheVariants.{Usage, Slots, UcdCount}
use Rattle.call_reading.specs.declared.field.RangingField.TheVariants.{RangingStart, RangingEnd, DataStart, DataEnd}

-- the key of a field of ranging
abbrev pub ranging_key : RangingField → List ℕ
ranging_key Usage = codes "usage"
ranging_key Slots = codes "slots"
ranging_key UcdCount = codes "ucd_count"
ranging_key RangingStart = codes "ranging_start"
ranging_key RangingEnd = codes "ranging_end"
ranging_key DataStart = codes "data_start"
ranging_key DataEnd = codes "data_end"

-- the key of a field
abbrev pub key_of : Field → List ℕ
key_of Name = codes "call"
key_of Sid = codes "sid"
key_of Receiver = codes "receiver"
key_of Bytes = codes "bytes"
key_of Heard = codes "heard"
key_of Upto = codes "upto"
key_of Time = codes "now"
key_of Flow = codes "flow"
key_of (Ranging field) = ranging_key field

-- one member stands first, nested no deeper than this, and was noted
abbrev pub NotesMember : ℕ → List Token → List Token → Seen → Seen → Type 0
NotesMember depth ts r before after = (k : List ℕ) × (s : List Token) × (d : Data)
    × (read_key ts ≡ Some (Some k, s)) × (converted of_json (value depth s) ≡ Some (d, r)) × (length r < length s)
    × (after ≡ seen_with k d before)
