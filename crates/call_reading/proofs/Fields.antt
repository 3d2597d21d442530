-- The keys that a call may have.
use Rattle.std.proofs.Common.{◌≡◌, codes, refl}
use Rattle.json.specs.Print.{escape, escape_byte}
use Rattle.call_reading.specs.declared.field.Field.{Field}
use Rattle.call_reading.specs.declared.field.RangingField.{RangingField}
use Rattle.call_reading.specs.declared.field.Field.TheVariants.{Name, Sid, Receiver, Bytes, Heard, Upto, Time, Flow}
use Rattle.call_reading.specs.declared.field.Field.TheVariants.{Ranging}
use Rattle.call_reading.specs.declared.field.RangingField.TheVariants.{Usage, Slots, UcdCount}
use Rattle.call_reading.specs.declared.field.RangingField.TheVariants.{RangingStart, RangingEnd, DataStart, DataEnd}
use Rattle.call_reading.specs.Field.{ranging_key, key_of}

-- no byte of a key of ranging has an escape
plain_ranging_key : (field : RangingField) → escape (ranging_key field) ≡ ranging_key field
unfolding escape_byte
plain_ranging_key Usage = refl
plain_ranging_key Slots = refl
plain_ranging_key UcdCount = refl
plain_ranging_key RangingStart = refl
plain_ranging_key RangingEnd = refl
plain_ranging_key DataStart = refl
plain_ranging_key DataEnd = refl

-- no byte of a key has an escape
pub plain_key : (field : Field) → escape (key_of field) ≡ key_of field
unfolding escape_byte
plain_key Name = refl
plain_key Sid = refl
plain_key Receiver = refl
plain_key Bytes = refl
plain_key Heard = refl
plain_key Upto = refl
plain_key Time = refl
plain_key Flow = refl
plain_key (Ranging field) = plain_ranging_key field

-- nor of the name of a request
pub plain_ask : escape (codes "ask") ≡ codes "ask"
unfolding escape_byte
plain_ask = refl

-- nor of the name of a build
pub plain_build : escape (codes "build") ≡ codes "build"
unfolding escape_byte
plain_build = refl

-- nor of the name of progress
pub plain_heard : escape (codes "heard") ≡ codes "heard"
unfolding escape_byte
plain_heard = refl

-- nor of the name of a removal
pub plain_remove : escape (codes "remove") ≡ codes "remove"
unfolding escape_byte
plain_remove = refl

-- nor of the name of a status
pub plain_status : escape (codes "status") ≡ codes "status"
unfolding escape_byte
plain_status = refl
