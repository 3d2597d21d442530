-- The keys in their usual spelling.
use Rattle.std.proofs.Common.{◌≡◌, refl}
use Rattle.json.specs.Print.{escape, escape_byte}
use Rattle.history_reading.specs.declared.recorded.quick_member.Key.{Key}
use Rattle.history_reading.specs.declared.recorded.quick_member.Key.TheVariants as key
use Rattle.history_reading.specs.Key.{key_of}

-- no byte of a key has an escape
pub plain_key : (k : Key) → escape (key_of k) ≡ key_of k
unfolding escape_byte
plain_key key.Call = refl
plain_key key.Reply = refl
plain_key key.Seat = refl
plain_key key.Ticket = refl
plain_key key.Bytes = refl
plain_key key.Hex = refl
plain_key key.Kind = refl
plain_key key.Start = refl
plain_key key.Granted = refl
plain_key key.Outstanding = refl
plain_key key.Starts = refl
plain_key key.Next = refl
plain_key key.Number = refl
plain_key key.Entries = refl
