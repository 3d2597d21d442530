-- The keys of a history, of an entry and of a reply that are read where they are written.
use Rattle.std.specs.Prelude.{ℕ, List, codes}
use Rattle.history_reading.specs.declared.recorded.quick_member.Key.{Key}
use Rattle.history_reading.specs.declared.recorded.quick_member.Key.TheVariants as key

-- the letters of a key
abbrev pub key_of : Key → List ℕ
key_of key.Call = codes "call"
key_of key.Reply = codes "reply"
key_of key.Seat = codes "seat"
key_of key.Ticket = codes "ticket"
key_of key.Bytes = codes "bytes"
key_of key.Hex = codes "hex"
key_of key.Kind = codes "kind"
key_of key.Start = codes "start"
key_of key.Granted = codes "granted"
key_of key.Outstanding = codes "outstanding"
key_of key.Starts = codes "starts"
key_of key.Next = codes "next"
key_of key.Number = codes "number"
key_of key.Entries = codes "entries"
