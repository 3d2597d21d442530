-- The reply and the entry that a JSON object stands for.
use Rattle.std.specs.Prelude.{◌≡◌, ◌↔◌, ℕ, ◌^◌, Bool, ◌||◌, if◌then◌else◌, List, [], ◌∷◌, codes, bytes_eq, is_some}
use Rattle.std.specs.Prelude.{is_none}
use Rattle.std.specs.Prelude.{Option, Some, None}
use Rattle.std.specs.Result.{result_ok}
use Rattle.hex.specs.Hex.{IsBytes, decode_of}
use Rattle.serde_json.specs.Data.{Data, Items, no_items, item}
use Rattle.serde_json.specs.Find.{get, as_number, as_u64, as_array}
use Rattle.map_codec.specs.declared.wire_map.WireMap.{WireMap}
use Rattle.map_codec.specs.WireMap.{map_in, spelling, IsWellFormed}
use Rattle.map_codec.specs.DecodeFault.{fault_of}
use Rattle.sched_calls.specs.declared.placement.Placement.{Placement}
use Rattle.sched_calls.specs.declared.reply.Reply.{Reply}
use Rattle.sched_calls.specs.declared.reply.Reply.TheVariants.{Admitted, Removed, Taken, Noted, Built, Skipped, Flow}
use Rattle.sched_calls.specs.declared.reply.Reply.TheVariants.{Reserved, Refused, Changed}
use Rattle.sched_calls.specs.declared.reply.Entry.{Entry}
use Rattle.json_fields.specs.Fields.{◌>>=◌, below, u32_at, u64_at, text_at}
use Rattle.call_reading.specs.Calls.{call_of}
use Rattle.history_reading.specs.Refusals.{refusal_with}

-- a whole number below the limit: none that is negative, or written with a fraction or an exponent
unfoldable pub number_below : ℕ → Data → Option ℕ
number_below limit d = do
  number ← as_number d
  n ← as_u64 number
  below limit n

-- the numbers of an array, each below the limit
unfoldable pub numbers_of : ℕ → Items → Option (List ℕ)
numbers_of limit no_items = Some []
numbers_of limit (item d ds) = do
  n ← number_below limit d
  ns ← numbers_of limit ds
  Some (n ∷ ns)

-- the numbers of the array under this key, each below the limit
unfoldable pub numbers_at : ℕ → List ℕ → Data → Option (List ℕ)
numbers_at limit key d = do
  found ← get key d
  items ← as_array found
  numbers_of limit items

-- whether something stands under this key
abbrev pub has : List ℕ → Data → Bool
has key d = is_some (get key d)

-- a placement: its reference, and its starts in the nominal frames
unfoldable pub placement_of : Data → Option Placement
placement_of d = do
  reference ← u64_at (codes "reference") d
  starts ← numbers_at (2 ^ 16) (codes "starts") d
  Some (record { reference = reference; starts = starts })

-- the place of a flow: a reference and starts, or neither
unfoldable pub place_of : Data → Option (Option Placement)
place_of d =
    if has (codes "reference") d || has (codes "starts") d then (placement_of d >>= (λ p. Some (Some p))) else Some None

-- an admission
unfoldable pub admitted_reply : Data → Option Reply
admitted_reply d = do
  place ← place_of d
  Some (Admitted place)

-- a change
unfoldable pub changed_reply : Data → Option Reply
changed_reply d = do
  place ← place_of d
  Some (Changed place)

-- the MAP of which these bytes are the payload
unfoldable pub map_of : List ℕ → Option WireMap
map_of bytes = if is_none (fault_of bytes) then Some (map_in bytes) else None

-- bytes are read as a MAP exactly where they are its spelling
abbrev pub IsExactMap : Type 0
IsExactMap = (bytes : List ℕ) → IsBytes bytes → (m : WireMap)
    → (map_of bytes ≡ Some m) ↔ (IsWellFormed m × (bytes ≡ spelling m))

-- the MAP whose payload stands under this key in hexadecimal, digits of both cases
unfoldable pub map_at : List ℕ → Data → Option WireMap
map_at key d = do
  text ← text_at key d
  bytes ← result_ok (decode_of text)
  map_of bytes

-- a MAP, with its 64-bit times and the bytes of its elements
unfoldable pub map_reply : Data → Option Reply
map_reply d = do
  start ← u64_at (codes "start") d
  ack ← u64_at (codes "ack") d
  wire ← map_at (codes "hex") d
  bytes ← numbers_at (2 ^ 32) (codes "bytes") d
  Some (Built (record { start = start; ack = ack; wire = wire; bytes = bytes }))

-- the start of the frame that the next MAP describes
unfoldable pub skipped_reply : Data → Option Reply
skipped_reply d = do
  next ← u64_at (codes "next") d
  Some (Skipped next)

-- a flow's bytes
unfoldable pub flow_reply : Data → Option Reply
flow_reply d = do
  asked ← u64_at (codes "asked") d
  granted ← u64_at (codes "granted") d
  outstanding ← u64_at (codes "outstanding") d
  Some (Flow asked granted outstanding)

-- the number under this key where something stands there, which then is a number
unfoldable pub u64_if : List ℕ → Data → Option (Option ℕ)
u64_if key d = if has key d then (u64_at key d >>= (λ n. Some (Some n))) else Some None

-- a refusal: its number, and a value exactly where it has one
unfoldable pub refused_reply : Data → Option Reply
refused_reply d = do
  number ← u64_at (codes "number") d
  value ← u64_if (codes "value") d
  refusal ← refusal_with number value
  Some (Refused refusal)

-- the reply that an object stands for, by its kind
unfoldable pub reply_of : Data → Option Reply
reply_of d = do
  kind ← text_at (codes "kind") d
  if bytes_eq kind (codes "admitted") then admitted_reply d
      else (if bytes_eq kind (codes "removed") then Some Removed
      else (if bytes_eq kind (codes "taken") then Some Taken
      else (if bytes_eq kind (codes "noted") then Some Noted
      else (if bytes_eq kind (codes "map") then map_reply d
      else (if bytes_eq kind (codes "skipped") then skipped_reply d
      else (if bytes_eq kind (codes "flow") then flow_reply d
      else (if bytes_eq kind (codes "refused") then refused_reply d
      else (if bytes_eq kind (codes "reserved") then Some Reserved
      else (if bytes_eq kind (codes "changed") then changed_reply d
      else None)))))))))

-- the entry that an object stands for: a stamp, a call and a reply
unfoldable pub entry_of : Data → Option Entry
entry_of d = do
  seat ← u32_at (codes "seat") d
  ticket ← u64_at (codes "ticket") d
  call ← get (codes "call") d >>= call_of
  reply ← get (codes "reply") d >>= reply_of
  Some (record { stamp = record { seat = seat; ticket = ticket }; call = call; reply = reply })
