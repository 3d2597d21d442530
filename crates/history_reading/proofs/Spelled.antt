-- Replies and entries that are read member by member, in the order in which they are written.
use Rattle.std.proofs.Common.{◌≡◌, ℕ, ◌-◌, ◌<◌, ◌^◌, List, [], ◌∷◌, length, Option, Some, None, Ok, refl, ◌∙◌, arith}
use Rattle.std.proofs.Common.{lt-ltb, bytes_eq, true, sym, ap, subst, suc, ◌++◌, decimal, slice_index, add-one}
use Rattle.std.proofs.lemmas.List.{append_assoc, append-nil}
use Rattle.std.proofs.lemmas.Slice.Eq.{bytes_eq-Decides}
use Rattle.std.specs.Prelude.{codes, IfSome}
use Rattle.hex.specs.Hex.{decode_of}
use Rattle.json.specs.Token.{Token}
use Rattle.json.specs.Json.{read_key, value, items, after_end_array}
use Rattle.json.proofs.Grammar.{read_key-shorter}
use Rattle.serde_json.specs.Data.{Data, number, unsigned, string, array, object, Items, Members, no_members, put}
use Rattle.serde_json.specs.Read.{of_json, of_items, converted}
use Rattle.serde_json.proofs.Numbers.{number_of-decimal}
use Rattle.serde_json.specs.View.{items_of}
use Rattle.map_codec.specs.declared.wire_map.WireMap.{WireMap}
use Rattle.sched_calls.specs.declared.call.Call.{Call}
use Rattle.sched_calls.specs.declared.placement.Placement.{Placement}
use Rattle.sched_calls.specs.declared.reply.Reply.{Reply}
use Rattle.sched_calls.specs.declared.reply.Reply.TheVariants.{Admitted, Removed, Taken, Noted, Built, Skipped, Flow}
use Rattle.sched_calls.specs.declared.reply.Reply.TheVariants.{Refused, Reserved, Changed}
use Rattle.sched_calls.specs.declared.reply.Refusal.{Refusal}
use Rattle.json_fields.specs.Fields.{below, u32_at, u64_at, number_at, text_at}
use Rattle.json_fields.specs.Listed.{StandEach}
use Rattle.byte_tokens.specs.Listed.{number_tokens}
use Rattle.json_fields.proofs.Items.{ItemsLeft, ItemsLeft-more, items_over}
use Rattle.json_fields.proofs.PlainValues.{member_read, members_over, unsigned_read}
use Rattle.json_fields.proofs.Things.{StandEach-push}
use Rattle.call_reading.proofs.Quick.{goes_on}
use Rattle.call_reading.specs.Calls.{call_of}
use Rattle.history_reading.specs.Refusals.{refusal_with}
use Rattle.history_reading.specs.Replies.{number_below, numbers_of, numbers_at, placement_of, place_of, admitted_reply}
use Rattle.history_reading.specs.Replies.{changed_reply, map_of, map_at, map_reply, skipped_reply, flow_reply, u64_if}
use Rattle.history_reading.specs.Replies.{refused_reply, reply_of, entry_of}
use Rattle.history_reading.specs.Spelled.{IsMember, AreMembers, SaysPlace, MakesReply, with_value}

-- ---- members

-- the key by its name
pub key_named : (key name : List ℕ) (old new : List Token) → bytes_eq key name ≡ true
    → read_key old ≡ Some (Some key, new) → read_key old ≡ Some (Some name, new)
key_named key name old new same is = is ∙ ap (λ k. Some (Some k, new)) ((bytes_eq-Decides key name).0 same)

-- a key, and the value behind it
pub member_of : (depth : ℕ) (key : List ℕ) (d : Data) (old s new : List Token) → read_key old ≡ Some (Some key, s)
    → converted of_json (value depth s) ≡ Some (d, new) → length new < length s → IsMember depth key d old new
member_of depth key d old s new key_is value_is less = record {
  behind_key = s;
  key_is = key_is;
  value_is = value_is;
  shorter = omega (arith, less, read_key-shorter old (Some key) s key_is);
}

-- the brace ends them
pub members_ended : {depth : ℕ} {found : Members} {old new : List Token} → read_key old ≡ Some (None, new)
    → AreMembers depth found found old new
members_ended {depth = depth} {found = found} {old = old} {new = new} end = record {
  read = λ n enough. members_over (value depth) n found old new enough end;
  shorter = read_key-shorter old None new end;
}

-- one member, and then those that are left
pub members_then : {depth : ℕ} {found all : Members} {key : List ℕ} {d : Data} {old next new : List Token}
    → IsMember depth key d old next → AreMembers depth (put key d found) all next new
    → AreMembers depth found all old new
members_then {depth = depth} {found = found} {key = key} {d = d} {old = old} {next = next} one rest = record {
  read = λ n enough.
      member_read (value depth) n found old next key one.behind_key d (omega (arith, enough, one.shorter)) one.key_is
      one.value_is
      ∙ rest.read (n - 1) (omega (arith, enough, one.shorter));
  shorter = omega (arith, one.shorter, rest.shorter);
}

-- ---- numbers

abbrev count : ℕ → Data
count n = number (unsigned n)

below-fits : (limit n : ℕ) → n < limit → below limit n ≡ Some n
below-fits limit n fits = rw (lt-ltb n limit fits) refl

-- the value is a number below the limit
abbrev pub IsBelow : ℕ → Data → ℕ → Type 0
IsBelow limit d n = number_below limit d ≡ Some n

-- a whole number that fits
pub number_made : (limit n : ℕ) → n < limit → number_below limit (number (unsigned n)) ≡ Some n
unfolding number_below
number_made limit n fits = below-fits limit n fits

-- whole numbers that all fit
pub numbers_made : (limit : ℕ) (ds : List Data) (ns : List ℕ) → StandEach (IsBelow limit) ds ns
    → numbers_of limit (items_of ds) ≡ Some ns
unfolding numbers_of
numbers_made limit [] [] each = refl
numbers_made limit [] (n ∷ ns) each = absurd each
numbers_made limit (d ∷ ds) [] each = absurd each
numbers_made limit (d ∷ ds) (n ∷ ns) each = rw each.0 (rw (numbers_made limit ds ns each.1) refl)

-- what follows items that were read, when numbers do and then the bracket behind them
pub numbers_follow : (depth : ℕ) (whole ts r : List Token) (ds : List Data) (past ns : List ℕ)
    → ItemsLeft (value depth) whole ds ts → StandEach (IsBelow (2 ^ 32)) ds past
    → ((i : ℕ) → slice_index ns i < 2 ^ 32) → ts ≡ number_tokens ns ++ Token.end_array ∷ r
    → (all : List Data) × (converted of_items (items (value depth) (length whole) whole) ≡ Some (items_of all, r))
    × StandEach (IsBelow (2 ^ 32)) all (past ++ ns)
unfolding number_tokens
numbers_follow depth whole ts r ds past [] left each fits is = (
  ds,
  items_over (value depth) whole ts r ds left (ap after_end_array is),
  subst (StandEach (IsBelow (2 ^ 32)) ds) (sym (append-nil past)) each,
)
numbers_follow depth whole ts r ds past (n ∷ ns) left each fits is =
    let rest = number_tokens ns ++ Token.end_array ∷ r in
    let one : n < 2 ^ 32 = fits 0 in
    let reads : converted of_json (value depth ts) ≡ Some (count n, rest) =
    unsigned_read depth ts rest (decimal n) n is (number_of-decimal n (omega arith)) in
    let shorter : length rest < length ts = omega (arith, ap length is, add-one (length rest)) in
    let more = ds ++ count n ∷ [] in
    let next = numbers_follow depth whole rest r more (past ++ n ∷ []) ns
    (ItemsLeft-more (value depth) whole ts rest ds left more (count n) (goes_on depth ts (count n) rest reads) reads
    shorter refl)
    (StandEach-push (IsBelow (2 ^ 32)) ds past (count n) n each (number_made (2 ^ 32) n one))
    (λ i. fits (suc i)) refl in (
      next.0,
      next.1,
      subst (StandEach (IsBelow (2 ^ 32)) next.0) (append_assoc past (n ∷ []) ns) next.2,
    )

-- ---- replies

-- the members of a reply of this kind, and none behind it
abbrev pub of_kind : List ℕ → Members
of_kind kind = put (codes "kind") (string kind) no_members

-- the kind by its name
pub kind_named : (kind name : List ℕ) {depth : ℕ} {old new : List Token} → bytes_eq kind name ≡ true
    → IsMember depth (codes "kind") (string kind) old new → IsMember depth (codes "kind") (string name) old new
kind_named kind name {depth = depth} {old = old} {new = new} same member =
    subst (λ k. IsMember depth (codes "kind") (string k) old new) ((bytes_eq-Decides kind name).0 same) member

-- a MAP
pub map_made : (ack start : ℕ) (ds : Items) (bytes digits payload : List ℕ) (wire : WireMap) → ack < 2 ^ 64
    → start < 2 ^ 64 → numbers_of (2 ^ 32) ds ≡ Some bytes → decode_of digits ≡ Ok payload → map_of payload ≡ Some wire
    → reply_of (object (put (codes "start") (count start) (put (codes "kind") (string (codes "map"))
    (put (codes "hex") (string digits) (put (codes "bytes") (array ds) (put (codes "ack") (count ack) no_members))))))
    ≡ Some (Built (record { start = start; ack = ack; wire = wire; bytes = bytes }))
unfolding reply_of map_reply map_at numbers_at u64_at number_at text_at
map_made ack start ds bytes digits payload wire ack_fits start_fits numbers spelled is =
    rw (below-fits (2 ^ 64) start start_fits) (rw (below-fits (2 ^ 64) ack ack_fits) (
    rw spelled (rw is (rw numbers refl))))

-- a flow's bytes
pub flow_made : (asked granted outstanding : ℕ) → asked < 2 ^ 64 → granted < 2 ^ 64 → outstanding < 2 ^ 64
    → reply_of (object (put (codes "outstanding") (count outstanding) (put (codes "kind") (string (codes "flow"))
    (put (codes "granted") (count granted) (put (codes "asked") (count asked) no_members)))))
    ≡ Some (Flow asked granted outstanding)
unfolding reply_of flow_reply u64_at number_at text_at
flow_made asked granted outstanding asked_fits granted_fits outstanding_fits =
    rw (below-fits (2 ^ 64) asked asked_fits) (rw (below-fits (2 ^ 64) granted granted_fits) (
    rw (below-fits (2 ^ 64) outstanding outstanding_fits) refl))

-- the kind stands alone: there is no placement
pub nowhere : {depth : ℕ} {old new : List Token} (kind : List ℕ) → read_key old ≡ Some (None, new)
    → SaysPlace depth kind (of_kind kind) None old new
unfolding place_of text_at
nowhere kind end = record { all = of_kind kind; are = members_ended end; kind_is = refl; place_is = refl }

-- a reference and starts
abbrev placed_members : List ℕ → ℕ → Items → Members
placed_members kind reference ds =
    put (codes "starts") (array ds) (put (codes "reference") (count reference) (of_kind kind))

-- stand behind a kind
pub placed_kind : (kind : List ℕ) (reference : ℕ) (ds : Items)
    → text_at (codes "kind") (object (placed_members kind reference ds)) ≡ Some kind
unfolding text_at
placed_kind kind reference ds = refl

-- and are a placement
pub placed_made : (kind : List ℕ) (reference : ℕ) (ds : Items) (starts : List ℕ) → reference < 2 ^ 64
    → numbers_of (2 ^ 16) ds ≡ Some starts
    → place_of (object (placed_members kind reference ds))
    ≡ Some (Some (record { reference = reference; starts = starts }))
unfolding place_of placement_of numbers_at u64_at number_at
placed_made kind reference ds starts fits numbers = rw (below-fits (2 ^ 64) reference fits) (rw numbers refl)

-- an admission, by its place
pub admitted_made : {depth : ℕ} {found : Members} {place : Option Placement} {old new : List Token}
    → SaysPlace depth (codes "admitted") found place old new → MakesReply depth found (Admitted place) old new
unfolding reply_of admitted_reply
admitted_made said = record { all = said.all; are = said.are; makes = rw said.kind_is (rw said.place_is refl) }

-- a change, by its place
pub changed_made : {depth : ℕ} {found : Members} {place : Option Placement} {old new : List Token}
    → SaysPlace depth (codes "changed") found place old new → MakesReply depth found (Changed place) old new
unfolding reply_of changed_reply
changed_made said = record { all = said.all; are = said.are; makes = rw said.kind_is (rw said.place_is refl) }

-- a skip
pub skipped_made : (next : ℕ) → next < 2 ^ 64
    → reply_of (object (put (codes "next") (count next) (of_kind (codes "skipped")))) ≡ Some (Skipped next)
unfolding reply_of skipped_reply u64_at number_at text_at
skipped_made next fits = rw (below-fits (2 ^ 64) next fits) refl

-- a refusal
pub refused_made : (n : ℕ) (value : Option ℕ) (refusal : Refusal) → n < 2 ^ 64 → IfSome value (λ v. v < 2 ^ 64)
    → refusal_with n value ≡ Some refusal
    → reply_of (object (with_value value (put (codes "number") (count n) (of_kind (codes "refused")))))
    ≡ Some (Refused refusal)
unfolding reply_of refused_reply u64_if u64_at number_at text_at
refused_made n None refusal fits value is = rw (below-fits (2 ^ 64) n fits) (rw is refl)
refused_made n (Some v) refusal fits value is =
    rw (below-fits (2 ^ 64) n fits) (rw (below-fits (2 ^ 64) v value) (rw is refl))

-- a kind that says nothing more
pub plain_made : (kind name : List ℕ) (reply : Reply) → bytes_eq kind name ≡ true
    → reply_of (object (of_kind name)) ≡ Some reply → reply_of (object (of_kind kind)) ≡ Some reply
plain_made kind name reply same is = rw ((bytes_eq-Decides kind name).0 same) is

-- a flow that was removed
pub removed_made : reply_of (object (of_kind (codes "removed"))) ≡ Some Removed
unfolding reply_of text_at
removed_made = refl

-- a request that was taken
pub taken_made : reply_of (object (of_kind (codes "taken"))) ≡ Some Taken
unfolding reply_of text_at
taken_made = refl

-- progress that was noted
pub noted_made : reply_of (object (of_kind (codes "noted"))) ≡ Some Noted
unfolding reply_of text_at
noted_made = refl

-- an opportunity that was reserved
pub reserved_made : reply_of (object (of_kind (codes "reserved"))) ≡ Some Reserved
unfolding reply_of text_at
reserved_made = refl

-- ---- entries

-- the members of an entry
abbrev pub entry_members : Data → Data → ℕ → ℕ → Members
entry_members c r seat ticket =
    put (codes "ticket") (count ticket) (put (codes "seat") (count seat) (put (codes "reply") r
    (put (codes "call") c no_members)))

-- a call, a reply and a stamp
pub entry_made : (c r : Data) (call : Call) (reply : Reply) (seat ticket : ℕ) → call_of c ≡ Some call
    → reply_of r ≡ Some reply → seat < 2 ^ 32 → ticket < 2 ^ 64
    → entry_of (object (entry_members c r seat ticket))
    ≡ Some (record { stamp = record { seat = seat; ticket = ticket }; call = call; reply = reply })
unfolding entry_of u32_at u64_at number_at
entry_made c r call reply seat ticket call_is reply_is seat_fits ticket_fits =
    rw (below-fits (2 ^ 32) seat seat_fits) (rw (below-fits (2 ^ 64) ticket ticket_fits) (
    rw call_is (rw reply_is refl)))
