-- The readers of an entry and of a reply take the objects of their forms and no others. The number of a refusal and its
-- value are tested together behind their form (`refusal_with`).
use Rattle.std.proofs.Common.{◌≡◌, ℕ, true, is_some, List, [], ◌∷◌, take, drop, codes, Option, Some, None, refl}
use Rattle.serde_json.specs.Data.{Data, null, object, array, number, unsigned, string, Members, put, no_members}
use Rattle.serde_json.specs.Data.{no_items, item}
use Rattle.sched_calls.specs.declared.reply.Refusal.TheVariants.{OtherKind, NotUnsolicited, TooShort}
use Rattle.sched_calls.specs.declared.reply.Reply.TheVariants as reply
use Rattle.json_fields.specs.declared.forms.Sort.{Sort}
use Rattle.json_fields.specs.declared.forms.Sort.TheVariants.{Document, Config, Bursts, Profile, Entry, Call}
use Rattle.json_fields.specs.declared.forms.Sort.TheVariants.{Flow, Reply}
use Rattle.json_fields.specs.declared.forms.TheConstants.{ENTRIES, REPLIES}
use Rattle.json_fields.specs.Fields.{◌>>=◌, u16_at, u32_at, u64_at, number_at, text_at}
use Rattle.json_fields.proofs.FormRows.{takes_forms}
use Rattle.call_reading.specs.Calls.{call_of, status_call}
use Rattle.history_reading.specs.Refusals.{fault_with, refusal_with}
use Rattle.history_reading.specs.Replies.{number_below, numbers_of, numbers_at, placement_of, place_of, admitted_reply}
use Rattle.history_reading.specs.Replies.{changed_reply, map_of, map_at, map_reply, skipped_reply, flow_reply, u64_if}
use Rattle.history_reading.specs.Replies.{refused_reply, reply_of, entry_of}
use Rattle.hex.specs.Hex.{decode_pairs}
use Rattle.map_codec.specs.Element.{elements_in}
use Rattle.map_codec.specs.DecodeFault.{fault_of, elements_fault, least}

-- a call and a reply that can be read
abbrev inner : Sort → Data
inner (Document kind) = null
inner Config = null
inner Bursts = null
inner Profile = null
inner Entry = null
inner Call = object (put (codes "call") (string (codes "status")) (put (codes "sid") (number (unsigned 0)) no_members))
inner Flow = null
inner Reply = object (put (codes "kind") (string (codes "taken")) no_members)

entries : takes_forms (λ d. is_some (entry_of d)) inner ENTRIES ≡ true
unfolding entry_of call_of status_call reply_of u16_at u32_at u64_at number_at text_at
entries = refl

-- admissions, removals and what is taken or noted
replies : takes_forms (λ d. is_some (reply_of d)) inner (take 4 REPLIES) ≡ true
unfolding reply_of admitted_reply place_of placement_of numbers_at numbers_of number_below u64_at number_at text_at
replies = refl

-- MAPs
maps : takes_forms (λ d. is_some (reply_of d)) inner (take 1 (drop 4 REPLIES)) ≡ true
unfolding reply_of map_reply map_at map_of decode_pairs elements_in fault_of elements_fault least numbers_at numbers_of
    number_below u64_at number_at text_at
maps = refl

-- frames that are skipped, and a flow's bytes
frames_and_flows : takes_forms (λ d. is_some (reply_of d)) inner (take 2 (drop 5 REPLIES)) ≡ true
unfolding reply_of skipped_reply flow_reply u64_at number_at text_at
frames_and_flows = refl

-- what a refusal is read from
abbrev refusal_parts : Data → Option (Option ℕ)
refusal_parts d = do
  kind ← text_at (codes "kind") d
  n ← u64_at (codes "number") d
  u64_if (codes "value") d

refusals : takes_forms (λ d. is_some (refusal_parts d)) inner (take 1 (drop 7 REPLIES)) ≡ true
unfolding u64_if u64_at number_at text_at
refusals = refl

-- Reserves
reserves : takes_forms (λ d. is_some (reply_of d)) inner (take 1 (drop 8 REPLIES)) ≡ true
unfolding reply_of text_at
reserves = refl

-- changes
changes : takes_forms (λ d. is_some (reply_of d)) inner (drop 9 REPLIES) ≡ true
unfolding reply_of changed_reply place_of placement_of numbers_at numbers_of number_below u64_at number_at text_at
changes = refl

-- a reply of this kind, with these members behind it
abbrev of_kind : List ℕ → Members → Data
of_kind kind more = object (put (codes "kind") (string kind) more)

a_change : reply_of (of_kind (codes "changed") no_members) ≡ Some (reply.Changed None)
unfolding reply_of changed_reply place_of text_at
a_change = refl

-- the numbers of an array, as a text has them
abbrev starts : Members
starts = put (codes "starts") (array (item (number (unsigned 4)) (item (number (unsigned 19)) no_items))) no_members

a_change_with_a_place : reply_of (of_kind (codes "changed") (put (codes "reference") (number (unsigned 844)) starts))
    ≡ Some (reply.Changed (Some (record { reference = 844; starts = 4 ∷ 19 ∷ [] })))
unfolding reply_of changed_reply place_of placement_of numbers_at numbers_of number_below u64_at number_at text_at
a_change_with_a_place = refl

a_change_with_starts_alone : reply_of (of_kind (codes "changed") starts) ≡ None
unfolding reply_of changed_reply place_of placement_of numbers_at numbers_of number_below u64_at number_at text_at
a_change_with_starts_alone = refl

-- a refusal of this number, with these members behind it
abbrev refused : ℕ → Members → Data
refused n more = of_kind (codes "refused") (put (codes "number") (number (unsigned n)) more)

refused_another_kind : reply_of (refused 21 no_members) ≡ Some (reply.Refused OtherKind)
unfolding reply_of refused_reply refusal_with u64_if u64_at number_at text_at
refused_another_kind = refl

refused_another_flow : reply_of (refused 22 no_members) ≡ Some (reply.Refused NotUnsolicited)
unfolding reply_of refused_reply refusal_with u64_if u64_at number_at text_at
refused_another_flow = refl

refused_a_short_grant : reply_of (refused 23 no_members) ≡ Some (reply.Refused TooShort)
unfolding reply_of refused_reply refusal_with u64_if u64_at number_at text_at
refused_a_short_grant = refl

-- no such refusal has a value, and none has a greater number
refused_with_a_value : reply_of (refused 21 (put (codes "value") (number (unsigned 0)) no_members)) ≡ None
unfolding reply_of refused_reply refusal_with fault_with u64_if u64_at number_at text_at
refused_with_a_value = refl

refused_for_nothing : reply_of (refused 24 no_members) ≡ None
unfolding reply_of refused_reply refusal_with u64_if u64_at number_at text_at
refused_for_nothing = refl
