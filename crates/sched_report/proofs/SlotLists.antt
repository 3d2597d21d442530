-- The minislots of allocations by their use, with one allocation more.
use Rattle.std.proofs.Common.{◌≡◌, ℕ, ◌+◌, ◌<◌, ◌≤◌, Bool, false, List, [], ◌∷◌, ◌++◌, map, get_or}
use Rattle.std.proofs.Common.{sym, ap}
use Rattle.std.proofs.Common.{◌∙◌, if◌then◌else◌, arith}
use Rattle.std.specs.Prelude.{sum_by}
use Rattle.std.specs.List.{range_with_len}
use Rattle.std.proofs.lemmas.List.Sums.{sum_by_push}
use Rattle.std.proofs.lemmas.List.FromFn.{map-range_with_len_more}
use Rattle.map_codec.specs.declared.element.Element.{Element}
use Rattle.map_drawing.specs.declared.allocation.Allocation.{Allocation}
use Rattle.map_codec.specs.Element.{nulls, element_at, Ascends}
use Rattle.map_drawing.specs.Allocation.{front_length, allocation_at}
use Rattle.map_drawing.proofs.Fronts.{offset-≤}
use Rattle.map_build.specs.declared.met.Met.{Met}
use Rattle.map_build.specs.Reading.{meets_at}
use Rattle.sched_calls.specs.declared.reply.Entry.{Entry}
use Rattle.frame_picture.specs.Frames.{is_unsolicited_after, TellsUnsolicited}
use Rattle.sched_report.specs.declared.slots.Slots.{Slots}
use Rattle.sched_report.specs.declared.slots.Use.{Use}
use Rattle.sched_report.specs.declared.slots.Use.TheVariants.{Request, Poll, Unsolicited, Opportunity, Data, Open, Idle}
use Rattle.sched_report.specs.Uses.{use_of, is_request, is_poll, is_unsolicited, is_opportunity, is_data, is_open}
use Rattle.sched_report.specs.Uses.{is_idle}
use Rattle.sched_report.specs.Uses.{slots_with, slots_among, all_slots, with_slots}

-- so many minislots of each use
abbrev slots_with_all : ℕ → ℕ → ℕ → ℕ → ℕ → ℕ → ℕ → Slots
slots_with_all grants idle open_idle opportunity poll request unsolicited = record {
  data_grants = grants;
  idle = idle;
  open_idle = open_idle;
  opportunity = opportunity;
  poll = poll;
  request = request;
  unsolicited = unsolicited;
}

-- minislots by their use are the same where those of each use are
pub same_slots : (a b : Slots) → a.data_grants ≡ b.data_grants → a.idle ≡ b.idle → a.open_idle ≡ b.open_idle
    → a.opportunity ≡ b.opportunity → a.poll ≡ b.poll → a.request ≡ b.request → a.unsolicited ≡ b.unsolicited → a ≡ b
same_slots a b grants idle open_idle opportunity poll request unsolicited =
    ap (λ n. slots_with_all n a.idle a.open_idle a.opportunity a.poll a.request a.unsolicited) grants
    ∙ ap (λ n. slots_with_all b.data_grants n a.open_idle a.opportunity a.poll a.request a.unsolicited) idle
    ∙ ap (λ n. slots_with_all b.data_grants b.idle n a.opportunity a.poll a.request a.unsolicited) open_idle
    ∙ ap (λ n. slots_with_all b.data_grants b.idle b.open_idle n a.poll a.request a.unsolicited) opportunity
    ∙ ap (λ n. slots_with_all b.data_grants b.idle b.open_idle b.opportunity n a.request a.unsolicited) poll
    ∙ ap (λ n. slots_with_all b.data_grants b.idle b.open_idle b.opportunity b.poll n a.unsolicited) request
    ∙ ap (λ n. slots_with_all b.data_grants b.idle b.open_idle b.opportunity b.poll b.request n) unsolicited

module _ (met : List Met) (unsolicited : ℕ → Bool) (some : List Allocation) (a : Allocation) where
  -- the minislots of a use with one allocation more
  field : (kind : Use → Bool) (k : Use) → use_of a (meets_at met a.offset) (unsolicited a.sid) ≡ k
      → sum_by (slots_with kind met unsolicited) (some ++ a ∷ [])
      ≡ sum_by (slots_with kind met unsolicited) some + (if kind k then a.length else 0)
  field kind k is =
      sum_by_push (slots_with kind met unsolicited) some a
      ∙ ap (λ (u : Use). sum_by (slots_with kind met unsolicited) some + (if kind u then a.length else 0)) is

  -- one allocation more is that many minislots of its use more
  pub slots_among-push : (k : Use) → use_of a (meets_at met a.offset) (unsolicited a.sid) ≡ k
      → slots_among met unsolicited (some ++ a ∷ []) ≡ with_slots (slots_among met unsolicited some) k a.length
  slots_among-push Request is = same_slots _ _ (omega (arith, field is_data Request is))
      (omega (arith, field is_idle Request is)) (omega (arith, field is_open Request is))
      (omega (arith, field is_opportunity Request is)) (omega (arith, field is_poll Request is))
      (omega (arith, field is_request Request is)) (omega (arith, field is_unsolicited Request is))
  slots_among-push Poll is = same_slots _ _ (omega (arith, field is_data Poll is))
      (omega (arith, field is_idle Poll is)) (omega (arith, field is_open Poll is))
      (omega (arith, field is_opportunity Poll is)) (omega (arith, field is_poll Poll is))
      (omega (arith, field is_request Poll is)) (omega (arith, field is_unsolicited Poll is))
  slots_among-push Unsolicited is = same_slots _ _ (omega (arith, field is_data Unsolicited is))
      (omega (arith, field is_idle Unsolicited is)) (omega (arith, field is_open Unsolicited is))
      (omega (arith, field is_opportunity Unsolicited is)) (omega (arith, field is_poll Unsolicited is))
      (omega (arith, field is_request Unsolicited is)) (omega (arith, field is_unsolicited Unsolicited is))
  slots_among-push Opportunity is = same_slots _ _ (omega (arith, field is_data Opportunity is))
      (omega (arith, field is_idle Opportunity is)) (omega (arith, field is_open Opportunity is))
      (omega (arith, field is_opportunity Opportunity is)) (omega (arith, field is_poll Opportunity is))
      (omega (arith, field is_request Opportunity is)) (omega (arith, field is_unsolicited Opportunity is))
  slots_among-push Data is = same_slots _ _ (omega (arith, field is_data Data is))
      (omega (arith, field is_idle Data is)) (omega (arith, field is_open Data is))
      (omega (arith, field is_opportunity Data is)) (omega (arith, field is_poll Data is))
      (omega (arith, field is_request Data is)) (omega (arith, field is_unsolicited Data is))
  slots_among-push Open is = same_slots _ _ (omega (arith, field is_data Open is))
      (omega (arith, field is_idle Open is)) (omega (arith, field is_open Open is))
      (omega (arith, field is_opportunity Open is)) (omega (arith, field is_poll Open is))
      (omega (arith, field is_request Open is)) (omega (arith, field is_unsolicited Open is))
  slots_among-push Idle is = same_slots _ _ (omega (arith, field is_data Idle is))
      (omega (arith, field is_idle Idle is)) (omega (arith, field is_open Idle is))
      (omega (arith, field is_opportunity Idle is)) (omega (arith, field is_poll Idle is))
      (omega (arith, field is_request Idle is)) (omega (arith, field is_unsolicited Idle is))

-- so many minislots more in all
pub all_slots-with : (s : Slots) (k : Use) (n : ℕ) → all_slots (with_slots s k n) ≡ all_slots s + n
all_slots-with s Request n = omega arith
all_slots-with s Poll n = omega arith
all_slots-with s Unsolicited n = omega arith
all_slots-with s Opportunity n = omega arith
all_slots-with s Data n = omega arith
all_slots-with s Open n = omega arith
all_slots-with s Idle n = omega arith

-- the allocations of the first elements
abbrev pub first_allocations : List Element → ℕ → List Allocation
first_allocations es n = map (allocation_at es) (range_with_len 0 n)

-- and of one element more
pub first_allocations-more : (es : List Element) (n : ℕ)
    → first_allocations es (n + 1) ≡ first_allocations es n ++ allocation_at es n ∷ []
first_allocations-more es n = map-range_with_len_more (allocation_at es) 0 n n (omega arith)

module _ (es : List Element) (i : ℕ) (slots new : Slots) (a : Allocation) (k : Use) (n : ℕ)
    (at_place : a ≡ allocation_at es i) (long : n ≡ a.length) (more : new ≡ with_slots slots k n) where
  -- the allocation of the next element is counted by its use
  pub slots-more : (met : List Met) (flows : List Bool) → a.sid < 65536
      → k ≡ use_of a (meets_at met a.offset) (get_or flows a.sid false)
      → (h : List Entry) → TellsUnsolicited flows h
      → slots ≡ slots_among met (is_unsolicited_after h) (first_allocations es i)
      → new ≡ slots_among met (is_unsolicited_after h) (first_allocations es (i + 1))
  slots-more met flows below kind h tells before =
      let unsolicited : ℕ → Bool = is_unsolicited_after h in
      let some : List Allocation = first_allocations es i in
      let is : use_of a (meets_at met a.offset) (unsolicited a.sid) ≡ k =
      ap (use_of a (meets_at met a.offset)) (sym (tells a.sid below)) ∙ sym kind in
      more ∙ ap (λ (s : Slots). with_slots s k n) before
      ∙ ap (λ (m : ℕ). with_slots (slots_among met unsolicited some) k m) long
      ∙ sym (slots_among-push met unsolicited some a k is)
      ∙ ap (λ (b : Allocation). slots_among met unsolicited (some ++ b ∷ [])) at_place
      ∙ ap (slots_among met unsolicited) (sym (first_allocations-more es i))

  -- and the minislots in all go on up to the next element
  pub all_slots-more : nulls es ≡ 1 → Ascends es → i < front_length es → all_slots slots ≤ (element_at es i).offset
      → all_slots new ≤ (element_at es (i + 1)).offset
  all_slots-more one ascends before within =
      omega (
        arith,
        ap all_slots more,
        all_slots-with slots k n,
        long,
        ap (λ (b : Allocation). b.length) at_place,
        offset-≤ es one ascends i (i + 1) (omega arith) (omega (arith, before)),
        within,
      )
