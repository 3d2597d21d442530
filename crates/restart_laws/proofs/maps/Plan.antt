-- A plan for flows is a plan for flows that are alike, and leaves them alike.
use Rattle.std.proofs.Common.{◌≡◌, refl, sym, subst, ◌∙◌, ℕ, ◌+◌, ◌≤◌, Bool, true, false}
use Rattle.std.proofs.Common.{List, [], ◌∷◌, ◌++◌, append_assoc, append-nil, arith, inl, inr}
use Rattle.std.proofs.lemmas.List.Sums.{sum_by_push}
use Rattle.minislots.specs.declared.config.Config.{Config}
use Rattle.flow_book.specs.declared.flow.Grant.{Grant}
use Rattle.flow_book.specs.Flows.{LiveFlow}
use Rattle.flow_book.specs.Reserved.{with_grant}
use Rattle.flow_book.specs.Book.{changed}
use Rattle.flow_book.proofs.Order.{all-implied}
use Rattle.map_build.specs.declared.purpose.Allocation.{Allocation}
use Rattle.map_build.specs.declared.purpose.Purpose.{Purpose}
use Rattle.map_build.specs.declared.purpose.Purpose.TheVariants.{Poll, UnsolicitedGrant, Offer, DataGrant, Idle}
use Rattle.map_build.specs.EachAfter.{EachAfter}
use Rattle.map_build.specs.Purpose.{Class, Placed, Reserved, Requested, Left, class_of, classes_before}
use Rattle.map_build.specs.Plan.{Demand, end_of, grants_to, flows_after, room_at, NoneOf, IsOfClass, Stands, IsPlan}
use Rattle.map_build.proofs.FlowsAfter.{allocation, flows_after-push, flows_after-nil, flows_after-none}
use Rattle.map_build.proofs.FlowsAfter.{flows_after-grant}
use Rattle.restart_laws.proofs.flows.Fields.{sid-alike}
use Rattle.restart_laws.proofs.maps.Choice.{AreAlikeAt, HasNext, amount-alike, none-alike, next-alike, alike-later}
use Rattle.restart_laws.proofs.maps.Choice.{alike-granted}

-- The plan is one for these flows too, and leaves them alike
pub record IsPlanOfBoth (c : Config) (d : Demand) (gs : List LiveFlow) (plan : List Allocation) : Type 0 where
  pub is_plan : IsPlan c (record d { flows = gs }) plan
  pub left : AreAlikeAt c (d.start + c.frame) (flows_after c d.start plan d.flows) (flows_after c d.start plan gs)

module _ (c : Config) (d : Demand) (gs : List LiveFlow) where
  -- what the frame has to serve of the others
  abbrev other : Demand
  other = record d { flows = gs }

  -- the flows are alike after these allocations, of which nothing is later than this offset
  abbrev AlikeAfter : List Allocation → ℕ → Type 0
  AlikeAfter before offset =
      AreAlikeAt c (d.start + offset) (flows_after c d.start before d.flows) (flows_after c d.start before gs)

  class-alike : (before : List Allocation) (offset : ℕ) → AlikeAfter before offset → (r : Class)
      → NoneOf c d before offset r → NoneOf c other before offset r
  class-alike before offset are Placed none = none
  class-alike before offset are Reserved none = none
  class-alike before offset are Requested (inl many) = inl many
  class-alike before offset are Requested (inr none) =
      inr (none-alike c (d.start + offset) (room_at c d.spots offset) (flows_after c d.start before d.flows)
      (flows_after c d.start before gs) are none)
  class-alike before offset are Left none = none

  purpose-alike : (before : List Allocation) (offset slots : ℕ) (purpose : Purpose) → AlikeAfter before offset
      → IsOfClass c d before offset slots purpose → IsOfClass c other before offset slots purpose
  purpose-alike before offset slots (Poll sid) are is = is
  purpose-alike before offset slots (UnsolicitedGrant sid size) are is = is
  purpose-alike before offset slots (Offer place usage) are is = is
  purpose-alike before offset slots (DataGrant sid bytes) are is =
      let start : ℕ = d.start + offset in
      let room : ℕ = room_at c d.spots offset in
      let hs : List LiveFlow = flows_after c d.start before gs in
      let has : HasNext c start room hs is.1 =
      next-alike c start room (flows_after c d.start before d.flows) hs are is.1 is.3 in (
        is.0,
        has.flow,
        sym (sid-alike c is.1 has.flow has.same) ∙ is.2,
        has.next,
        amount-alike c start room is.1 has.flow bytes has.own has.other has.same is.4,
        is.5,
      )
  purpose-alike before offset slots Idle are is = is

  -- after one that grants nothing they are as before
  none-granted : (before : List Allocation) (a : Allocation) (later : ℕ)
      → ((sid : ℕ) → grants_to d.start sid (a ∷ []) ≡ []) → a.offset ≤ later → AlikeAfter before a.offset
      → AlikeAfter (before ++ a ∷ []) later
  none-granted before a later none le are =
      rw (
        flows_after-push c d.start before a d.flows,
        flows_after-push c d.start before a gs,
        flows_after-none c d.start a (flows_after c d.start before d.flows) none,
        flows_after-none c d.start a (flows_after c d.start before gs) none,
      ) (alike-later c (flows_after c d.start before d.flows) (flows_after c d.start before gs) (d.start + a.offset)
      (d.start + later) (omega arith) are)

  granted-after : (before : List Allocation) (offset slots later : ℕ) (purpose : Purpose) → offset ≤ later
      → AlikeAfter before offset → IsOfClass c d before offset slots purpose
      → AlikeAfter (before ++ allocation offset slots purpose ∷ []) later
  granted-after before offset slots later (Poll sid) le are is =
      none-granted before (allocation offset slots (Poll sid)) later (λ sid. refl) le are
  granted-after before offset slots later (UnsolicitedGrant sid size) le are is =
      none-granted before (allocation offset slots (UnsolicitedGrant sid size)) later (λ sid. refl) le are
  granted-after before offset slots later (Offer place usage) le are is =
      none-granted before (allocation offset slots (Offer place usage)) later (λ sid. refl) le are
  granted-after before offset slots later (DataGrant sid bytes) le are is =
      let fs : List LiveFlow = flows_after c d.start before d.flows in
      let hs : List LiveFlow = flows_after c d.start before gs in
      let grant : Grant = record { start = d.start + offset; bytes = bytes } in
      let both : AreAlikeAt c (d.start + offset) (changed is.1.sid (with_grant c grant) fs)
      (changed is.1.sid (with_grant c grant) hs) =
      alike-granted c fs hs (d.start + offset) (room_at c d.spots offset) bytes are is.1 is.3 is.4 in
      let own : AreAlikeAt c (d.start + offset) (changed sid (with_grant c grant) fs)
      (changed sid (with_grant c grant) hs) =
      subst (λ n. AreAlikeAt c (d.start + offset) (changed n (with_grant c grant) fs)
      (changed n (with_grant c grant) hs)) is.2 both in
      rw (
        flows_after-push c d.start before (allocation offset slots (DataGrant sid bytes)) d.flows,
        flows_after-push c d.start before (allocation offset slots (DataGrant sid bytes)) gs,
        flows_after-grant c d.start sid offset slots bytes fs,
        flows_after-grant c d.start sid offset slots bytes hs,
      ) (alike-later c (changed sid (with_grant c grant) fs) (changed sid (with_grant c grant) hs) (d.start + offset)
      (d.start + later) (omega arith) own)
  granted-after before offset slots later Idle le are is =
      none-granted before (allocation offset slots Idle) later (λ sid. refl) le are

  -- an allocation that stands after these stands for the others too
  stands-alike : (before : List Allocation) (a : Allocation) → AlikeAfter before (end_of c before)
      → Stands c d before a → Stands c other before a
  stands-alike before a are stands =
      let here : AlikeAfter before a.offset = subst (AlikeAfter before) (sym stands.follows) are in
      record {
        some_slots = stands.some_slots;
        follows = stands.follows;
        purpose = purpose-alike before a.offset a.slots a.purpose here stands.purpose;
        first = all-implied (NoneOf c d before a.offset) (NoneOf c other before a.offset)
            (classes_before (class_of a.purpose))
            (class-alike before a.offset here) stands.first;
      }

  alike-after : (before : List Allocation) (a : Allocation) → AlikeAfter before (end_of c before)
      → Stands c d before a → AlikeAfter (before ++ a ∷ []) (end_of c (before ++ a ∷ []))
  alike-after before a are stands =
      let here : AlikeAfter before a.offset = subst (AlikeAfter before) (sym stands.follows) are in
      granted-after before a.offset a.slots (end_of c (before ++ a ∷ [])) a.purpose
      (omega (arith, stands.follows, sum_by_push (λ (b : Allocation). b.slots) before a)) here stands.purpose

  each-alike : (before plan : List Allocation) → EachAfter (Stands c d) before plan
      → AlikeAfter before (end_of c before)
      → EachAfter (Stands c other) before plan × AlikeAfter (before ++ plan) (end_of c (before ++ plan))
  each-alike before [] each are = rw (append-nil before) (tt, are)
  each-alike before (a ∷ plan) each are =
      let rest = each-alike (before ++ a ∷ []) plan each.1 (alike-after before a are each.0) in
      let joined : (before ++ a ∷ []) ++ plan ≡ before ++ a ∷ plan = append_assoc before (a ∷ []) plan in
      ((stands-alike before a are each.0, rest.0), subst (λ all. AlikeAfter all (end_of c all)) joined rest.1)

  begun-alike : (offset : ℕ) → AreAlikeAt c d.start d.flows gs → AlikeAfter [] offset
  begun-alike offset are =
      rw (flows_after-nil c d.start d.flows, flows_after-nil c d.start gs)
      (alike-later c d.flows gs d.start (d.start + offset) (omega arith) are)

  -- a plan for flows is one for flows that are alike
  pub plan-alike : (plan : List Allocation) → AreAlikeAt c d.start d.flows gs → IsPlan c d plan
      → IsPlanOfBoth c d gs plan
  plan-alike plan are is =
      let both = each-alike [] plan is.each (begun-alike (end_of c []) are) in
      record {
        is_plan = record { each = both.0; whole = is.whole; due = is.due; quiet = is.quiet };
        left = by-settles d.settles refl both.1;
      }
    where
      by-settles : (settles : Bool) → d.settles ≡ settles → AlikeAfter plan (end_of c plan) → AlikeAfter plan c.frame
      by-settles true quiet after = rw (is.quiet quiet) (begun-alike c.frame are)
      by-settles false lasts after = subst (AlikeAfter plan) (is.whole lasts) after
