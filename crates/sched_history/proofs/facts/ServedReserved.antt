-- In a legal history no idle and no data grant of a lower rank stands where a flow is under its reservation.
use Rattle.std.proofs.Common.{◌≡◌, ℕ, ◌+◌, ◌≤◌, Bool, true, ◌&&◌, ◌||◌, nat_lt, ◌==◌, List, [], ◌∷◌, ◌++◌, inl, inr}
use Rattle.std.proofs.Common.{cond, ap, subst, arith}
use Rattle.std.specs.List.{AllByRecursion}
use Rattle.std.proofs.lemmas.Bool.Decides.{nat_tests}
use Rattle.minislots.specs.declared.config.Config.{Config}
use Rattle.sched_calls.specs.FlowSpec.{rank_of}
use Rattle.flow_book.specs.Flows.{LiveFlow}
use Rattle.flow_book.specs.Reserved.{is_under, rank_at}
use Rattle.flow_book.specs.Choice.{last_start, is_earlier, is_as_early}
use Rattle.flow_book.proofs.Order.{all-contains}
use Rattle.map_build.specs.declared.purpose.Allocation.{Allocation}
use Rattle.map_build.specs.declared.purpose.Purpose.{Purpose}
use Rattle.map_build.specs.declared.purpose.Purpose.TheVariants.{DataGrant, Idle}
use Rattle.map_build.specs.EachAfter.{EachAfter}
use Rattle.map_build.specs.Purpose.{class_of, classes_before}
use Rattle.map_build.specs.Plan.{Demand, NoneOf, IsOfClass, Stands}
use Rattle.sched_calls.specs.declared.call.Call.{Call}
use Rattle.sched_calls.specs.declared.reply.Reply.{Reply}
use Rattle.sched_calls.specs.declared.reply.Reply.TheVariants as replies
use Rattle.sched_calls.specs.declared.reply.Entry.{Entry}
use Rattle.sched_history.specs.History.{demand_after, IsNextMap, IsStep, IsLegal}
use Rattle.sched_history.specs.Facts.{GivesWay, ServesReserved}
use Rattle.sched_history.proofs.steps.LegalHistories.{IsNextMap-from_step, EachAfter-from_legal}

-- of two flows the one that goes first has no lower rank
first-ranks : (rf rg : ℕ) (rest : Bool) → (nat_lt rg rf || (rf == rg && rest)) ≡ true → rg ≤ rf
first-ranks rf rg rest first = grind (arith, nat_tests)

-- a flow under its reservation has the rank of polled flows
under-ranks : (c : Config) (start : ℕ) (f : LiveFlow) → is_under c start f ≡ true → rank_at c start f ≡ 8
under-ranks c start f under = ap (λ b. cond b 8 (rank_of f.spec)) under

module _ (c : Config) (d : Demand) where
  gives_way : (before : List Allocation) (offset slots : ℕ) (purpose : Purpose) → IsOfClass c d before offset slots purpose
      → AllByRecursion (NoneOf c d before offset) (classes_before (class_of purpose))
      → GivesWay c d before offset purpose
  gives_way before offset slots (DataGrant sid bytes) stands none = (
    stands.1,
    stands.3.live,
    stands.2,
    (λ g reserving. elim (all-contains _ _ g stands.3.first reserving.live reserving.may) [
      | inl same ↦ (
          let f = stands.1 in
          let start = d.start + offset in
          let mine : is_under c start f ≡ true = subst (λ h. is_under c start h ≡ true) same reserving.under in
          omega (arith, under-ranks c start f mine))
      | inr before' ↦ (
          let f = stands.1 in
          let start = d.start + offset in
          omega (
            arith,
            under-ranks c start g reserving.under,
            first-ranks (rank_at c start f) (rank_at c start g)
                (is_earlier (last_start f.grants) (last_start g.grants)
                || (is_as_early (last_start f.grants) (last_start g.grants) && nat_lt f.sid g.sid)) before',
          ))
    ]),
  )
  gives_way before offset slots Idle stands none = λ left g reserving. elim none.1.1.0 [
    | inl full ↦ omega (arith, left, full)
    | inr nobody ↦ all-contains _ _ g nobody reserving.live reserving.may
  ]
  gives_way before offset slots purpose stands none = tt

  each_gives : (before plan : List Allocation) → EachAfter (Stands c d) before plan
      → EachAfter (λ front a. GivesWay c d front a.offset a.purpose) before plan
  each_gives before [] each = tt
  each_gives before (a ∷ plan) each = (
    gives_way before a.offset a.slots a.purpose each.0.purpose each.0.first,
    each_gives (before ++ a ∷ []) plan each.1,
  )

module _ (c : Config) where
  serves_by : (h : List Entry) (call : Call) (reply : Reply) → IsStep c h call reply → ServesReserved c h reply
  serves_by h call (replies.Built m) step =
      let next : IsNextMap c h m = IsNextMap-from_step c h call m step in
      (next.0, next.2, each_gives c (demand_after c h) [] next.0 next.1.each)
  serves_by h call reply step = tt

  -- each allocation of each MAP gives way to flows under their reservations
  pub serves_reserved : (h : List Entry) → IsLegal c h → EachAfter (λ before e. ServesReserved c before e.reply) [] h
  serves_reserved = EachAfter-from_legal c (λ before e. ServesReserved c before e.reply)
      (λ h e legal step. serves_by h e.call e.reply step)
