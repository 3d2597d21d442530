-- The frame of the next start is the next frame, and what waits for it are the opportunities of the first Reserves.
use Rattle.std.proofs.Common.{◌≡◌, ◌*◌, ◌/◌, Bool, List, IfOk, take, subst, arith}
use Rattle.std.proofs.lemmas.Result.{IfOk-weaker}
use Rattle.std.proofs.Math.Nat.{mod-eq-sub-div-mul, div-mul-le_self}
use Rattle.periodic.specs.declared.placement.Spot.{Spot}
use Rattle.sched_calls.specs.declared.frame_map.FrameMap.{FrameMap}
use Rattle.sched_calls.specs.declared.opportunity.Opportunity.{Opportunity}
use Rattle.map_build.specs.Plan.{Demand}
use Rattle.map_build.specs.FrameMap.{IsLawfulMap, IsLawfulFrame}
use Rattle.sched_history.specs.declared.scheduler.state.State.{State}
use Rattle.sched_history.specs.Time.{least}
use Rattle.sched_history.specs.State.{next_demand}
use Rattle.sched_history.proofs.scheduler.state.State.plan_next.Goals as goal

-- what the next frame has to serve, where its MAP settles so
abbrev with_head : Bool → State → Demand
with_head b s = record (next_demand s) { settles = b }

pub returns-clause-lawful : goal.returns-clause-lawful
returns-clause-lawful c =
    let next = c.args.self.now.next in
    let frame = c.args.self.now.config.frame in
    let whole : next / frame * frame ≡ next =
    omega (arith, mod-eq-sub-div-mul next frame, div-mul-le_self next frame, c.requires.aligned) in
    let s = c.args.self.now in
    subst (λ (b : Bool). IfOk c.plan_with_book.result (IsLawfulFrame s.config (with_head b s) s.header
    (least (take s.config.receivers s.progress)))) c.if-settles.ensures
    (rw (
      c.waiting_count.ensures.value,
      c.waiting-waiting.ensures,
      c.from.ensures,
      c.frame.ensures.value,
      c.requires.book_config,
      c.ack-ack.ensures,
      whole,
    ) at c.plan_with_book.ensures.lawful)

pub returns-clause-only : goal.returns-clause-only
returns-clause-only c =
    let next = c.args.self.now.next in
    let frame = c.args.self.now.config.frame in
    let whole : next / frame * frame ≡ next =
    omega (arith, mod-eq-sub-div-mul next frame, div-mul-le_self next frame, c.requires.aligned) in
    let s = c.args.self.now in
    subst (λ (b : Bool). IfOk c.plan_with_book.result (λ p. (n : FrameMap) → IsLawfulMap s.config (with_head b s)
    s.header (least (take s.config.receivers s.progress)) n → n ≡ p.map)) c.if-settles.ensures
    (rw (
      c.waiting_count.ensures.value,
      c.waiting-waiting.ensures,
      c.from.ensures,
      c.frame.ensures.value,
      c.requires.book_config,
      c.ack-ack.ensures,
      whole,
    ) at c.plan_with_book.ensures.only)

pub returns-then-settles-clause-only : goal.returns-then-settles-clause-only
returns-then-settles-clause-only c =
    let s = c.args.self.now in
    let spots : List Spot = (next_demand s).spots in
    let waiting : List Opportunity = (next_demand s).waiting in
    let only = c.plan_settling.ensures.only in
    subst (λ (b : Bool). IfOk c.plan_settling.result (λ p. (n : FrameMap) → IsLawfulMap s.config (with_head b s)
    s.header (least (take s.config.receivers s.progress)) n → n ≡ p.map)) c.if-settles.ensures
    (rw (c.requires.book_config, c.ack-ack.ensures) at
    (IfOk-weaker c.plan_settling.result _ _ (λ p holds. holds spots waiting) only))
