-- A periodic flow is admitted with the place that is handed in.
use Rattle.std.proofs.Common.{false, Some, refl, ap, inl, arith, Result, Ok, Err, OnErr}
use Rattle.periodic.specs.Placement.{Placed, IsPlacement}
use Rattle.periodic.specs.Table.{TableView}
use Rattle.sched_history.specs.declared.scheduler.state.State.{State}
use Rattle.sched_calls.specs.declared.reply.Reply.TheVariants as replies
use Rattle.sched_history.proofs.placements.Tables.{find-with_placed, table-undone}
use Rattle.sched_history.proofs.steps.Passed.{passed-admit}
use Rattle.sched_history.proofs.state.Present.{grants-placed_by, flow_of-fresh, find-fresh, answers-periodic}
use Rattle.sched_history.proofs.state.Present.{placement-after, IsPlaceable-after}
use Rattle.sched_history.proofs.state.Moves.{IsStateAfter-placed}
use Rattle.sched_history.proofs.scheduler.state.State.adopt.Goals as goal

pub adopt-requires-clause-is_new : goal.adopt-requires-clause-is_new
adopt-requires-clause-is_new c =
    let s = c.args.self.now in
    let opens = c.requires.open.1 in
    let admits = passed-admit s.config c.requires.open.0 c.args.sid c.args.spec opens.unrefused in
    find-fresh s c.requires.open.0 c.args.sid opens.is_after admits.fresh opens.sound

pub adopt-requires-clause-room : goal.adopt-requires-clause-room
adopt-requires-clause-room c =
    let s = c.args.self.now in
    let opens = c.requires.open.1 in
    let admits = passed-admit s.config c.requires.open.0 c.args.sid c.args.spec opens.unrefused in
    omega (
      arith,
      grants-placed_by s c.requires.open.0 opens.is_after opens.sound.periodic,
      admits.few_grants c.requires.periodic,
      ap (λ k. k.periodic) opens.is_after.table_config,
    )

pub admit-requires : goal.admit-requires
admit-requires c =
    let s = c.args.self.now in
    let opens = c.requires.open.1 in
    let admits = passed-admit s.config c.requires.open.0 c.args.sid c.args.spec opens.unrefused in
    flow_of-fresh s c.requires.open.0 c.args.sid opens.is_after admits.fresh

pub remove-requires : goal.remove-requires
remove-requires c =
    let p : Placed = record { sid = c.args.sid; spec = c.args.spec; placement = c.args.placement.now; rests = false } in
    rw (c.in_ok-adopt.ensures.placed c.if-not-branch.false)
    (find-with_placed p c.args.self.now.table.placed)

pub returns-in-Err-clause-err : goal.returns-in-Err-clause-err
returns-in-Err-clause-err c =
    let old : State = c.args.self.now in
    let p : Placed = record { sid = c.args.sid; spec = c.args.spec; placement = c.args.placement.now; rests = false } in
    let opens = c.requires.open.1 in
    let admits = passed-admit old.config c.requires.open.0 c.args.sid c.args.spec opens.unrefused in
    let put : TableView = c.adopt.new.self in
    rw (c.remove.ensures, c.in-Err.ensures.err)
    (ap (λ (t : TableView). record old { table = t })
    (table-undone old.table put p (find-fresh old c.requires.open.0 c.args.sid opens.is_after admits.fresh opens.sound)
    c.in_ok-adopt.ensures.config (c.in_ok-adopt.ensures.placed c.if-not-branch.false)))

on-err : {X Y : Type 0} (r : Result X Y) (P : Type 0) → P → OnErr r P
on-err (Ok x) P p = tt
on-err (Err e) P p = p

pub returns-in_err-adopt-clause-memory : goal.returns-in_err-adopt-clause-memory
returns-in_err-adopt-clause-memory c =
    on-err c.from_residual.result _ (λ x opens.
    IsPlaceable-after c.args.self.now x c.args.spec c.args.placement.now opens.is_after c.in_err-adopt.ensures.memory)

pub returns-in-Err-clause-memory : goal.returns-in-Err-clause-memory
returns-in-Err-clause-memory c = λ x opens.
    IsPlaceable-after c.args.self.now x c.args.spec c.args.placement.now opens.is_after
    (c.in_ok-adopt.ensures.lawful c.if-not-branch.false)

pub returns-in-Ok-clause-follows : goal.returns-in-Ok-clause-follows
returns-in-Ok-clause-follows c = λ is x opens.
    let s = c.args.self.now in
    let sid = c.args.sid in
    let spec = c.args.spec in
    let p = c.args.placement.now in
    let taken = c.in_ok-adopt.ensures in
    let lawful : IsPlacement s.config x.placed spec x.next p =
    placement-after s x spec p opens.is_after (taken.lawful c.if-not-branch.false) in
    record {
      config = refl;
      answers = answers-periodic s.config x spec (replies.Admitted (Some p)) c.requires.periodic
          (inl (p, lawful, refl));
      encodable = tt;
      is_after = IsStateAfter-placed s x opens.is_after
          (record s { book = c.admit.new.self; table = c.adopt.new.self }) refl c.in-Ok.ensures.config taken.config
          sid spec p c.in-Ok.ensures.ok (taken.placed c.if-not-branch.false);
    }
