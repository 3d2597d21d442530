-- A flow is placed anew where it was placed elsewhere.
use Rattle.std.proofs.Common.{false, Some, refl, inl, inr, Result, Ok, Err, OnErr}
use Rattle.sched_calls.specs.declared.reply.Reply.TheVariants as replies
use Rattle.sched_history.proofs.state.ChangeMoves.{IsStateAfter-changed}
use Rattle.sched_history.proofs.state.Changing.{had, had-place, change-live, change-kind}
use Rattle.sched_history.proofs.state.Changing.{change-fault, change-is_placed, change-room, placed-answer}
use Rattle.sched_history.proofs.state.Changing.{beside, beside-table, answers-given, given-answers, takes-given}
use Rattle.sched_history.proofs.scheduler.state.State.adopt_change.Goals as goal

on-err : {X Y : Type 0} (r : Result X Y) (P : Type 0) → P → OnErr r P
on-err (Ok x) P p = tt
on-err (Err e) P p = p

pub adopt_anew-requires-clause-placed : goal.adopt_anew-requires-clause-placed
adopt_anew-requires-clause-placed c =
    change-is_placed c.args.self.now c.requires.open.0 c.args.sid c.args.spec c.requires.open.1 c.requires.periodic

pub adopt_anew-requires-clause-no_fault : goal.adopt_anew-requires-clause-no_fault
adopt_anew-requires-clause-no_fault c =
    change-fault c.args.self.now c.requires.open.0 c.args.sid c.args.spec c.requires.open.1

pub adopt_anew-requires-clause-room : goal.adopt_anew-requires-clause-room
adopt_anew-requires-clause-room c =
    change-room c.args.self.now c.requires.open.0 c.args.sid c.args.spec c.requires.open.1 c.requires.periodic

pub change-requires-clause-live : goal.change-requires-clause-live
change-requires-clause-live c = change-live c.args.self.now c.requires.open.0 c.args.sid c.args.spec c.requires.open.1

pub change-requires-clause-kind : goal.change-requires-clause-kind
change-requires-clause-kind c = change-kind c.args.self.now c.requires.open.0 c.args.sid c.args.spec c.requires.open.1

pub returns-in_err-adopt_anew-clause-memory : goal.returns-in_err-adopt_anew-clause-memory
returns-in_err-adopt_anew-clause-memory c =
    on-err c.from_residual.result _ (λ x opens. takes-given c.args.self.now x c.args.sid c.args.spec opens
    (inr (
      c.requires.periodic,
      (
        c.args.placement.now,
        beside c.args.self.now x c.args.sid c.args.spec opens
            c.requires.periodic c.args.placement.now c.in_err-adopt_anew.ensures.memory,
      ),
    )))

pub returns-then-not-branch-clause-differs : goal.returns-then-not-branch-clause-differs
returns-then-not-branch-clause-differs c = λ is x opens answers.
    let s = c.args.self.now in
    let sid = c.args.sid in
    let spec = c.args.spec in
    let p = c.args.placement.now in
    let other = had-place s x sid spec opens false c.requires.other in
    c.in_ok-adopt_anew.ensures.unlawful c.if-not-branch.true
    (beside-table s x sid spec opens c.requires.periodic p
    (placed-answer s.config x sid (had s x sid spec opens) spec p other c.requires.periodic
    (given-answers s x sid spec opens (replies.Changed (Some p)) answers)))

pub returns-clause-follows : goal.returns-clause-follows
returns-clause-follows c = λ is x opens.
    let s = c.args.self.now in
    let sid = c.args.sid in
    let spec = c.args.spec in
    let p = c.args.placement.now in
    let taken = c.in_ok-adopt_anew.ensures in
    let other = had-place s x sid spec opens false c.requires.other in
    let lawful = beside s x sid spec opens c.requires.periodic p (taken.lawful c.if-not-branch.false) in
    record {
      config = refl;
      answers = answers-given s x sid spec opens (replies.Changed (Some p))
          (inr (inl (other, c.requires.periodic, inl (p, lawful, refl))));
      encodable = tt;
      is_after = IsStateAfter-changed s x opens.is_after sid spec p c.change.new.self
          c.adopt_anew.new.self c.change.ensures taken.config (taken.placed c.if-not-branch.false);
    }
