-- A flow keeps its placement, which is told anew.
use Rattle.std.proofs.Common.{true, Some, refl, ap, inl, Result, Ok, Err, OnErr}
use Rattle.sched_calls.specs.declared.reply.Reply.TheVariants as replies
use Rattle.sched_history.proofs.state.ChangeMoves.{IsStateAfter-changed}
use Rattle.sched_history.proofs.state.Changing.{had, had-place, place-periodic, change-live, change-kind}
use Rattle.sched_history.proofs.state.Changing.{change-fault, change-aligned, change-next, change-is_placed}
use Rattle.sched_history.proofs.state.Changing.{change-alike, kept-told, answers-given, takes-given}
use Rattle.sched_history.proofs.scheduler.state.State.change_in_place.Goals as goal

on-err : {X Y : Type 0} (r : Result X Y) (P : Type 0) → P → OnErr r P
on-err (Ok x) P p = tt
on-err (Err e) P p = p

pub told-requires-clause-placed : goal.told-requires-clause-placed
told-requires-clause-placed c =
    let s = c.args.self.now in
    let opens = c.requires.open.1 in
    let same = had-place s c.requires.open.0 c.args.sid c.args.spec opens true c.requires.alike in
    let periodic = place-periodic (had s c.requires.open.0 c.args.sid c.args.spec opens).spec c.args.spec same in
    change-is_placed s c.requires.open.0 c.args.sid c.args.spec opens periodic

pub told-requires-clause-alike : goal.told-requires-clause-alike
told-requires-clause-alike c =
    let s = c.args.self.now in
    let opens = c.requires.open.1 in
    let same = had-place s c.requires.open.0 c.args.sid c.args.spec opens true c.requires.alike in
    let periodic = place-periodic (had s c.requires.open.0 c.args.sid c.args.spec opens).spec c.args.spec same in
    change-alike s c.requires.open.0 c.args.sid c.args.spec opens periodic same

pub told-requires-clause-aligned : goal.told-requires-clause-aligned
told-requires-clause-aligned c =
    change-aligned c.args.self.now c.requires.open.0 c.args.sid c.args.spec c.requires.open.1

pub told-requires-clause-most : goal.told-requires-clause-most
told-requires-clause-most c =
    change-next c.args.self.now c.requires.open.0 c.args.sid c.args.spec c.requires.open.1

pub keep-requires-clause-placed : goal.keep-requires-clause-placed
keep-requires-clause-placed c =
    let s = c.args.self.now in
    let opens = c.requires.open.1 in
    let same = had-place s c.requires.open.0 c.args.sid c.args.spec opens true c.requires.alike in
    let periodic = place-periodic (had s c.requires.open.0 c.args.sid c.args.spec opens).spec c.args.spec same in
    change-is_placed s c.requires.open.0 c.args.sid c.args.spec opens periodic

pub keep-requires-clause-alike : goal.keep-requires-clause-alike
keep-requires-clause-alike c =
    let s = c.args.self.now in
    let opens = c.requires.open.1 in
    let same = had-place s c.requires.open.0 c.args.sid c.args.spec opens true c.requires.alike in
    let periodic = place-periodic (had s c.requires.open.0 c.args.sid c.args.spec opens).spec c.args.spec same in
    change-alike s c.requires.open.0 c.args.sid c.args.spec opens periodic same

pub keep-requires-clause-no_fault : goal.keep-requires-clause-no_fault
keep-requires-clause-no_fault c =
    change-fault c.args.self.now c.requires.open.0 c.args.sid c.args.spec c.requires.open.1

pub keep-requires-clause-told : goal.keep-requires-clause-told
keep-requires-clause-told c = (c.args.self.now.next, c.in_ok-placement.ensures)

pub change-requires-clause-live : goal.change-requires-clause-live
change-requires-clause-live c = change-live c.args.self.now c.requires.open.0 c.args.sid c.args.spec c.requires.open.1

pub change-requires-clause-kind : goal.change-requires-clause-kind
change-requires-clause-kind c = change-kind c.args.self.now c.requires.open.0 c.args.sid c.args.spec c.requires.open.1

pub returns-in_err-placement-clause-memory : goal.returns-in_err-placement-clause-memory
returns-in_err-placement-clause-memory c =
    on-err c.from_residual.result _ (λ x opens. takes-given c.args.self.now x c.args.sid c.args.spec opens
    (inl (had-place c.args.self.now x c.args.sid c.args.spec opens true c.requires.alike)))

pub returns-in_err-copy-clause-memory : goal.returns-in_err-copy-clause-memory
returns-in_err-copy-clause-memory c =
    on-err c.from_residual-in_err-copy.result _ (λ x opens. takes-given c.args.self.now x c.args.sid c.args.spec opens
    (inl (had-place c.args.self.now x c.args.sid c.args.spec opens true c.requires.alike)))

pub returns-clause-answered : goal.returns-clause-answered
returns-clause-answered c = λ x opens.
    let s = c.args.self.now in
    let sid = c.args.sid in
    let spec = c.args.spec in
    let same = had-place s x sid spec opens true c.requires.alike in
    let periodic = place-periodic (had s x sid spec opens).spec spec same in
    let p = c.in_ok-placement.placement in
    record {
      config = refl;
      answers = answers-given s x sid spec opens (replies.Changed (Some p))
          (inl (same, (p, kept-told s x sid spec opens periodic p c.in_ok-placement.ensures, refl)));
      encodable = tt;
      is_after = IsStateAfter-changed s x opens.is_after sid spec p c.change.new.self
          c.keep.new.self c.change.ensures (ap (λ t. t.config) c.keep.ensures)
          (ap (λ t. t.placed) c.keep.ensures);
    }
