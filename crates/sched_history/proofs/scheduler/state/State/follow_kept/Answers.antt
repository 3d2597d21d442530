-- A flow keeps the placement that is handed in.
use Rattle.std.proofs.Common.{true, Some, refl, ap, inl}
use Rattle.sched_calls.specs.declared.reply.Reply.TheVariants as replies
use Rattle.sched_history.proofs.state.ChangeMoves.{IsStateAfter-changed}
use Rattle.sched_history.proofs.state.Changing.{had, had-place, place-periodic, change-live, change-kind}
use Rattle.sched_history.proofs.state.Changing.{change-fault, change-aligned, change-next, change-is_placed}
use Rattle.sched_history.proofs.state.Changing.{change-alike, kept-told, told-kept, answers-given, given-answers}
use Rattle.sched_history.proofs.state.Changing.{kept-answer, change-at}
use Rattle.sched_history.proofs.scheduler.state.State.follow_kept.Goals as goal

pub is_told-requires-clause-placed : goal.is_told-requires-clause-placed
is_told-requires-clause-placed c =
    let s = c.args.self.now in
    let opens = c.requires.open.1 in
    let same = had-place s c.requires.open.0 c.args.sid c.args.spec opens true c.requires.alike in
    let periodic = place-periodic (had s c.requires.open.0 c.args.sid c.args.spec opens).spec c.args.spec same in
    change-is_placed s c.requires.open.0 c.args.sid c.args.spec opens periodic

pub is_told-requires-clause-alike : goal.is_told-requires-clause-alike
is_told-requires-clause-alike c =
    let s = c.args.self.now in
    let opens = c.requires.open.1 in
    let same = had-place s c.requires.open.0 c.args.sid c.args.spec opens true c.requires.alike in
    let periodic = place-periodic (had s c.requires.open.0 c.args.sid c.args.spec opens).spec c.args.spec same in
    change-alike s c.requires.open.0 c.args.sid c.args.spec opens periodic same

pub is_told-requires-clause-aligned : goal.is_told-requires-clause-aligned
is_told-requires-clause-aligned c =
    change-aligned c.args.self.now c.requires.open.0 c.args.sid c.args.spec c.requires.open.1

pub is_told-requires-clause-most : goal.is_told-requires-clause-most
is_told-requires-clause-most c =
    change-next c.args.self.now c.requires.open.0 c.args.sid c.args.spec c.requires.open.1

pub keep-requires-clause-placed : goal.keep-requires-clause-placed
keep-requires-clause-placed c =
    let s = c.args.self.now in
    let opens = c.requires.open.1 in
    let same = had-place s c.requires.open.0 c.args.sid c.args.spec opens true c.requires.alike in
    let periodic = place-periodic (had s c.requires.open.0 c.args.sid c.args.spec opens).spec c.args.spec same in
    change-is_placed s c.requires.open.0 c.args.sid c.args.spec opens periodic

pub keep-requires-clause-alike : goal.keep-requires-clause-alike
keep-requires-clause-alike c =
    let s = c.args.self.now in
    let opens = c.requires.open.1 in
    let same = had-place s c.requires.open.0 c.args.sid c.args.spec opens true c.requires.alike in
    let periodic = place-periodic (had s c.requires.open.0 c.args.sid c.args.spec opens).spec c.args.spec same in
    change-alike s c.requires.open.0 c.args.sid c.args.spec opens periodic same

pub keep-requires-clause-no_fault : goal.keep-requires-clause-no_fault
keep-requires-clause-no_fault c =
    change-fault c.args.self.now c.requires.open.0 c.args.sid c.args.spec c.requires.open.1

pub keep-requires-clause-told : goal.keep-requires-clause-told
keep-requires-clause-told c = (c.args.self.now.next, c.if-not-is_told.ensures.told refl)

pub change-requires-clause-live : goal.change-requires-clause-live
change-requires-clause-live c = change-live c.args.self.now c.requires.open.0 c.args.sid c.args.spec c.requires.open.1

pub change-requires-clause-kind : goal.change-requires-clause-kind
change-requires-clause-kind c = change-kind c.args.self.now c.requires.open.0 c.args.sid c.args.spec c.requires.open.1

pub returns-then-not-is_told-clause-differs : goal.returns-then-not-is_told-clause-differs
returns-then-not-is_told-clause-differs c = λ is x opens answers.
    let s = c.args.self.now in
    let sid = c.args.sid in
    let spec = c.args.spec in
    let same = had-place s x sid spec opens true c.requires.alike in
    let periodic = place-periodic (had s x sid spec opens).spec spec same in
    let told = told-kept s x sid spec opens periodic c.args.placement.now
    (kept-answer s.config x sid (had s x sid spec opens) spec c.args.placement.now same periodic
    (given-answers s x sid spec opens (replies.Changed (Some c.args.placement.now)) answers)) in
    let stands = change-at s x sid spec opens periodic in
    let apart = rw stands at (c.if-not-is_told.ensures.other refl) in
    apart (rw stands at told)

pub returns-clause-follows : goal.returns-clause-follows
returns-clause-follows c = λ is x opens.
    let s = c.args.self.now in
    let sid = c.args.sid in
    let spec = c.args.spec in
    let same = had-place s x sid spec opens true c.requires.alike in
    let periodic = place-periodic (had s x sid spec opens).spec spec same in
    let p = c.args.placement.now in
    record {
      config = refl;
      answers = answers-given s x sid spec opens (replies.Changed (Some p))
          (inl (same, (p, kept-told s x sid spec opens periodic p (c.if-not-is_told.ensures.told refl), refl)));
      encodable = tt;
      is_after = IsStateAfter-changed s x opens.is_after sid spec p c.change.new.self
          c.keep.new.self c.change.ensures (ap (λ t. t.config) c.keep.ensures)
          (ap (λ t. t.placed) c.keep.ensures);
    }
