-- A periodic flow is admitted with its place, or there is none.
use Rattle.std.proofs.Common.{Some, refl, ap, arith, inl, inr}
use Rattle.periodic.specs.Placement.{IsPlacement}
use Rattle.sched_calls.specs.declared.call.Call.TheVariants as calls
use Rattle.sched_calls.specs.declared.reply.Refusal.TheVariants.{NoPlace}
use Rattle.sched_calls.specs.declared.reply.Reply.TheVariants as replies
use Rattle.sched_history.proofs.situations.Quiet.{IsQuiet-refused}
use Rattle.sched_history.proofs.steps.Passed.{passed-admit}
use Rattle.sched_history.proofs.state.Present.{grants-placed_by, flow_of-fresh, find-fresh, answers-periodic}
use Rattle.sched_history.proofs.state.Present.{placement-after, no_placement-after}
use Rattle.sched_history.proofs.state.Moves.{IsStateAfter-placed, IsStateAfter-quiet}
use Rattle.sched_history.proofs.scheduler.state.State.admit_placed_flow.Goals as goal

pub admit_periodic-requires-clause-is_new : goal.admit_periodic-requires-clause-is_new
admit_periodic-requires-clause-is_new c =
    let s = c.args.self.now in
    let opens = c.requires.open.1 in
    let admits = passed-admit s.config c.requires.open.0 c.args.sid c.args.spec opens.unrefused in
    flow_of-fresh s c.requires.open.0 c.args.sid opens.is_after admits.fresh

pub admit_periodic-requires-clause-unplaced : goal.admit_periodic-requires-clause-unplaced
admit_periodic-requires-clause-unplaced c =
    let s = c.args.self.now in
    let opens = c.requires.open.1 in
    let admits = passed-admit s.config c.requires.open.0 c.args.sid c.args.spec opens.unrefused in
    find-fresh s c.requires.open.0 c.args.sid opens.is_after admits.fresh opens.sound

pub admit_periodic-requires-clause-room : goal.admit_periodic-requires-clause-room
admit_periodic-requires-clause-room c =
    let s = c.args.self.now in
    let opens = c.requires.open.1 in
    let admits = passed-admit s.config c.requires.open.0 c.args.sid c.args.spec opens.unrefused in
    omega (
      arith,
      grants-placed_by s c.requires.open.0 opens.is_after opens.sound.periodic,
      admits.few_grants c.requires.periodic,
      ap (λ k. k.periodic) opens.is_after.table_config,
    )

pub returns-in-Ok-clause-answered : goal.returns-in-Ok-clause-answered
returns-in-Ok-clause-answered c = λ x opens.
    let s = c.args.self.now in
    let sid = c.args.sid in
    let spec = c.args.spec in
    let p = c.in-Ok.placement in
    let done = c.in-Ok.ensures in
    let lawful : IsPlacement s.config x.placed spec x.next p =
    placement-after s x spec p opens.is_after done.lawful in
    record {
      config = ap (λ n. n.config) done.same;
      answers = answers-periodic s.config x spec (replies.Admitted (Some p)) c.requires.periodic
          (inl (p, lawful, refl));
      encodable = tt;
      is_after = IsStateAfter-placed s x opens.is_after c.admit_periodic.new.self done.same done.book_config
          done.table_config sid spec p done.flows done.placed;
    }

pub returns-in-Err-NoPlace-clause-answered : goal.returns-in-Err-NoPlace-clause-answered
returns-in-Err-NoPlace-clause-answered c = λ x opens.
    let s = c.args.self.now in
    let none = (rw c.in-Err-NoPlace.field-0-is at c.in-Err-NoPlace.ensures).no_place refl in
    rw (c.in-Err-NoPlace.ensures.err) (record {
      config = refl;
      answers = answers-periodic s.config x c.args.spec (replies.Refused NoPlace) c.requires.periodic
          (inr (no_placement-after s x c.args.spec opens.is_after none, refl));
      encodable = tt;
      is_after = IsStateAfter-quiet s x opens.is_after (calls.Admit c.args.sid c.args.spec)
          (replies.Refused NoPlace) (IsQuiet-refused s.config (calls.Admit c.args.sid c.args.spec) NoPlace);
    })
