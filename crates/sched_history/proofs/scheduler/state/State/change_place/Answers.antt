-- A flow is placed anew, or there is no place for it.
use Rattle.std.proofs.Common.{false, Some, refl, inl, inr}
use Rattle.sched_calls.specs.declared.call.Call.TheVariants as calls
use Rattle.sched_calls.specs.declared.reply.Reply.TheVariants as replies
use Rattle.sched_calls.specs.declared.reply.Refusal.TheVariants.{NoPlace}
use Rattle.sched_history.proofs.state.ChangeMoves.{IsStateAfter-changed}
use Rattle.sched_history.proofs.situations.Quiet.{IsQuiet-refused}
use Rattle.sched_history.proofs.state.Moves.{IsStateAfter-quiet}
use Rattle.sched_history.proofs.state.Changing.{had-place, change-live, change-kind}
use Rattle.sched_history.proofs.state.Changing.{change-fault, change-aligned, change-next, change-is_placed}
use Rattle.sched_history.proofs.state.Changing.{change-room}
use Rattle.sched_history.proofs.state.Changing.{beside, none-beside, answers-given, takes-given}
use Rattle.sched_history.proofs.scheduler.state.State.change_place.Goals as goal

pub place_anew-requires-clause-placed : goal.place_anew-requires-clause-placed
place_anew-requires-clause-placed c =
    change-is_placed c.args.self.now c.requires.open.0 c.args.sid c.args.spec c.requires.open.1 c.requires.periodic

pub place_anew-requires-clause-no_fault : goal.place_anew-requires-clause-no_fault
place_anew-requires-clause-no_fault c =
    change-fault c.args.self.now c.requires.open.0 c.args.sid c.args.spec c.requires.open.1

pub place_anew-requires-clause-room : goal.place_anew-requires-clause-room
place_anew-requires-clause-room c =
    change-room c.args.self.now c.requires.open.0 c.args.sid c.args.spec c.requires.open.1 c.requires.periodic

pub place_anew-requires-clause-aligned : goal.place_anew-requires-clause-aligned
place_anew-requires-clause-aligned c =
    change-aligned c.args.self.now c.requires.open.0 c.args.sid c.args.spec c.requires.open.1

pub place_anew-requires-clause-most : goal.place_anew-requires-clause-most
place_anew-requires-clause-most c =
    change-next c.args.self.now c.requires.open.0 c.args.sid c.args.spec c.requires.open.1

pub change-requires-clause-live : goal.change-requires-clause-live
change-requires-clause-live c = change-live c.args.self.now c.requires.open.0 c.args.sid c.args.spec c.requires.open.1

pub change-requires-clause-kind : goal.change-requires-clause-kind
change-requires-clause-kind c = change-kind c.args.self.now c.requires.open.0 c.args.sid c.args.spec c.requires.open.1

pub returns-in-Ok-clause-answered : goal.returns-in-Ok-clause-answered
returns-in-Ok-clause-answered c = λ x opens.
    let s = c.args.self.now in
    let sid = c.args.sid in
    let spec = c.args.spec in
    let p = c.in-Ok.placement in
    let done = c.in-Ok.ensures in
    let other = had-place s x sid spec opens false c.requires.other in
    let lawful = beside s x sid spec opens c.requires.periodic p done.lawful in
    record {
      config = refl;
      answers = answers-given s x sid spec opens (replies.Changed (Some p))
          (inr (inl (other, c.requires.periodic, inl (p, lawful, refl))));
      encodable = tt;
      is_after = IsStateAfter-changed s x opens.is_after sid spec p c.change.new.self
          c.place_anew.new.self c.change.ensures done.config done.placed;
    }

pub returns-in-Err-NoPlace-clause-answered : goal.returns-in-Err-NoPlace-clause-answered
returns-in-Err-NoPlace-clause-answered c = λ x opens.
    let s = c.args.self.now in
    let sid = c.args.sid in
    let spec = c.args.spec in
    let other = had-place s x sid spec opens false c.requires.other in
    let none = (rw c.in-Err-NoPlace.field-0-is at c.in-Err-NoPlace.ensures).no_place.0 refl in
    rw (c.in-Err-NoPlace.ensures.err) (record {
      config = refl;
      answers = answers-given s x sid spec opens (replies.Refused NoPlace)
          (inr (inl (other, c.requires.periodic, inr (none-beside s x sid spec opens c.requires.periodic none, refl))));
      encodable = tt;
      is_after = IsStateAfter-quiet s x opens.is_after (calls.Change sid spec) (replies.Refused NoPlace)
          (IsQuiet-refused s.config (calls.Change sid spec) NoPlace);
    })

pub returns-in-Err-Memory-clause-memory : goal.returns-in-Err-Memory-clause-memory
returns-in-Err-Memory-clause-memory c = λ x opens.
    let s = c.args.self.now in
    let sid = c.args.sid in
    let spec = c.args.spec in
    let place = (rw c.in-Err-Memory.field-0-is at c.in-Err-Memory.ensures).memory refl in
    takes-given s x sid spec opens
    (inr (c.requires.periodic, (place.0, beside s x sid spec opens c.requires.periodic place.0 place.1)))
