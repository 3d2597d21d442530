-- There is no place for a flow that is placed anew.
use Rattle.std.proofs.Common.{◌≡◌, true, false, refl, sym, ◌∙◌, inl, inr}
use Rattle.sched_calls.specs.declared.call.Call.TheVariants as calls
use Rattle.sched_calls.specs.declared.reply.Reply.TheVariants as replies
use Rattle.sched_calls.specs.declared.reply.Refusal.TheVariants.{NoPlace}
use Rattle.sched_history.proofs.situations.Quiet.{IsQuiet-refused}
use Rattle.sched_history.proofs.state.Moves.{IsStateAfter-quiet}
use Rattle.sched_history.proofs.state.Changing.{had, had-place, change-fault, change-aligned, change-next}
use Rattle.sched_history.proofs.state.Changing.{change-is_placed, beside, none-beside, refused-answer}
use Rattle.sched_history.proofs.state.Changing.{answers-given, given-answers}
use Rattle.sched_history.proofs.scheduler.state.State.lacks_place.Goals as goal

pub has_no_place-requires-clause-placed : goal.has_no_place-requires-clause-placed
has_no_place-requires-clause-placed c =
    change-is_placed c.args.self.now c.requires.open.0 c.args.sid c.args.spec c.requires.open.1 c.requires.periodic

pub has_no_place-requires-clause-no_fault : goal.has_no_place-requires-clause-no_fault
has_no_place-requires-clause-no_fault c =
    change-fault c.args.self.now c.requires.open.0 c.args.sid c.args.spec c.requires.open.1

pub has_no_place-requires-clause-aligned : goal.has_no_place-requires-clause-aligned
has_no_place-requires-clause-aligned c =
    change-aligned c.args.self.now c.requires.open.0 c.args.sid c.args.spec c.requires.open.1

pub has_no_place-requires-clause-most : goal.has_no_place-requires-clause-most
has_no_place-requires-clause-most c =
    change-next c.args.self.now c.requires.open.0 c.args.sid c.args.spec c.requires.open.1

pub returns-then-keeps_place-clause-differs : goal.returns-then-keeps_place-clause-differs
returns-then-keeps_place-clause-differs c = λ is x opens answers.
    let s = c.args.self.now in
    let sid = c.args.sid in
    let spec = c.args.spec in
    let keeps = had-place s x sid spec opens c.keeps_place.result c.keeps_place.ensures ∙ c.if-keeps_place.true in
    let refused = refused-answer s.config x sid (had s x sid spec opens) spec
    (given-answers s x sid spec opens (replies.Refused NoPlace) answers) in
    let apart : true ≡ false = sym keeps ∙ refused.0 in
    cc

pub returns-clause-follows : goal.returns-clause-follows
returns-clause-follows c = λ is x opens.
    let s = c.args.self.now in
    let sid = c.args.sid in
    let spec = c.args.spec in
    let other = had-place s x sid spec opens c.keeps_place.result c.keeps_place.ensures ∙ c.if-keeps_place.false in
    let none = none-beside s x sid spec opens c.requires.periodic (c.has_no_place.ensures.none is) in
    rw (c.has_no_place.ensures.same) (record {
      config = refl;
      answers = answers-given s x sid spec opens (replies.Refused NoPlace)
          (inr (inl (other, c.requires.periodic, inr (none, refl))));
      encodable = tt;
      is_after = IsStateAfter-quiet s x opens.is_after (calls.Change sid spec) (replies.Refused NoPlace)
          (IsQuiet-refused s.config (calls.Change sid spec) NoPlace);
    })

pub returns-clause-differs : goal.returns-clause-differs
returns-clause-differs c = λ is x opens answers.
    let s = c.args.self.now in
    let sid = c.args.sid in
    let spec = c.args.spec in
    let refused = refused-answer s.config x sid (had s x sid spec opens) spec
    (given-answers s x sid spec opens (replies.Refused NoPlace) answers) in
    let place = c.has_no_place.ensures.some is in
    refused.1 place.0 (beside s x sid spec opens c.requires.periodic place.0 place.1)
