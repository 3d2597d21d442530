-- The calls so far, and their answers.
use Rattle.std.proofs.Common.{List, take}
use Rattle.sched_calls.specs.Reply.{Answer}
use Rattle.sched_history.specs.Answer.{MakesCalls}
use Rattle.state_command.proofs.script.make_calls.Given as goal

abbrev pub invariant-loop-place : goal.invariant-loop-place
invariant-loop-place l =
    (answers : List Answer) × MakesCalls l.initial.scheduler l.scheduler (take l.place l.calls) answers
