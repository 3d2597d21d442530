-- The line of a call that was not recorded has no words behind it.
use Rattle.std.proofs.Common.{◌≡◌, Err, refl}
use Rattle.sched_calls.specs.declared.reply.Unrecorded.{Unrecorded}
use Rattle.sched_lines.specs.Line.{line_of}
use Rattle.sched_lines.specs.Meaning.{explained_line}
use Rattle.run_command.specs.declared.output.Words.{Words}
use Rattle.run_command.specs.declared.output.Words.TheVariants.{Plain, Explained}
use Rattle.run_command.specs.Run.{line_with}
use Rattle.run_command.proofs.run.put_answer.Goals as goal

line-unrecorded : (words : Words) (unrecorded : Unrecorded) → line_with words (Err unrecorded) ≡ line_of (Err unrecorded)
unfolding explained_line line_of
line-unrecorded Plain unrecorded = refl
line-unrecorded Explained unrecorded = refl

pub returns-in-Err : goal.returns-in-Err
returns-in-Err g c =
    rw (c.in-Err.is, line-unrecorded c.args.words c.in-Err.unrecorded) (c.put_unrecorded.ensures)
