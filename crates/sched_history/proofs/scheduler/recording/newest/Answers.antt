-- What stands last is the last.
use Rattle.std.proofs.Common.{◌∙◌, arith}
use Rattle.std.proofs.lemmas.List.{get_or_push, length_push}
use Rattle.sched_history.proofs.scheduler.recording.newest.Goals as goal

pub returns : goal.returns
returns c = λ before e is.
    rw is at c.index-entries-entries.is ∙ get_or_push before e _ _ (omega (arith, length_push before e))
