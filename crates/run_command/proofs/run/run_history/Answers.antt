-- The calls are made, and the text of their history is written.
use Rattle.std.proofs.Common.{refl, ◌∙◌}
use Rattle.sched_history.proofs.state.Whole.{kept-whole}
use Rattle.sched_history.proofs.runs.Leaving.{MakesCalls-few}
use Rattle.sched_history.proofs.runs.Made.{MakesCalls-handed}
use Rattle.history_writing.specs.HistoryText.{history_text}
use Rattle.run_command.specs.declared.output.RunOutput.TheVariants.{History}
use Rattle.run_command.specs.Run.{HistoryFits}
use Rattle.run_command.proofs.Running.{history-written}
use Rattle.run_command.proofs.run.run_history.Goals as goal

pub count_unrecorded-requires : goal.count_unrecorded-requires
count_unrecorded-requires g c =
    MakesCalls-few _ _ c.args.calls.now c.make_calls.ensures.0 c.make_calls.ensures.1

pub returns-clause-ok : goal.returns-clause-ok
returns-clause-ok g c =
    let makes = c.make_calls.ensures in
    let kept = kept-whole c.make_calls.new.scheduler (MakesCalls-handed _ _ _ makes.0 makes.1) in
    let fits : HistoryFits c.args.scheduler.now.config c.make_calls.new.scheduler.history = record {
      lawful = rw (c.requires.same) at c.config_of.ensures.lawful;
      config = rw (c.requires.same) at c.config_of.ensures.fits;
      entries = rw (c.history.ensures.value ∙ kept) at c.in_ok-put_history.ensures.fits;
    } in
    let written = rw (c.config_of.ensures.value, c.requires.same, c.history.ensures.value ∙ kept)
    at c.in_ok-put_history.ensures.ok in
    history-written History history_text _ _ c.args.calls.now makes.0 _ _ _ refl makes.1 fits written
    c.count_unrecorded.ensures
