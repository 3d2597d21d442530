-- The calls are made, and their picture is written.
use Rattle.std.proofs.Common.{◌≡◌, length, ap, sym, ◌∙◌, arith}
use Rattle.minislots.specs.declared.config.Config.{Config}
use Rattle.minislots.proofs.Bounds.{bounds_of}
use Rattle.sched_history.specs.History.{IsLegal}
use Rattle.sched_history.specs.Machine.{Machine}
use Rattle.sched_history.proofs.state.Whole.{kept-whole}
use Rattle.sched_history.proofs.runs.Leaving.{MakesCalls-few}
use Rattle.sched_history.proofs.runs.Made.{MakesCalls-handed}
use Rattle.draw_command.proofs.Drawing.{Draws-whole}
use Rattle.draw_command.proofs.draw.draw_calls.Goals as goal

pub put_picture-requires-clause-few : goal.put_picture-requires-clause-few
put_picture-requires-clause-few g c =
    let whole = c.in_ok-make_whole.ensures.ok in
    let same = ap (λ (m : Machine). m.config.calls) whole.makes.state in
    let given = ap (λ (config : Config). config.calls) c.requires.same in
    let bounds = bounds_of _ c.calls-most.ensures.lawful in
    omega (
      arith,
      ap length c.history-entries.ensures.value,
      c.history-entries.ensures.within,
      same,
      given,
      bounds.calls_most,
    )

pub count_unrecorded-requires : goal.count_unrecorded-requires
count_unrecorded-requires g c =
    let whole = c.in_ok-make_whole.ensures.ok in
    MakesCalls-few _ _ c.args.calls.now whole.answers whole.makes

pub returns-clause-ok : goal.returns-clause-ok
returns-clause-ok g c =
    let whole = c.in_ok-make_whole.ensures.ok in
    let kept = kept-whole c.make_whole.new.scheduler (MakesCalls-handed _ _ _ whole.answers whole.makes) in
    let same : c.args.config.now ≡ c.make_whole.new.scheduler.config =
    c.requires.same ∙ sym (ap (λ (m : Machine). m.config) whole.makes.state) in
    let entries = c.history-entries.ensures.value ∙ kept in
    let legal : IsLegal c.args.config.now c.history-entries.result.now =
    rw (same, entries) c.history-entries.ensures.legal in
    let written = rw (c.requires.same, entries) at (c.in_ok-put_picture.ensures.legal legal).0 in
    Draws-whole _ _ c.args.span c.args.calls.now _ _ _ c.in_ok-make_whole.ensures.ok written c.count_unrecorded.ensures
