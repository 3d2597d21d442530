-- There are starts in a nominal frame alone.
use Rattle.std.proofs.Common.{◌≢◌, refl, sym, ◌∙◌, ◌%◌}
use Rattle.std.proofs.lemmas.Bool.{ne_eqb}
use Rattle.sched_calls.specs.FlowSpec.{interval_frames}
use Rattle.periodic.specs.Placement.{phase_of}
use Rattle.periodic.proofs.Numbered.{number-place, some-frames}
use Rattle.periodic.proofs.spots.PlacedFlow.starts.Goals as goal

pub nonzero_rem-place : goal.nonzero_rem-place
nonzero_rem-place c = some-frames c.requires.sound.0 c.args.self.now c.requires.sound.1

pub nonzero_div-place : goal.nonzero_div-place
nonzero_div-place c = some-frames c.requires.sound.0 c.args.self.now c.requires.sound.1

pub returns-then-place-self : goal.returns-then-place-self
returns-then-place-self c = λ config is within.
    let f = c.args.self.now in
    let frames = interval_frames config f.spec in
    let phase = phase_of config f.spec f.placement in
    let differ : c.args.place % frames ≢ phase =
    λ e. c.if-place-self.true (rw is.times.interval (e ∙ sym is.times.phase)) in
    rw (ne_eqb (c.args.place % frames) phase differ) refl

pub own_starts-requires : goal.own_starts-requires
own_starts-requires c =
    let f = c.args.self.now in
    let (config, sound, within) = c.requires.sound in
    let same = number-place c.args.place f.interval f.phase c.if-place-self.false in
    record { sound = (config, sound, rw same within) }

pub returns : goal.returns
returns c = λ config is within.
    let f = c.args.self.now in
    let same = number-place c.args.place f.interval f.phase c.if-place-self.false in
    rw same at (c.own_starts.ensures config is (rw same within))
