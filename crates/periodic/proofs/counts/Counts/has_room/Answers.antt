-- The frame of each index is one of the cycle.
use Rattle.std.proofs.Common.{◌≡◌, ◌∙◌, subst, ◌/◌, ◌<◌, arith}
use Rattle.minislots.proofs.Bounds.{bounds_of}
use Rattle.periodic.proofs.Groups.{frame-within}
use Rattle.periodic.proofs.counts.Counts.has_room.Goals as goal

pub bounds-self-place : goal.bounds-self-place
bounds-self-place c =
    let config = c.args.config.now in
    let w = c.args.wanted in
    let index = c.loop-index.index in
    let cycle : c.from.result ≡ config.cycle = c.from.ensures ∙ c.cycle.ensures.value in
    let within : index < config.cycle / w.interval = subst (λ n. index < n / w.interval) cycle (omega arith) in
    let low = frame-within w.interval c.args.phase c.requires.phase config.cycle index c.requires.sought.divides
    within in
    omega (arith, low, (bounds_of _ c.cycle.ensures.lawful).cycle_most)
