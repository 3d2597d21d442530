-- Where a frame has no free start for a grant, one minislot less is a bound of it.
use Rattle.std.proofs.Common.{◌≡◌, ◌∙◌, subst, ◌+◌, ◌-◌, ◌*◌, ◌/◌, ◌<◌, arith}
use Rattle.minislots.proofs.Bounds.{bounds_of}
use Rattle.periodic.specs.Bits.{IsClear}
use Rattle.periodic.specs.Rows.{row_at}
use Rattle.periodic.proofs.Bounding.{none-bounded, bound-set}
use Rattle.periodic.proofs.Groups.{frame-within}
use Rattle.periodic.proofs.Seeking.{row-here}
use Rattle.periodic.proofs.search.learn.Goals as goal

pub bounds-widest-place : goal.bounds-widest-place
bounds-widest-place c =
    let config = c.args.config.now in
    let w = c.args.wanted in
    let index = c.loop-index.index in
    let cycle : c.from.result ≡ config.cycle = c.from.ensures ∙ c.cycle.ensures.value in
    let within : index < config.cycle / w.interval = subst (λ n. index < n / w.interval) cycle (omega arith) in
    let low = frame-within w.interval c.args.phase c.requires.phase config.cycle index c.requires.sought.divides
    within in
    omega (arith, low, (bounds_of _ c.cycle.ensures.lawful).cycle_most)

pub returns-in_default : goal.returns-in_default
returns-in_default c =
    let config = c.args.config.now in
    let w = c.args.wanted in
    let index = c.loop-index.index in
    let cycle : c.from.result ≡ config.cycle = c.from.ensures ∙ c.cycle.ensures.value in
    let within : index < config.cycle / w.interval = subst (λ n. index < n / w.interval) cycle (omega arith) in
    let low = frame-within w.interval c.args.phase c.requires.phase config.cycle index c.requires.sought.divides
    within in
    let rows = c.args.rows.now in
    let place = c.args.phase + index * w.interval in
    let here = row-here config rows place _ c.requires.long low in
    bound-set config rows c.loop-index.widest.most c.loop-index.invariant.bounded place (w.slots - 1)
    (omega (arith, low, (bounds_of _ c.cycle.ensures.lawful).cycle_most, c.loop-index.invariant.long))
    (none-bounded config (row_at config rows place) w.slots (λ start is. c.in_default.ensures.absent start (record {
      after = omega (arith, is.after, c.from-behind.ensures, c.req_slots.ensures.value);
      within = omega (arith, is.within, c.from-frame.ensures, c.frame.ensures.value);
      clear = subst (λ words. IsClear words start w.slots) here is.clear;
    })))
