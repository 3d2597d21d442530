-- The starts of one frame of the phase more are counted.
use Rattle.std.proofs.Common.{◌≡◌, ◌∙◌, sym, ap, subst, ℕ, ◌+◌, ◌*◌, ◌/◌, ◌%◌, ◌<◌, length, get_or, arith}
use Rattle.std.proofs.lemmas.List.{length-set}
use Rattle.minislots.specs.declared.config.Config.{Config}
use Rattle.minislots.proofs.Bounds.{bounds_of}
use Rattle.periodic.specs.declared.spots.PlacedFlow.{PlacedFlow}
use Rattle.periodic.specs.Placement.{spots_of}
use Rattle.periodic.specs.Counts.{MayBeCounted, AreCounted, AreCountedTo}
use Rattle.periodic.specs.Fields.{placed_of, IsSoundFlow}
use Rattle.periodic.proofs.Counting.{count-before, counted-more, counted-all}
use Rattle.periodic.proofs.Fields.{count-here}
use Rattle.periodic.proofs.Groups.{frame-phase, frame-within}
use Rattle.periodic.proofs.Parameters.{places_of}
use Rattle.periodic.proofs.counts.Counts.count.Goals as goal

-- a flow's phase is one of its interval's frames, which divide the cycle
module _ (c : Config) (f : PlacedFlow) (is : IsSoundFlow c f) where
  some : 0 < f.interval
  some =
      let parts = places_of c f.spec is.times.lawful is.sound.periodic is.sound.no_fault in
      omega (arith, is.times.interval, parts.interval_positive)

  early : f.phase < f.interval
  early =
      let parts = places_of c f.spec is.times.lawful is.sound.periodic is.sound.no_fault in
      rw (is.times.phase, is.times.interval) (omega (arith, parts.interval_positive))

  divides : c.cycle % f.interval ≡ 0
  divides =
      let parts = places_of c f.spec is.times.lawful is.sound.periodic is.sound.no_fault in
      rw is.times.interval parts.divides

  -- in a frame of its phase it has a start for each of its grants
  starts : (index : ℕ) → index < c.cycle / f.interval
      → f.grants ≡ length (spots_of c (f.phase + index * f.interval) (placed_of f))
  starts index lt =
      let place = f.phase + index * f.interval in
      let within = frame-within f.interval f.phase early c.cycle index divides lt in
      let nominal : place % f.interval ≡ f.phase = frame-phase f.interval f.phase early index in
      let here = (is.sound.starts.each place within
      (ap (λ n. place % n) (sym is.times.interval) ∙ nominal ∙ is.times.phase)).count in
      is.times.grants ∙ sym here ∙ sym (count-here c place (placed_of f) within)

pub nonzero_div-index-end : goal.nonzero_div-index-end
nonzero_div-index-end c = some c.args.config.now c.args.flow.now c.requires.sound

pub bounds-self-place : goal.bounds-self-place
bounds-self-place c =
    let config = c.args.config.now in
    let f = c.args.flow.now in
    let index = c.loop-index.index in
    let cycle : c.from.result ≡ config.cycle = c.from.ensures ∙ c.cycle.ensures.value in
    let lt : index < config.cycle / f.interval = subst (λ n. index < n / f.interval) cycle (omega arith) in
    let is = c.requires.sound in
    let low = frame-within f.interval f.phase (early config f is) config.cycle index (divides config f is) lt in
    omega (arith, low, (bounds_of _ c.cycle.ensures.lawful).cycle_most)

pub counted-requires : goal.counted-requires
counted-requires c =
    let config = c.args.config.now in
    let f = c.args.flow.now in
    let is = c.requires.sound in
    let index = c.loop-index.index in
    let counts = c.loop-index.self.starts in
    let place = f.phase + index * f.interval in
    let cycle : c.from.result ≡ config.cycle = c.from.ensures ∙ c.cycle.ensures.value in
    let lt : index < config.cycle / f.interval = subst (λ n. index < n / f.interval) cycle (omega arith) in
    let within = frame-within f.interval f.phase (early config f is) config.cycle index (divides config f is) lt in
    let below : place < length counts = omega
    (arith, c.loop-index.invariant.long, within, (bounds_of _ c.cycle.ensures.lawful).cycle_most) in
    let before = count-before config (placed_of f) c.args.taken c.args.self.now.starts counts f.phase f.interval index 0
    (some config f is) below c.loop-index.invariant.counted in
    subst (MayBeCounted c.args.taken (get_or counts place 0)) (sym (starts config f is index lt))
    (subst (λ n. MayBeCounted c.args.taken n (length (spots_of config place (placed_of f)))) (sym before)
    (c.requires.may place within))

pub bounds-self-place-in-loop-index : goal.bounds-self-place-in-loop-index
bounds-self-place-in-loop-index c =
    let config = c.args.config.now in
    let f = c.args.flow.now in
    let index = c.loop-index.index in
    let cycle : c.from.result ≡ config.cycle = c.from.ensures ∙ c.cycle.ensures.value in
    let lt : index < config.cycle / f.interval = subst (λ n. index < n / f.interval) cycle (omega arith) in
    let is = c.requires.sound in
    let low = frame-within f.interval f.phase (early config f is) config.cycle index (divides config f is) lt in
    omega (arith, low, (bounds_of _ c.cycle.ensures.lawful).cycle_most)

pub loop-index-preserved : goal.loop-index-preserved
loop-index-preserved c =
    let config = c.args.config.now in
    let f = c.args.flow.now in
    let is = c.requires.sound in
    let index = c.loop-index.index in
    let counts = c.loop-index.self.starts in
    let place = f.phase + index * f.interval in
    let cycle : c.from.result ≡ config.cycle = c.from.ensures ∙ c.cycle.ensures.value in
    let lt : index < config.cycle / f.interval = subst (λ n. index < n / f.interval) cycle (omega arith) in
    let within = frame-within f.interval f.phase (early config f is) config.cycle index (divides config f is) lt in
    let below : place < length counts = omega
    (arith, c.loop-index.invariant.long, within, (bounds_of _ c.cycle.ensures.lawful).cycle_most) in
    record {
      long = length-set counts place c.counted.result ∙ c.loop-index.invariant.long;
      counted = counted-more config (placed_of f) c.args.taken c.args.self.now.starts counts f.phase f.interval index
          c.counted.result (some config f is) below c.loop-index.invariant.counted
          (subst (λ n. AreCounted c.args.taken (get_or counts place 0) n c.counted.result)
          (starts config f is index lt) c.counted.ensures);
    }

pub returns : goal.returns
returns c = λ place within.
    let config = c.args.config.now in
    let f = c.args.flow.now in
    let is = c.requires.sound in
    let cycle : c.from.result ≡ config.cycle = c.from.ensures ∙ c.cycle.ensures.value in
    let counted = c.loop-index.invariant.counted in
    let end : c.loop-index.index ≡ config.cycle / f.interval =
    subst (λ n. c.loop-index.index ≡ n / f.interval) cycle (omega (arith, c.loop-index.auto.index-end)) in
    counted-all config (placed_of f) c.args.taken c.args.self.now.starts c.loop-index.self.starts f.phase f.interval
    place (early config f is) (divides config f is) is.times.interval is.times.phase
    (subst (AreCountedTo config (placed_of f) c.args.taken c.args.self.now.starts c.loop-index.self.starts f.phase
    f.interval) end counted) within
