-- Each nominal frame has its lawful starts, or the first that has none says that the place has no lawful ones.
use Rattle.std.proofs.Common.{◌≡◌, sym, ap, ◌∙◌, subst, refl, ◌+◌, ◌*◌, ◌/◌, ◌<◌, arith}
use Rattle.minislots.proofs.Bounds.{bounds_of}
use Rattle.periodic.proofs.Groups.{groups-most, range-group}
use Rattle.periodic.proofs.Parameters.{places_of}
use Rattle.channel_states.specs.Nominal.{AreStartsFrom}
use Rattle.channel_states.proofs.Places.{starts-lawful, starts-told}
use Rattle.channel_states.proofs.place.has_lawful_starts.Goals as goal

pub overflow_mul-frames : goal.overflow_mul-frames
overflow_mul-frames c =
    let parts = places_of _ _ c.cycle.ensures.lawful c.requires.periodic c.requires.no_fault in
    let most = groups-most c.from.result c.args.nominal.interval c.args.nominal.grants
    (omega (arith, (bounds_of _ c.cycle.ensures.lawful).cycle_most)) (omega (arith, parts.grants_most)) in
    omega (arith, most)

pub are_starts_in-requires-clause-slots : goal.are_starts_in-requires-clause-slots
are_starts_in-requires-clause-slots c =
    let parts = places_of _ _ c.cycle.ensures.lawful c.requires.periodic c.requires.no_fault in
    omega (arith, parts.fits, (bounds_of _ c.cycle.ensures.lawful).frame_most)

pub are_starts_in-requires-clause-offset : goal.are_starts_in-requires-clause-offset
are_starts_in-requires-clause-offset c = omega (arith, (bounds_of _ c.cycle.ensures.lawful).frame_most)

pub returns-then-not-are_starts_in-clause-unlawful : goal.returns-then-not-are_starts_in-clause-unlawful
returns-then-not-are_starts_in-clause-unlawful c = λ no are.
    let n = c.args.nominal in
    let config = c.args.config.now in
    let place = c.args.place.now in
    let index = c.loop-index.index in
    let parts = places_of config c.args.spec.now c.cycle.ensures.lawful c.requires.periodic c.requires.no_fault in
    let cycle : c.from.result ≡ config.cycle = c.from.ensures ∙ c.cycle.ensures.value in
    let within : index < config.cycle / n.interval = subst (λ m. index < m / n.interval) cycle (omega arith) in
    let here = starts-told config c.args.spec.now n c.requires.nominal parts place c.requires.phase c.requires.within
    are index within in
    let range = range-group c.as_slice-starts.result.now n.grants index (index * n.grants)
    (index * n.grants + n.grants) refl refl in
    c.if-not-are_starts_in.ensures.unlawful refl
    (subst (AreStartsFrom config n place.offset) (sym range) (rw c.as_slice-starts.ensures here))

pub returns-clause-lawful : goal.returns-clause-lawful
returns-clause-lawful c = λ yes.
    let n = c.args.nominal in
    let config = c.args.config.now in
    let place = c.args.place.now in
    let parts = places_of config c.args.spec.now c.cycle.ensures.lawful c.requires.periodic c.requires.no_fault in
    let cycle : c.from.result ≡ config.cycle = c.from.ensures ∙ c.cycle.ensures.value in
    let all : c.loop-index.index ≡ config.cycle / n.interval =
    subst (λ m. c.loop-index.index ≡ m / n.interval) cycle (omega arith) in
    starts-lawful config c.args.spec.now n c.requires.nominal parts place c.requires.phase c.requires.within
    (rw c.as_slice-starts.ensures at (c.if-starts-frames.false)
    ∙ ap (λ m. m / n.interval * n.grants) cycle)
    (λ index within. c.loop-index.invariant index (omega (arith, all, within)))
