-- The phase is one of the interval's.
use Rattle.std.proofs.Common.{arith}
use Rattle.periodic.proofs.Parameters.{places_of}
use Rattle.periodic.proofs.table.standing.reference_from.Goals as goal

pub first_nominal-requires-clause-phase : goal.first_nominal-requires-clause-phase
first_nominal-requires-clause-phase c =
    let s = c.requires.sound in
    let places = places_of _ _ s.times.lawful s.sound.periodic s.sound.no_fault in
    omega (arith, s.times.phase, s.times.interval, places.interval_positive)

pub first_nominal-requires-clause-interval : goal.first_nominal-requires-clause-interval
first_nominal-requires-clause-interval c =
    let s = c.requires.sound in
    let places = places_of _ _ s.times.lawful s.sound.periodic s.sound.no_fault in
    omega (arith, s.times.interval, places.interval_most)
