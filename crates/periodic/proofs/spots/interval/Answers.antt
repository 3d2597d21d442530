-- An interval has frames, which divide the cycle.
use Rattle.std.proofs.Common.{◌≡◌, ◌/◌, rules}
use Rattle.sched_calls.specs.FlowSpec.{interval_frames}
use Rattle.periodic.proofs.Parameters.{places_of}
use Rattle.periodic.proofs.spots.interval.Goals as goal

pub returns-clause-positive : goal.returns-clause-positive
returns-clause-positive c =
    let frames : c.slots_floor.result / c.from-frame.result ≡ interval_frames c.args.config.now c.args.spec.now =
    search rules in
    rw frames ((places_of _ _ c.frame.ensures.lawful c.requires.periodic c.requires.no_fault).interval_positive)

pub returns-clause-divides : goal.returns-clause-divides
returns-clause-divides c =
    let frames : c.slots_floor.result / c.from-frame.result ≡ interval_frames c.args.config.now c.args.spec.now =
    search rules in
    rw frames ((places_of _ _ c.frame.ensures.lawful c.requires.periodic c.requires.no_fault).divides)

pub returns-clause-most : goal.returns-clause-most
returns-clause-most c =
    let frames : c.slots_floor.result / c.from-frame.result ≡ interval_frames c.args.config.now c.args.spec.now =
    search rules in
    rw frames ((places_of _ _ c.frame.ensures.lawful c.requires.periodic c.requires.no_fault).interval_most)
