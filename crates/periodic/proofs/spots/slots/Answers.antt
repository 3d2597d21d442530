-- A grant and a poll fit behind the request region.
use Rattle.std.proofs.Common.{◌≡◌, rules, arith}
use Rattle.minislots.proofs.Bounds.{bounds_of}
use Rattle.sched_calls.specs.FlowSpec.{periodic_slots}
use Rattle.periodic.proofs.Parameters.{places_of}
use Rattle.periodic.proofs.spots.slots.Goals as goal

pub returns-in-Unsolicited-clause-positive : goal.returns-in-Unsolicited-clause-positive
returns-in-Unsolicited-clause-positive c =
    let slots : c.slots_for_unsolicited.result ≡ periodic_slots c.args.config.now c.args.spec.now = search rules in
    omega (arith, (places_of _ _ c.poll_slots.ensures.lawful c.requires.periodic c.requires.no_fault).not_empty)

pub returns-in-Unsolicited-clause-fits : goal.returns-in-Unsolicited-clause-fits
returns-in-Unsolicited-clause-fits c =
    let slots : c.slots_for_unsolicited.result ≡ periodic_slots c.args.config.now c.args.spec.now = search rules in
    omega (arith, (places_of _ _ c.poll_slots.ensures.lawful c.requires.periodic c.requires.no_fault).fits)

pub returns-in-Unsolicited-clause-most : goal.returns-in-Unsolicited-clause-most
returns-in-Unsolicited-clause-most c =
    let slots : c.slots_for_unsolicited.result ≡ periodic_slots c.args.config.now c.args.spec.now = search rules in
    omega (
      arith,
      (places_of _ _ c.poll_slots.ensures.lawful c.requires.periodic c.requires.no_fault).fits,
      (bounds_of _ c.poll_slots.ensures.lawful).frame_most,
    )

pub returns-in-Polled-clause-most : goal.returns-in-Polled-clause-most
returns-in-Polled-clause-most c = omega (arith, (bounds_of _ c.poll_slots.ensures.lawful).frame_most)
