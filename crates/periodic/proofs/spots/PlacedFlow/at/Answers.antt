-- What is kept was worked out of the parameters and the placement.
use Rattle.std.proofs.Common.{ap, ◌∙◌, ◌/◌, ◌%◌}
use Rattle.periodic.proofs.spots.PlacedFlow.at.Goals as goal

pub returns-clause-times : goal.returns-clause-times
returns-clause-times c =
    let reference = c.args.placement.reference in
    let frame = c.from.ensures ∙ c.frame.ensures.value in
    let interval = c.interval-interval.ensures.value in
    record {
      lawful = c.interval-interval.ensures.lawful;
      interval = interval;
      phase = ap (λ n. reference / n % c.interval-interval.result) frame
          ∙ ap (λ n. reference / c.args.config.now.frame % n) interval;
      slots = c.slots.ensures.value;
      poll_slots = c.poll_slots.ensures.value;
      grants = c.grants.ensures.value;
    }
