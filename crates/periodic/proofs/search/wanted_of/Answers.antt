-- What is looked for is worked out of the parameters.
use Rattle.periodic.proofs.search.wanted_of.Goals as goal

pub returns-clause-value : goal.returns-clause-value
returns-clause-value c = record {
  interval = c.interval.ensures.value;
  jitter = c.jitter.ensures;
  slots = c.slots.ensures.value;
  grants = c.grants.ensures.value;
}

pub returns-clause-sought : goal.returns-clause-sought
returns-clause-sought c = record {
  interval_positive = c.interval.ensures.positive;
  divides = c.interval.ensures.divides;
  not_empty = c.slots.ensures.positive;
  slots_most = c.slots.ensures.most;
  grants_positive = c.grants.ensures.positive;
  grants_most = c.grants.ensures.most;
  fits = c.slots.ensures.fits;
}
