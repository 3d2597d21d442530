-- What is told begins behind all entries.
use Rattle.std.proofs.Common.{◌∙◌}
use Rattle.sched_report.proofs.reporter.Reporter.renew.Goals as goal

pub renew-requires : goal.renew-requires
renew-requires c = (c.self.inside.auditor.history, c.self.invariant.tally)

pub invariant_of-self : goal.invariant_of-self
invariant_of-self c = record {
  config = c.renew.ensures.config ∙ c.self.invariant.config;
  tally = c.renew.ensures.renewed c.self.inside.auditor.history c.self.invariant.tally c.taken.ensures.value;
}
