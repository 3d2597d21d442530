-- The bounds of what a scheduler keeps.
use Rattle.std.proofs.Common.{List, length}
use Rattle.minislots.specs.declared.config.Config.{Config}
use Rattle.minislots.specs.Config.{IsLawful}
use Rattle.sched_calls.specs.declared.reply.Entry.{Entry}
use Rattle.sched_history.specs.Life.{flows_of}
use Rattle.sched_history.specs.Time.{next_after}
use Rattle.sched_history.specs.History.{IsLegal}
use Rattle.sched_history.specs.State.{IsBounded}
use Rattle.sched_history.proofs.steps.LegalBounds.{next_after-aligned, next_after-most, flows_of-asked}
use Rattle.sched_history.proofs.steps.LegalBounds.{flows_of-HasStartedBy, flows_of-few}
use Rattle.sched_history.proofs.facts.SoundLives.{within_asked}

-- a legal history keeps to the bounds
pub IsBounded-legal : (c : Config) (h : List Entry) → IsLawful c → IsLegal c h
    → IsBounded c (flows_of c h) (next_after c h) (length h)
IsBounded-legal c h lawful legal = record {
  aligned = next_after-aligned c lawful h legal;
  next_most = next_after-most c lawful h legal;
  asked = flows_of-asked c lawful h legal;
  started = flows_of-HasStartedBy c lawful h legal;
  within = within_asked c h legal;
  few = flows_of-few c lawful h legal;
}
