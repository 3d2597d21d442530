-- What follows for every legal history, after each of its entries.
use Rattle.std.proofs.Common.{List, [], take}
use Rattle.minislots.specs.declared.config.Config.{Config}
use Rattle.minislots.specs.Config.{IsLawful}
use Rattle.sched_calls.specs.declared.reply.Entry.{Entry}
use Rattle.sched_history.specs.History.{IsStep, IsLegal}
use Rattle.sched_history.specs.Facts.{HoldsAfter, FollowsAlways}
use Rattle.sched_history.proofs.steps.LegalHistories.{EachAfter-take}
use Rattle.sched_history.proofs.time.NextFrames.{starts_ascend}
use Rattle.sched_history.proofs.time.AckTimes.{heard_after}
use Rattle.sched_history.proofs.facts.SoundLives.{within_asked, within_rate, within_peak, within_reserved}
use Rattle.sched_history.proofs.facts.OnTime.{on_time}
use Rattle.sched_history.proofs.facts.Orderly.{orderly}
use Rattle.sched_history.proofs.facts.Ranging.{ranging}
use Rattle.sched_history.proofs.facts.ServedReserved.{serves_reserved}
use Rattle.sched_history.proofs.facts.Settled.{settles_in_time}

-- what holds after the entries of a legal history
pub holds_after : (c : Config) (h : List Entry) → IsLawful c → IsLegal c h → HoldsAfter c h
holds_after c h lawful legal = record {
  within_asked = within_asked c h legal;
  within_rate = within_rate c h legal;
  within_peak = within_peak c h legal;
  within_reserved = within_reserved c h legal;
  orderly = orderly c lawful h legal;
  starts_ascend = starts_ascend c h legal;
  on_time = on_time c lawful h legal;
  heard_after = heard_after c h legal;
  ranging = ranging c h legal;
  serves_reserved = serves_reserved c h legal;
  settles = settles_in_time c h legal;
}

-- so too after each front of them
pub facts_of : (c : Config) (h : List Entry) → IsLawful c → IsLegal c h → FollowsAlways c h
unfolding FollowsAlways
facts_of c h lawful legal n =
    holds_after c (take n h) lawful (EachAfter-take (λ before e. IsStep c before e.call e.reply) [] h n legal)
