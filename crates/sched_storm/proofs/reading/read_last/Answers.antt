-- The reader knows what it was told: it reads none only where that is nothing.
use Rattle.std.proofs.Common.{length, ap, sym, ◌∙◌}
use Rattle.map_snapshot.specs.Maps.{Known}
use Rattle.sched_storm.proofs.ReadLaws.{none_read}
use Rattle.sched_storm.proofs.reading.read_last.Goals as goal

pub returns : goal.returns
returns g c = record {
  read = ap (λ (k : Known). length k.list) (sym c.tell.ensures.told)
      ∙ none_read c.tell.result.list c.learn.new.self.list c.newest.new.self.list c.learn.ensures.told
      c.newest.ensures.grows c.in-None.ensures.newest;
}
