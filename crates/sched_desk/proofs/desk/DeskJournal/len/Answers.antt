-- As many events are kept as entries.
use Rattle.std.proofs.Common.{length, sym, ap, ◌∙◌}
use Rattle.std.proofs.lemmas.List.{length-map}
use Rattle.sched_desk.specs.declared.event.Event.TheVariants.{Recorded}
use Rattle.sched_desk.specs.Events.{kept_in}
use Rattle.sched_desk.proofs.desk.DeskJournal.len.Goals as goal

pub returns : goal.returns
returns g c = ap length c.kept.ensures ∙ sym (length-map (kept_in c.args.self.now.events) Recorded)
