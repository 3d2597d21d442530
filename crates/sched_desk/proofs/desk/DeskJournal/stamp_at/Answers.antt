-- The stamp of the entry that is kept at the place.
use Rattle.std.proofs.Common.{List, slice_get, sym, ap, ◌∙◌}
use Rattle.sched_calls.specs.declared.reply.Entry.{Entry}
use Rattle.sched_desk.specs.Events.{kept_in, maker_of}
use Rattle.std.specs.Prelude.{option_map}
use Rattle.sched_desk.proofs.Agreed.{stamp-kept}
use Rattle.sched_desk.proofs.desk.DeskJournal.stamp_at.Goals as goal

pub returns : goal.returns
returns g c =
    c.stamp_in.ensures
    ∙ ap (λ (l : List Entry). option_map maker_of (slice_get l c.args.i)) c.kept.ensures
    ∙ sym (stamp-kept (kept_in c.args.self.now.events) c.args.i)
