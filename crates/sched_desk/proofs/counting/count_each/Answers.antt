-- Nothing is counted at first, and each entry once.
use Rattle.std.proofs.Common.{◌<◌, ◌+◌, refl, sym, ap, ◌∙◌, subst, length-set}
use Rattle.std.proofs.lemmas.List.{get_or-replicate}
use Rattle.sched_calls.specs.declared.reply.Entry.{Entry}
use Rattle.ticket_core.specs.declared.TheConstants.{MAX_SEATS}
use Rattle.sched_desk.proofs.Counts.{counts-more, sum-more}
use Rattle.sched_desk.proofs.counting.count_each.Goals as goal

pub loop-entry-init : goal.loop-entry-init
loop-entry-init c = record {
  size = refl;
  counts = λ number below. get_or-replicate 64 number 0 0 below;
  total = refl;
}

pub loop-entry-preserved : goal.loop-entry-preserved
loop-entry-preserved c =
    let so = c.loop-entry.invariant in
    let at = c.loop-entry.entry-index in
    let e = c.entry-item.result in
    let is = c.entry-item.is in
    let here = c.loop-entry-test.true in
    let small : e.stamp.seat < MAX_SEATS =
    subst (λ (x : Entry). x.stamp.seat < MAX_SEATS) (sym is) (c.requires.seats at e here) in
    record {
      size = length-set c.loop-entry.counts e.stamp.seat _ ∙ so.size;
      counts = counts-more c.args.history.now at e here is c.loop-entry.counts so.size small so.counts;
      total = sum-more c.args.history.now at e here is c.loop-entry.counts so.size small ∙ ap (λ n. n + 1) so.total;
    }
