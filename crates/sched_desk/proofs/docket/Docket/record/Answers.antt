-- The entry is counted for its seat.
use Rattle.std.proofs.Common.{ℕ, List, length, sym, ap, ◌∙◌, subst, arith}
use Rattle.sched_calls.specs.declared.reply.Entry.{Entry}
use Rattle.sched_desk.specs.Closed.{IsCounted}
use Rattle.sched_desk.specs.Events.{history_in}
use Rattle.sched_desk.specs.Desk.{Docketed}
use Rattle.sched_desk.proofs.Counts.{count-few, counted-more}
use Rattle.sched_desk.proofs.Events.{history_in-recorded}
use Rattle.sched_desk.proofs.docket.Docket.record.Goals as goal

pub count_entry-requires : goal.count_entry-requires
count_entry-requires c = record {
  few = λ number below.
      let most = count-few c.self.inside.counts (history_in c.self.inside.events.items) c.self.invariant number below in
      let short = c.requires.few in
      let same = ap (λ (d : Docketed). history_in d.events) c.self.view_is in
      let long = ap (λ (l : List Entry). length l) same in
      omega (arith, most, short, long);
}

pub invariant_of-self : goal.invariant_of-self
invariant_of-self c =
    let e : Entry = record { stamp = c.args.stamp; call = c.args.call.now; reply = c.args.reply.now } in
    let h = history_in c.self.inside.events.items in
    subst (λ (y : List ℕ × List Entry). IsCounted y.0 y.1)
    (λ i. (
      sym c.count_entry.ensures.counted i,
      (sym (ap history_in c.and_recorded-self-inside.ensures ∙ history_in-recorded c.self.inside.events.items e)) i,
    ))
    (counted-more c.self.inside.counts h c.self.invariant e)
