-- All that wait are in the two parts, and the line is that of the flows before the MAP.
use Rattle.std.proofs.Common.{sym, subst}
use Rattle.std.proofs.lemmas.Result.{IfOk-weaker}
use Rattle.flow_book.specs.Numbers.{IsLineOf}
use Rattle.flow_book.specs.Queue.{all_of}
use Rattle.flow_book.proofs.Mended.{IsShownOf, shown-of}
use Rattle.flow_book.proofs.overlay.Overlay.show.Goals as goal

pub show-shown-requires-clause-queue : goal.show-shown-requires-clause-queue
show-shown-requires-clause-queue c =
    let is = c.self.invariant.overlay in
    let whole = rw (c.deref.ensures.value, c.all.ensures) at c.all_of-queue.ensures in
    let of =
    shown-of c.self.inside.channel c.requires.book.0 c.self.inside.before.items c.self.inside.flows.items
    c.self.inside.is_long (all_of c.self.inside.is_long c.self.inside.few.items c.self.inside.many) c.self.inside.served.items c.self.inside.tiers.items _
    c.self.inside.first c.args.flows.now c.all_of-queue.result.now c.deref-3.result.now c.changed_of-changed.result.now
    c.forget_shown.new.line c.self.invariant.overlay c.requires.book.1 (rw (← c.self.view_is) at c.requires.flows)
    whole c.deref-3.ensures.value (rw (whole, c.deref-2.ensures.value) at c.changed_of-changed.ensures)
    (c.forget_shown.ensures.line c.self.inside.before.items c.self.inside.flows.items c.self.invariant.lined) in
    (c.self.inside.channel, is.items, is.book, of.order, of.same, of.changes, of.lined)

-- what is shown
of : (c : goal.After-self-1) → IsShownOf c.self.inside.channel c.args.flows.now c.self.invariant.overlay.items
    c.all_of-queue.result.now c.deref-3.result.now c.changed_of-changed.result.now c.forget_shown.new.line
of c =
    let whole = rw (c.deref.ensures.value, c.all.ensures) at c.all_of-queue.ensures in
    shown-of c.self.inside.channel c.requires.book.0 c.self.inside.before.items c.self.inside.flows.items
    c.self.inside.is_long (all_of c.self.inside.is_long c.self.inside.few.items c.self.inside.many) c.self.inside.served.items c.self.inside.tiers.items _
    c.self.inside.first c.args.flows.now c.all_of-queue.result.now c.deref-3.result.now c.changed_of-changed.result.now
    c.forget_shown.new.line c.self.invariant.overlay c.requires.book.1 (rw (← c.self.view_is) at c.requires.flows)
    whole c.deref-3.ensures.value (rw (whole, c.deref-2.ensures.value) at c.changed_of-changed.ensures)
    (c.forget_shown.ensures.line c.self.inside.before.items c.self.inside.flows.items c.self.invariant.lined)

pub invariant_of-self : goal.invariant_of-self
invariant_of-self c =
    let is = c.self.invariant.overlay in
    let shown = of c in
    record {
      overlay = is;
      lined = subst (λ fs. IsLineOf fs c.show-shown.new.line) is.shows
          (c.show-shown.ensures.line c.self.inside.channel is.items shown.order shown.changes shown.lined);
    }

pub returns-clause-pending : goal.returns-clause-pending
returns-clause-pending c =
    let is = c.self.invariant.overlay in
    let shown = of c in
    rw (← c.self.view_is, sym is.shows, sym (rw c.config.ensures at c.pending-most.ensures.value))
    (IfOk-weaker c.show-shown.result _ _ (λ s holds. holds c.self.inside.channel is.items is.book shown.order shown.same)
    c.show-shown.ensures.pending)

pub returns-clause-ack : goal.returns-clause-ack
returns-clause-ack c =
    let is = c.self.invariant.overlay in
    let shown = of c in
    rw (← c.self.view_is, sym is.shows, sym (rw c.config.ensures at c.pending-most.ensures.value))
    (IfOk-weaker c.show-shown.result _ _ (λ s holds. holds c.self.inside.channel is.items is.book shown.order shown.same)
    c.show-shown.ensures.ack)
