-- Those served are taken over, and all that still wait are in the queue.
use Rattle.std.proofs.Common.{◌≡◌, ◌∙◌, sym, filter, false, Result, Ok, Err, is_err, OnOk, subst, rules}
use Rattle.flow_book.specs.Queue.{IsQueue, IsQueueIn, all_of, still_waits}
use Rattle.flow_book.specs.Taking.{CanBeTaken}
use Rattle.std.proofs.lemmas.Fn.{filter_same}
use Rattle.flow_book.proofs.Overlays.{can-long, can-short}
use Rattle.flow_book.proofs.SameEntries.{same-parts, same-queue}
use Rattle.flow_book.proofs.StillWaiting.{order-in}
use Rattle.flow_book.proofs.overlay.Overlay.put_into.Goals as goal

pub take_over-requires : goal.take_over-requires
take_over-requires c =
    let inside = c.self.inside in
    let whole = all_of inside.is_long inside.few.items inside.many in
    let o = c.self.invariant.overlay in
    let book = rw (← c.self.view_is) at c.requires.0 in
    let before = rw (← c.self.view_is) at c.requires.1 in
    let can =
    can-long inside.channel inside.before.items inside.flows.items inside.is_long whole inside.served.items
    inside.tiers.items _ inside.first c.args.flows.now o book before c.if-self.true in
    (inside.channel, o.items, rw (c.deref.ensures.value, c.deref-then-self.ensures.value) can, o.shows)

pub merge-requires : goal.merge-requires
merge-requires c =
    let inside = c.self.inside in
    let whole = all_of inside.is_long inside.few.items inside.many in
    let o = c.self.invariant.overlay in
    let parts = order-in inside.is_long o.items whole inside.served.items o.order in (
      inside.channel,
      o.items,
      o.book,
      subst (λ b. IsQueueIn o.items (all_of b inside.few.items inside.many)
          inside.served.items) c.if-self.true parts,
    )

pub returns-then-is_err-clause-book : goal.returns-then-is_err-clause-book
returns-then-is_err-clause-book c =
    let inside = c.self.inside in
    let whole = all_of inside.is_long inside.few.items inside.many in
    let o = c.self.invariant.overlay in
    let book = rw (← c.self.view_is) at c.requires.0 in
    let before = rw (← c.self.view_is) at c.requires.1 in
    let can =
    can-long inside.channel inside.before.items inside.flows.items inside.is_long whole inside.served.items
    inside.tiers.items _ inside.first c.args.flows.now o book before c.if-self.true in
    let is =
    (rw (c.deref.ensures.value, c.deref-then-self.ensures.value) at c.take_over.ensures) inside.channel o.items can o.shows in
    rw (← c.self.view_is) (is.book, is.shows ∙ o.shows)

pub returns-then-self-clause-book : goal.returns-then-self-clause-book
returns-then-self-clause-book c =
    let inside = c.self.inside in
    let whole = all_of inside.is_long inside.few.items inside.many in
    let o = c.self.invariant.overlay in
    let book = rw (← c.self.view_is) at c.requires.0 in
    let before = rw (← c.self.view_is) at c.requires.1 in
    let can =
    can-long inside.channel inside.before.items inside.flows.items inside.is_long whole inside.served.items
    inside.tiers.items _ inside.first c.args.flows.now o book before c.if-self.true in
    let is =
    (rw (c.deref.ensures.value, c.deref-then-self.ensures.value) at c.take_over.ensures) inside.channel o.items can o.shows in
    rw (← c.self.view_is) (is.book, is.shows ∙ o.shows)

on-ok : {T E : Type 0} (r : Result T E) (P : Type 0) → is_err r ≡ false → OnOk r P → P
on-ok (Ok x) P whole holds = holds
on-ok (Err e) P whole holds = absurd (cc)

pub returns-then-self-clause-order : goal.returns-then-self-clause-order
returns-then-self-clause-order c =
    let inside = c.self.inside in
    let whole = all_of inside.is_long inside.few.items inside.many in
    let o = c.self.invariant.overlay in
    let book = rw (← c.self.view_is) at c.requires.0 in
    let before = rw (← c.self.view_is) at c.requires.1 in
    let can =
    can-long inside.channel inside.before.items inside.flows.items inside.is_long whole inside.served.items
    inside.tiers.items _ inside.first c.args.flows.now o book before c.if-self.true in
    let is =
    (rw (c.deref.ensures.value, c.deref-then-self.ensures.value) at c.take_over.ensures) inside.channel o.items can o.shows in
    let parts =
    same-parts inside.channel c.take_over.new.flows o.items inside.many inside.served.items is.book o.book is.shows
    (subst (λ b. IsQueueIn o.items (all_of b inside.few.items inside.many) inside.served.items) c.if-self.true
    (order-in inside.is_long o.items whole inside.served.items o.order)) in
    on-ok c.merge.result _ (sym c.is_err.ensures.value ∙ c.if-is_err.false) c.merge.ensures inside.channel c.take_over.new.flows is.book parts

pub take_over-requires-2 : goal.take_over-requires-2
take_over-requires-2 c =
    let inside = c.self.inside in
    let whole = all_of inside.is_long inside.few.items inside.many in
    let o = c.self.invariant.overlay in
    let book = rw (← c.self.view_is) at c.requires.0 in
    let before = rw (← c.self.view_is) at c.requires.1 in
    let can =
    can-short inside.channel inside.before.items inside.flows.items inside.is_long whole inside.served.items
    inside.tiers.items _ inside.first c.args.flows.now o book before c.if-self.false in
    let few : CanBeTaken inside.channel c.args.flows.now o.items inside.tiers.items inside.few.items =
    subst (λ b. CanBeTaken inside.channel c.args.flows.now o.items inside.tiers.items
    (all_of b inside.few.items inside.many)) c.if-self.false can in
    (inside.channel, o.items, rw (c.deref-2.ensures.value, c.deref-3.ensures.value) few, o.shows)

pub returns-clause-book : goal.returns-clause-book
returns-clause-book c =
    let inside = c.self.inside in
    let whole = all_of inside.is_long inside.few.items inside.many in
    let o = c.self.invariant.overlay in
    let book = rw (← c.self.view_is) at c.requires.0 in
    let before = rw (← c.self.view_is) at c.requires.1 in
    let can =
    can-short inside.channel inside.before.items inside.flows.items inside.is_long whole inside.served.items
    inside.tiers.items _ inside.first c.args.flows.now o book before c.if-self.false in
    let few : CanBeTaken inside.channel c.args.flows.now o.items inside.tiers.items inside.few.items =
    subst (λ b. CanBeTaken inside.channel c.args.flows.now o.items inside.tiers.items
    (all_of b inside.few.items inside.many)) c.if-self.false can in
    let is =
    (rw (c.deref-2.ensures.value, c.deref-3.ensures.value) at c.take_over-2.ensures) inside.channel o.items few o.shows in
    rw (← c.self.view_is) (is.book, is.shows ∙ o.shows)

pub returns-clause-order : goal.returns-clause-order
returns-clause-order c =
    let inside = c.self.inside in
    let whole = all_of inside.is_long inside.few.items inside.many in
    let o = c.self.invariant.overlay in
    let book = rw (← c.self.view_is) at c.requires.0 in
    let before = rw (← c.self.view_is) at c.requires.1 in
    let can =
    can-short inside.channel inside.before.items inside.flows.items inside.is_long whole inside.served.items
    inside.tiers.items _ inside.first c.args.flows.now o book before c.if-self.false in
    let few : CanBeTaken inside.channel c.args.flows.now o.items inside.tiers.items inside.few.items =
    subst (λ b. CanBeTaken inside.channel c.args.flows.now o.items inside.tiers.items
    (all_of b inside.few.items inside.many)) c.if-self.false can in
    let is =
    (rw (c.deref-2.ensures.value, c.deref-3.ensures.value) at c.take_over-2.ensures) inside.channel o.items few o.shows in
    let order = rw c.if-self.false at o.order in
    let kept : c.retain.new.self.items ≡ filter still_waits inside.few.items =
    filter_same _ still_waits _ (λ x b f' k. search rules) _ _ c.retain.ensures.filtered in
    subst (IsQueue c.take_over-2.new.flows) (sym (c.of.ensures ∙ kept))
    (same-queue inside.channel c.take_over-2.new.flows o.items (filter still_waits inside.few.items) is.book o.book
    is.shows order.0.waiting)
