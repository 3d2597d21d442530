-- The flow in its place has other parameters.
use Rattle.std.proofs.Common.{◌∙◌, ap}
use Rattle.std.proofs.Math.Seq.{map-set_same}
use Rattle.flow_book.specs.Entry.{room_in}
use Rattle.flow_book.specs.Book.{with_spec}
use Rattle.flow_book.proofs.Followed.{has-changed}
use Rattle.flow_book.specs.Flows.{LiveFlow}
use Rattle.flow_book.proofs.Places.{placed}
use Rattle.flow_book.proofs.Changes.{placed-changed, same-view}
use Rattle.flow_book.proofs.Sums.{placed-sums, changed-book}
use Rattle.flow_book.proofs.Queues.{same-but}
use Rattle.flow_book.proofs.book.Book.change.Goals as goal

pub follow-self-inside-requires-clause-book : goal.follow-self-inside-requires-clause-book
follow-self-inside-requires-clause-book c =
    let config = c.self.inside.channel in
    let items = c.self.inside.flows in
    let f = c.at_mut.result.now in
    let is =
    placed c.args.sid items c.place-place.result f (rw (← c.self.view_is) at c.place-place.ensures)
    c.at_mut.ensures.value in
    let keeps = placed-sums config c.args.sid items c.place-place.result f c.self.invariant.book is in (
      config,
      changed-book config c.args.sid c.args.spec items c.place-place.result c.change.new.self f
          c.self.invariant.book is c.change.ensures.live ((rw c.config.ensures at c.change.ensures.sums) keeps),
    )

pub follow_at-requires-clause-book : goal.follow_at-requires-clause-book
follow_at-requires-clause-book c =
    let config = c.self.inside.channel in
    let items = c.self.inside.flows in
    let f = c.at_mut.result.now in
    let is =
    placed c.args.sid items c.place-place.result f (rw (← c.self.view_is) at c.place-place.ensures)
    c.at_mut.ensures.value in
    let keeps = placed-sums config c.args.sid items c.place-place.result f c.self.invariant.book is in (
      config,
      changed-book config c.args.sid c.args.spec items c.place-place.result c.change.new.self f
          c.self.invariant.book is c.change.ensures.live ((rw c.config.ensures at c.change.ensures.sums) keeps),
    )

pub follow-self-inside-requires-clause-queue : goal.follow-self-inside-requires-clause-queue
follow-self-inside-requires-clause-queue c = λ known.
    let items = c.self.inside.flows in (
      items,
      same-but items c.place-place.result c.change.new.self,
      c.self.invariant.order known,
    )

pub invariant_of-self : goal.invariant_of-self
invariant_of-self c =
    let config = c.self.inside.channel in
    let items = c.self.inside.flows in
    let f = c.at_mut.result.now in
    let is =
    placed c.args.sid items c.place-place.result f (rw (← c.self.view_is) at c.place-place.ensures)
    c.at_mut.ensures.value in
    let keeps = placed-sums config c.args.sid items c.place-place.result f c.self.invariant.book is in
    record {
      book = changed-book config c.args.sid c.args.spec items c.place-place.result c.change.new.self f
          c.self.invariant.book is c.change.ensures.live ((rw c.config.ensures at c.change.ensures.sums) keeps);
      order = λ known. c.follow-self-inside.ensures known;
      lined = c.follow_at.ensures c.self.inside.channel items c.self.invariant.book
          (has-changed c.args.sid items c.place-place.result c.at_mut.result.now _ _ is c.at_mut.ensures.value
          c.number_at-before.ensures c.change.new.self (ap (λ (g : LiveFlow). g.sid) c.change.ensures.live)) c.self.invariant.lined;
    }

pub returns : goal.returns
returns c =
    let items = c.self.inside.flows in
    let f = c.at_mut.result.now in
    let e = c.change.new.self in
    let is =
    placed c.args.sid items c.place-place.result f (rw (← c.self.view_is) at c.place-place.ensures)
    c.at_mut.ensures.value in
    rw (← c.self.view_is)
    (same-view c.self.inside.channel _ _ _ _
    (placed-changed c.args.sid (with_spec c.args.spec) items c.place-place.result e f
    c.self.invariant.book.sound.ascending is c.change.ensures.live)
    (map-set_same room_in items c.place-place.result e f (c.change.ensures.room ∙ ap room_in c.at_mut.ensures.value)))
