-- The flow in its place asks for other bytes.
use Rattle.std.proofs.Common.{◌∙◌, ap}
use Rattle.std.proofs.Math.Seq.{map-set_same}
use Rattle.flow_book.specs.Entry.{live, room_in}
use Rattle.flow_book.specs.Book.{with_replaced}
use Rattle.flow_book.proofs.Followed.{has-changed}
use Rattle.flow_book.specs.declared.flow.Flow.{Flow}
use Rattle.flow_book.proofs.Places.{placed}
use Rattle.flow_book.proofs.Changes.{placed-changed, same-view}
use Rattle.flow_book.proofs.Sums.{placed-sums, replaced-book}
use Rattle.flow_book.proofs.Queues.{same-but}
use Rattle.flow_book.proofs.book.Book.replace.Goals as goal

pub replace-requires-clause-sum : goal.replace-requires-clause-sum
replace-requires-clause-sum c =
    let items = c.self.inside.flows in
    let f = c.at_mut.result.now in
    let is =
    placed c.args.sid items c.place-place.result f (rw (← c.self.view_is) at c.place-place.ensures)
    c.at_mut.ensures.value in
    (placed-sums c.self.inside.channel c.args.sid items c.place-place.result f c.self.invariant.book is).granted

pub replace-requires-clause-fits : goal.replace-requires-clause-fits
replace-requires-clause-fits c =
    let items = c.self.inside.flows in
    let f = c.at_mut.result.now in
    let is =
    placed c.args.sid items c.place-place.result f (rw (← c.self.view_is) at c.place-place.ensures)
    c.at_mut.ensures.value in
    rw (← c.self.view_is, is.found) at c.requires.fits

pub follow-self-inside-requires-clause-book : goal.follow-self-inside-requires-clause-book
follow-self-inside-requires-clause-book c =
    let items = c.self.inside.flows in
    let f = c.at_mut.result.now in
    let is =
    placed c.args.sid items c.place-place.result f (rw (← c.self.view_is) at c.place-place.ensures)
    c.at_mut.ensures.value in (
      c.self.inside.channel,
      rw c.replace.ensures (replaced-book c.self.inside.channel c.args.sid c.args.bytes c.args.heard
          items c.place-place.result f c.self.invariant.book is),
    )

pub follow_at-requires-clause-book : goal.follow_at-requires-clause-book
follow_at-requires-clause-book c =
    let items = c.self.inside.flows in
    let f = c.at_mut.result.now in
    let is =
    placed c.args.sid items c.place-place.result f (rw (← c.self.view_is) at c.place-place.ensures)
    c.at_mut.ensures.value in (
      c.self.inside.channel,
      rw c.replace.ensures (replaced-book c.self.inside.channel c.args.sid c.args.bytes c.args.heard
          items c.place-place.result f c.self.invariant.book is),
    )

pub follow-self-inside-requires-clause-queue : goal.follow-self-inside-requires-clause-queue
follow-self-inside-requires-clause-queue c = λ known.
    let items = c.self.inside.flows in (
      items,
      same-but items c.place-place.result _,
      c.self.invariant.order known,
    )

pub invariant_of-self : goal.invariant_of-self
invariant_of-self c =
    let items = c.self.inside.flows in
    let f = c.at_mut.result.now in
    let is =
    placed c.args.sid items c.place-place.result f (rw (← c.self.view_is) at c.place-place.ensures)
    c.at_mut.ensures.value in
    record {
      book = rw c.replace.ensures (replaced-book c.self.inside.channel c.args.sid c.args.bytes c.args.heard items
          c.place-place.result f c.self.invariant.book is);
      order = λ known. c.follow-self-inside.ensures known;
      lined = c.follow_at.ensures c.self.inside.channel items c.self.invariant.book
          (has-changed c.args.sid items c.place-place.result c.at_mut.result.now _ _ is c.at_mut.ensures.value
          c.number_at-before.ensures c.replace.new.self (ap (λ (g : Flow). g.sid) c.replace.ensures)) c.self.invariant.lined;
    }

pub returns : goal.returns
returns c =
    let items = c.self.inside.flows in
    let f = c.at_mut.result.now in
    let e = c.replace.new.self in
    let is =
    placed c.args.sid items c.place-place.result f (rw (← c.self.view_is) at c.place-place.ensures)
    c.at_mut.ensures.value in
    rw (← c.self.view_is)
    (same-view c.self.inside.channel _ _ _ _
    (placed-changed c.args.sid (with_replaced c.args.bytes c.args.heard) items c.place-place.result e f
    c.self.invariant.book.sound.ascending is (ap live c.replace.ensures))
    (map-set_same room_in items c.place-place.result e f (ap room_in c.replace.ensures
    ∙ ap room_in c.at_mut.ensures.value)))
