-- The flow in its place has one grant more, for which there was room.
use Rattle.std.proofs.Common.{◌∙◌, ap, arith}
use Rattle.flow_book.specs.Flows.{LiveFlow}
use Rattle.flow_book.specs.Reserved.{with_grant}
use Rattle.flow_book.proofs.Followed.{has-changed}
use Rattle.flow_book.proofs.Places.{StandsAt, placed}
use Rattle.flow_book.proofs.Changes.{placed-changed, placed-is_sound}
use Rattle.flow_book.proofs.Sums.{placed-sums, granted-book}
use Rattle.flow_book.proofs.Queues.{same-but}
use Rattle.flow_book.proofs.Rooms.{room-placed, room-replaced, room-others}
use Rattle.flow_book.proofs.book.Book.grant.Goals as goal
use Rattle.flow_book.proofs.book.Book.grant.Goals.{After-at_mut, After-config}

-- the flow stands at its place before the grant
found : (c : goal.After-config)
    → StandsAt c.args.sid c.self.inside.flows c.place-place.result c.at_mut.result.now
found c =
    placed c.args.sid c.self.inside.flows c.place-place.result c.at_mut.result.now
    (rw (← c.self.view_is) at c.place-place.ensures) c.at_mut.ensures.value

pub grant-requires-clause-room : goal.grant-requires-clause-room
grant-requires-clause-room c =
    let some = rw (← c.self.view_is, room-placed _ _ _ _ (found c)) at c.requires.room in
    omega arith

pub grant-requires-clause-asked : goal.grant-requires-clause-asked
grant-requires-clause-asked c =
    let items = c.self.inside.flows in
    let f = c.at_mut.result.now in
    let is = found c in
    let may = rw (← c.self.view_is, is.found) at c.requires.lawful in
    let sound =
    placed-is_sound c.self.inside.channel c.args.sid items c.place-place.result f c.self.invariant.book.sound is in
    let keeps = placed-sums c.self.inside.channel c.args.sid items c.place-place.result f c.self.invariant.book is in
    omega (arith, may.asked, sound.within, keeps.granted)

pub grant-requires-clause-sums : goal.grant-requires-clause-sums
grant-requires-clause-sums c =
    rw c.config.ensures (placed-sums c.self.inside.channel c.args.sid c.self.inside.flows c.place-place.result
    c.at_mut.result.now c.self.invariant.book (found c))

pub grant-requires-clause-started : goal.grant-requires-clause-started
grant-requires-clause-started c = rw (← c.self.view_is, (found c).found) at c.requires.started

pub grant-requires-clause-keeps : goal.grant-requires-clause-keeps
grant-requires-clause-keeps c =
    let may = rw (← c.self.view_is, (found c).found) at c.requires.lawful in
    rw c.config.ensures may.taken.ceiling

pub follow-self-inside-requires-clause-book : goal.follow-self-inside-requires-clause-book
follow-self-inside-requires-clause-book c =
    let config = c.self.inside.channel in
    let items = c.self.inside.flows in
    let f = c.at_mut.result.now in
    let is =
    placed c.args.sid items c.place-place.result f (rw (← c.self.view_is) at c.place-place.ensures)
    c.at_mut.ensures.value in
    let may = rw (← c.self.view_is, is.found) at c.requires.lawful in (
      config,
      granted-book config c.args.sid c.args.start c.args.bytes _ items c.place-place.result
          c.grant.new.self f c.self.invariant.book is (rw c.config.ensures at c.grant.ensures.live) may
          (λ keeps kept. rw c.config.ensures at c.grant.ensures.sums),
    )

pub follow_at-requires-clause-book : goal.follow_at-requires-clause-book
follow_at-requires-clause-book c =
    let config = c.self.inside.channel in
    let items = c.self.inside.flows in
    let f = c.at_mut.result.now in
    let is =
    placed c.args.sid items c.place-place.result f (rw (← c.self.view_is) at c.place-place.ensures)
    c.at_mut.ensures.value in
    let may = rw (← c.self.view_is, is.found) at c.requires.lawful in (
      config,
      granted-book config c.args.sid c.args.start c.args.bytes _ items c.place-place.result
          c.grant.new.self f c.self.invariant.book is (rw c.config.ensures at c.grant.ensures.live) may
          (λ keeps kept. rw c.config.ensures at c.grant.ensures.sums),
    )

pub follow-self-inside-requires-clause-queue : goal.follow-self-inside-requires-clause-queue
follow-self-inside-requires-clause-queue c = λ known.
    let items = c.self.inside.flows in (
      items,
      same-but items c.place-place.result c.grant.new.self,
      c.self.invariant.order known,
    )

-- and after it
stands : (c : goal.After-follow_at)
    → StandsAt c.args.sid c.self.inside.flows c.place-place.result c.at_mut.result.now
stands c =
    placed c.args.sid c.self.inside.flows c.place-place.result c.at_mut.result.now
    (rw (← c.self.view_is) at c.place-place.ensures) c.at_mut.ensures.value

pub invariant_of-self : goal.invariant_of-self
invariant_of-self c =
    let config = c.self.inside.channel in
    let items = c.self.inside.flows in
    let is = stands c in
    let may = rw (← c.self.view_is, is.found) at c.requires.lawful in
    record {
      book = granted-book config c.args.sid c.args.start c.args.bytes _ items c.place-place.result c.grant.new.self
          c.at_mut.result.now c.self.invariant.book is (rw c.config.ensures at c.grant.ensures.live) may
          (λ keeps kept. rw c.config.ensures at c.grant.ensures.sums);
      order = λ known. c.follow-self-inside.ensures known;
      lined = c.follow_at.ensures c.self.inside.channel items c.self.invariant.book
          (has-changed c.args.sid items c.place-place.result c.at_mut.result.now _ _ is c.at_mut.ensures.value
          c.number_at-before.ensures c.grant.new.self (ap (λ (g : LiveFlow). g.sid) c.grant.ensures.live)) c.self.invariant.lined;
    }

pub returns-clause-flows : goal.returns-clause-flows
returns-clause-flows c =
    rw (← c.self.view_is)
    (placed-changed c.args.sid (with_grant c.self.inside.channel (record { start = c.args.start; bytes = c.args.bytes }))
    c.self.inside.flows c.place-place.result c.grant.new.self c.at_mut.result.now
    c.self.invariant.book.sound.ascending (stands c) (rw c.config.ensures at c.grant.ensures.live))

pub returns-clause-room : goal.returns-clause-room
returns-clause-room c =
    let is = stands c in
    let same = ap (λ (g : LiveFlow). g.sid) c.grant.ensures.live ∙ is.here in
    rw (
      ← c.self.view_is,
      room-placed _ _ _ _ is,
      room-replaced c.args.sid c.self.inside.flows
          c.place-place.result c.grant.new.self c.at_mut.result.now is same,
    ) (omega (arith, c.grant.ensures.room))

pub returns-clause-other_room : goal.returns-clause-other_room
returns-clause-other_room c = λ other differ.
    let is = stands c in
    let same = ap (λ (g : LiveFlow). g.sid) c.grant.ensures.live ∙ is.here in
    rw (← c.self.view_is)
    (room-others c.args.sid c.self.inside.flows c.place-place.result c.grant.new.self c.at_mut.result.now
    c.at_mut.ensures.value is same other differ)
