-- Each flow has the room.
use Rattle.std.proofs.Common.{◌≡◌, ◌∙◌, sym, true≢false, List, map}
use Rattle.std.specs.List.{AllByRecursion}
use Rattle.minislots.specs.declared.config.Config.{Config}
use Rattle.flow_book.specs.declared.flow.Flow.{Flow}
use Rattle.flow_book.specs.Entry.{live, IsBook, KeepsSums}
use Rattle.flow_book.proofs.Rooms.{room-live}
use Rattle.flow_book.proofs.Shifts.{same-queue}
use Rattle.flow_book.proofs.book.Book.reserve.Goals as goal

-- flows that are the same and keep their sums are a book's as before
book : (c : Config) (old new : List Flow) → map live new ≡ map live old
    → ((d : Config) → AllByRecursion (KeepsSums d) old → AllByRecursion (KeepsSums d) new) → IsBook c old → IsBook c new
book c old new same sums is = record { sound = rw same is.sound; sums = sums c is.sums }

pub queue_of-requires : goal.queue_of-requires
queue_of-requires c = (
  c.self.inside.channel,
  book c.self.inside.channel c.self.inside.flows c.reserve_each.new.flows c.reserve_each.ensures.same
      c.reserve_each.ensures.sums c.self.invariant.book,
)

pub invariant_of-self-else-not-self : goal.invariant_of-self-else-not-self
invariant_of-self-else-not-self c = record {
  book = book c.self.inside.channel c.self.inside.flows c.reserve_each.new.flows c.reserve_each.ensures.same
      c.reserve_each.ensures.sums c.self.invariant.book;
  order = λ known. same-queue c.self.inside.flows c.reserve_each.new.flows c.reserve_each.ensures.same
      c.reserve_each.ensures.entries c.self.inside.queue (c.self.invariant.order known);
  lined = rw c.reserve_each.ensures.same c.self.invariant.lined;
}

pub invariant_of-self-then-not-self : goal.invariant_of-self-then-not-self
invariant_of-self-then-not-self c = record {
  book = book c.self.inside.channel c.self.inside.flows c.reserve_each.new.flows c.reserve_each.ensures.same
      c.reserve_each.ensures.sums c.self.invariant.book;
  order = λ known. c.in_ok-self-inside.ensures;
  lined = rw c.reserve_each.ensures.same c.self.invariant.lined;
}

pub invariant_of-self : goal.invariant_of-self
invariant_of-self c = record {
  book = book c.self.inside.channel c.self.inside.flows c.reserve_each.new.flows c.reserve_each.ensures.same
      c.reserve_each.ensures.sums c.self.invariant.book;
  order = λ known. absurd (true≢false (sym known ∙ c.if-not-self.true));
  lined = rw c.reserve_each.ensures.same c.self.invariant.lined;
}

pub returns-in_ok-self-inside-clause-room : goal.returns-in_ok-self-inside-clause-room
returns-in_ok-self-inside-clause-room c =
    room-live c.reserve_each.new.flows c.args.grants c.reserve_each.ensures.room

pub returns-else-not-self-clause-room : goal.returns-else-not-self-clause-room
returns-else-not-self-clause-room c =
    room-live c.reserve_each.new.flows c.args.grants c.reserve_each.ensures.room
