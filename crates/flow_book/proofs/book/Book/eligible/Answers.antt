-- The flow is the one of its SID.
use Rattle.std.proofs.Common.{◌≡◌, map, Some}
use Rattle.flow_book.specs.Choice.{IsNext}
use Rattle.flow_book.specs.Entry.{live}
use Rattle.flow_book.specs.Flows.{flow_of}
use Rattle.flow_book.proofs.Places.{flow_of-member}
use Rattle.flow_book.proofs.book.Book.eligible.Goals as goal

pub returns-in-Some : goal.returns-in-Some
returns-in-Some c =
    let f = live c.in-Some.flow.now in
    let flows = map live c.self.inside.flows in
    let next : IsNext c.self.inside.channel flows c.args.start c.args.room f = rw c.config.ensures at c.in-Some.ensures in
    let here : flow_of f.sid flows ≡ Some f =
    flow_of-member flows f c.self.invariant.book.sound.ascending next.live in
    rw (← c.self.view_is) (rw here next)
