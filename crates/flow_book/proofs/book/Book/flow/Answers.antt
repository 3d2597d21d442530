-- The flow at the place of the SID is the live flow, if it has a place.
use Rattle.std.proofs.Common.{◌≡◌, ◌∙◌, sym, refl, map, position, Some, None, ◌==◌}
use Rattle.flow_book.specs.Entry.{live}
use Rattle.flow_book.proofs.Places.{position-map, found-none, placed}
use Rattle.flow_book.proofs.book.Book.flow.Goals as goal

pub returns-in-Some : goal.returns-in-Some
returns-in-Some c =
    let items = c.self.inside.flows in
    let is : Some c.in-Some.place ≡ position (λ f. f.sid == c.args.sid) items =
    c.in-Some.ensures in
    let stands = position-map live (λ f. f.sid == c.args.sid) items ∙ sym is in
    let at = placed c.args.sid items c.in-Some.place c.at.result.now stands c.at.ensures in
    rw (← c.self.view_is, at.found) refl

pub returns-in-None : goal.returns-in-None
returns-in-None c =
    let items = c.self.inside.flows in
    let is : None ≡ position (λ f. f.sid == c.args.sid) items = c.in-None.ensures in
    let none = position-map live (λ f. f.sid == c.args.sid) items ∙ sym is in
    rw (← c.self.view_is, found-none (λ f. f.sid == c.args.sid) (map live items) _ refl none) refl

pub place_of-requires : goal.place_of-requires
place_of-requires c = c.self.invariant.book.sound.ascending
