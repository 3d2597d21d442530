-- A live flow has a place, the same in the list of fields.
use Rattle.std.proofs.Common.{◌≡◌, ◌∙◌, sym, map, position, Some, None, ◌==◌}
use Rattle.flow_book.specs.Entry.{live}
use Rattle.flow_book.proofs.Places.{position-map, found-place}
use Rattle.flow_book.proofs.book.place_of.Goals as goal

pub unreachable-requires : goal.unreachable-requires
unreachable-requires c =
    let items = c.args.flows.now in
    let is : None ≡ position (λ f. f.sid == c.args.sid) items = c.in-None.ensures in
    let stands = found-place (λ f. f.sid == c.args.sid) (map live items) c.requires.live in
    let same = position-map live (λ f. f.sid == c.args.sid) items in
    cc

pub returns : goal.returns
returns c =
    let is : Some c.in-Some.place ≡ position (λ f. f.sid == c.args.sid) c.args.flows.now = c.in-Some.ensures in
    position-map live (λ f. f.sid == c.args.sid) c.args.flows.now ∙ sym is
