-- The number of the flow takes the place of that before.
use Rattle.std.proofs.Common.{refl, length, map}
use Rattle.std.proofs.lemmas.Option.{slice_get_read}
use Rattle.flow_book.specs.Entry.{live}
use Rattle.flow_book.proofs.NumbersOf.{granted-within, differ-at}
use Rattle.flow_book.proofs.line.Line.follow_at.Goals as goal

pub number_where-after-requires-clause-within : goal.number_where-after-requires-clause-within
number_where-after-requires-clause-within c =
    granted-within c.requires.book.0 c.args.flows.now c.requires.book.1 c.args.place c.at.result.now c.requires.within
    c.at.ensures

pub returns-then-is_known : goal.returns-then-is_known
returns-then-is_known c = λ c' old book changed is.
    let flows = c.args.flows.now in
    let here = slice_get_read flows (length flows) c.args.place c.at.result.now refl c.requires.within c.at.ensures in
    c.follow.ensures (map live old) (map live flows)
    (λ known. rw c.number_where-after.ensures
    (differ-at c' old flows c.args.place _ c.args.before c.at.result.now book changed known here)) is
