-- The flow at its place is one of the book's.
use Rattle.std.proofs.Common.{◌≡◌, ◌∙◌, refl, sym, ap, length}
use Rattle.std.proofs.lemmas.Option.{slice_get_read, same_Some}
use Rattle.flow_book.specs.declared.flow.Flow.{Flow}
use Rattle.flow_book.specs.Entry.{live}
use Rattle.flow_book.specs.Numbers.{number_where}
use Rattle.flow_book.proofs.NumbersOf.{granted-within}
use Rattle.flow_book.proofs.line.Line.number_at.Goals as goal

pub number_where-requires-clause-within : goal.number_where-requires-clause-within
number_where-requires-clause-within c =
    granted-within c.requires.book.0 c.args.flows.now c.requires.book.1 c.args.place c.at.result.now c.requires.within
    c.at.ensures

pub returns : goal.returns
returns c = λ known f at.
    let flows = c.args.flows.now in
    let here = slice_get_read flows (length flows) c.args.place c.at.result.now refl c.requires.within c.at.ensures in
    let is : c.at.result.now ≡ f = same_Some _ _ (sym here ∙ at) in
    c.number_where.ensures ∙ ap (λ (g : Flow). number_where (live g)) is
