-- The members that are left come behind what is written.
use Rattle.std.proofs.Common.{◌≡◌, ◌++◌, ◌∷◌, [], drop}
use Rattle.json.specs.Token.{Token}
use Rattle.report_writing.specs.Cells.{members_with, tokens_to_end}
use Rattle.report_writing.proofs.cell.put_object.Given as goal

abbrev pub invariant-loop-index : goal.invariant-loop-index
invariant-loop-index l =
    (l.out.tokens ++ tokens_to_end (members_with (drop l.index l.keys) (drop l.index l.cells))
    ≡ (l.fn.out.tokens ++ Token.begin_object ∷ []) ++ tokens_to_end (members_with l.keys l.cells))
    × (l.out.before ≡ l.fn.out.before)
