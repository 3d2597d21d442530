-- The members that are left come behind what is written.
use Rattle.std.proofs.Common.{◌≡◌, ◌++◌, ◌∷◌, [], drop}
use Rattle.json.specs.Token.{Token}
use Rattle.report_writing.specs.Cells.{tokens_to_end}
use Rattle.report_writing.specs.Report.{refused_members, by_text}
use Rattle.report_writing.proofs.members.put_refused.Given as goal

abbrev pub invariant-loop-index : goal.invariant-loop-index
invariant-loop-index l =
    (l.out.tokens ++ tokens_to_end (refused_members (drop l.index by_text) l.refused)
    ≡ (l.fn.out.tokens ++ Token.begin_object ∷ []) ++ tokens_to_end (refused_members by_text l.refused))
    × (l.out.before ≡ l.fn.out.before)
