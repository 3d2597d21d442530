-- The ranks so far are written.
use Rattle.std.proofs.Common.{◌≡◌, ◌++◌, ◌∷◌, [], take}
use Rattle.std.specs.Prelude.{flat_map}
use Rattle.json.specs.Token.{Token}
use Rattle.history_writing.specs.Tokens.{tokens_of}
use Rattle.report_writing.specs.Report.{rank_data}
use Rattle.report_writing.proofs.printed.put_ranks.Given as goal

abbrev pub invariant-loop-told : goal.invariant-loop-told
invariant-loop-told l =
    (l.out.tokens ≡ (l.fn.out.tokens ++ Token.begin_array ∷ [])
    ++ flat_map (λ n. tokens_of (rank_data l.replaced n)) (take l.told-index l.ranks))
    × (l.out.before ≡ l.fn.out.before)
