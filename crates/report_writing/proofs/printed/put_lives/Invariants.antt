-- The lives so far are written.
use Rattle.std.proofs.Common.{◌≡◌, ◌++◌, ◌∷◌, [], take}
use Rattle.std.specs.Prelude.{flat_map}
use Rattle.json.specs.Token.{Token}
use Rattle.history_writing.specs.Tokens.{tokens_of}
use Rattle.report_writing.specs.Report.{life_data}
use Rattle.report_writing.proofs.printed.put_lives.Given as goal

abbrev pub invariant-loop-life : goal.invariant-loop-life
invariant-loop-life l =
    (l.out.tokens ≡ (l.fn.out.tokens ++ Token.begin_array ∷ [])
    ++ flat_map (λ n. tokens_of (life_data l.replaced n)) (take l.life-index l.lives))
    × (l.out.before ≡ l.fn.out.before)
