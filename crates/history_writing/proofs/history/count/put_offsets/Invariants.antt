-- The numbers so far are written.
use Rattle.std.proofs.Common.{◌≡◌, ◌++◌, ◌∷◌, [], take}
use Rattle.std.specs.Prelude.{flat_map}
use Rattle.json.specs.Token.{Token}
use Rattle.history_writing.specs.Json.{count}
use Rattle.history_writing.specs.Tokens.{tokens_of}
use Rattle.history_writing.proofs.history.count.put_offsets.Given as goal

abbrev pub invariant-loop-offset : goal.invariant-loop-offset
invariant-loop-offset l =
    (l.out.tokens ≡ (l.fn.out.tokens ++ Token.key l.name ∷ Token.begin_array ∷ [])
    ++ flat_map (λ n. tokens_of (count n)) (take l.offset-index l.offsets))
    × (l.out.before ≡ l.fn.out.before)
