-- The entries so far are written, and their numbers fit.
use Rattle.std.proofs.Common.{◌≡◌, ◌++◌, ◌∷◌, [], take}
use Rattle.std.specs.Prelude.{flat_map}
use Rattle.std.specs.List.{AllByRecursion}
use Rattle.json.specs.Token.{Token}
use Rattle.history_writing.specs.Fits.{EntryFits}
use Rattle.history_writing.specs.HistoryText.{entry_data}
use Rattle.history_writing.specs.Tokens.{tokens_of}
use Rattle.history_writing.proofs.history.put_entries.Given as goal

abbrev pub invariant-loop-entry : goal.invariant-loop-entry
invariant-loop-entry l =
    (l.out.tokens ≡ (l.fn.out.tokens ++ Token.begin_array ∷ [])
    ++ flat_map (λ e. tokens_of (entry_data e)) (take l.entry-index l.entries))
    × (l.out.before ≡ l.fn.out.before)
    × AllByRecursion EntryFits (take l.entry-index l.entries)
