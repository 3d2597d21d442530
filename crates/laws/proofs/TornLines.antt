-- No newline is in a torn line, of which only the front was written.
use Rattle.std.proofs.Common.{ℕ, zero, suc, List, [], ◌∷◌, take, sym, subst}
use Rattle.std.specs.List.{AllByRecursion}
use Rattle.serde_json.specs.Written.{compact_text}
use Rattle.text_stream.specs.Lines.{IsWithinLine}
use Rattle.journal_file.specs.Standing.{IsPartOfLine}
use Rattle.segment_line.proofs.NoNewline.{compact_within}

-- what holds of all holds of the first
pub all-take : {X : Type 0} (P : X → Type 0) (n : ℕ) (xs : List X) → AllByRecursion P xs → AllByRecursion P (take n xs)
all-take P zero xs all = tt
all-take P (suc n) [] all = tt
all-take P (suc n) (x ∷ xs) all = (all.0, all-take P n xs all.1)

-- no newline is in it
pub torn_within : (text : List ℕ) → IsPartOfLine text → IsWithinLine text
torn_within text part = subst IsWithinLine (sym part.part)
    (all-take _ part.count (compact_text part.value) (compact_within part.value))
