-- The bytes that are kept of an input.
use Rattle.std.specs.Prelude.{◌≡◌, ◌⊎◌, ◌-◌, ◌++◌, ℕ, List, [], take, length}
use Rattle.command_line.specs.declared.input.CommandInput.{CommandInput}

-- what is kept
abbrev pub kept_of : {R : Type 0} → CommandInput R → List ℕ
kept_of input = input.kept.items

-- the most that is kept
abbrev pub most_of : {R : Type 0} → CommandInput R → ℕ
most_of input = input.most

-- the reader
abbrev pub reader_of : {R : Type 0} → CommandInput R → R
reader_of input = input.reader

-- bytes that were read are kept behind the others, so many in all at most; or nothing is kept any more
abbrev pub KeepsFront : ℕ → ℕ → List ℕ → List ℕ → List ℕ → Type 0
KeepsFront most most_after old new read =
    ((most_after ≡ most) × (new ≡ old ++ take (most - length old) read)) ⊎ ((most_after ≡ 0) × (new ≡ []))
