-- What is done to a file that grows by lines.
use Rattle.std.specs.Prelude.{◌≡◌, ◌⊎◌, ℕ, ◌==◌, if◌then◌else◌, Bool, true, List, take, Option, Result, MatchResult}
use Rattle.std.specs.Io.KnownBytes.{append_known}
use Rattle.journal_file.specs.declared.line_file.LineFile.{LineFile}
use Rattle.journal_file.specs.declared.place.Place.TheVariants.{Whole, Failed}
use Rattle.journal_file.specs.Store.{cut_known}

-- the bytes are behind those that there were, or the first ones of them
abbrev pub AppendsFront : {T E : Type 0} → Option (List ℕ) → Option (List ℕ) → List ℕ → Result T E → Type 0
AppendsFront old new bytes result =
    MatchResult result (λ _. new ≡ append_known old bytes) (λ _. (n : ℕ) × new ≡ append_known old (take n bytes))

-- known bytes without so many torn ones, which begin here
abbrev pub cut_torn : Option (List ℕ) → ℕ → ℕ → Option (List ℕ)
cut_torn known end torn = if torn == 0 then known else cut_known known end

-- on success the torn bytes were cut off the end of the file; on failure they were, or the file is unchanged
abbrev pub CutsOrKeeps : {T E : Type 0} → Option (List ℕ) → Option (List ℕ) → ℕ → ℕ → Result T E → Type 0
CutsOrKeeps old new end torn result = MatchResult result (λ _. new ≡ cut_torn old end torn)
    (λ _. (new ≡ cut_torn old end torn) ⊎ (new ≡ old))

module _ {S : Type 0} where
  -- a change went well: the file ends with whole lines, which have reached the device where that is asked for
  pub record IsWhole (contents reached : S → Option (List ℕ)) (old new : LineFile S) : Type 0 where
    pub place : new.place ≡ Whole
    pub asked : new.is_synced ≡ old.is_synced
    pub misread : new.misread ≡ old.misread
    pub synced : old.is_synced ≡ true → reached new.store ≡ contents new.store

  -- or a call failed, and that is known from then on
  pub record IsBroken (failing : S → Bool) (old new : LineFile S) : Type 0 where
    pub place : new.place ≡ Failed
    pub asked : new.is_synced ≡ old.is_synced
    pub misread : new.misread ≡ old.misread
    pub failed : failing new.store ≡ true
