-- What the sending of answers does to a writer.
use Rattle.std.specs.Prelude.{◌≡◌, ◌⊎◌, ℕ, Bool, true, List, take, Option, Result, MatchResult}
use Rattle.std.specs.Io.KnownBytes.{Appends}
use Rattle.text_stream.specs.declared.fault.TextFault.{TextFault}
use Rattle.text_stream.specs.declared.fault.TextFault.TheVariants.{Memory, Output}

-- what a writer holds grows by the first bytes of a text
abbrev pub AppendsInPart : Option (List ℕ) → Option (List ℕ) → List ℕ → Type 0
AppendsInPart old new text = (n : ℕ) × Appends old new (take n text)

-- what a writer holds grows by the text, and no write failed; or by the first bytes of it, and then a write failed
abbrev pub WritesFront : {W T : Type 0} → (W → Option (List ℕ)) → (W → Bool) → W → W → List ℕ → Result T TextFault
    → Type 0
WritesFront contents has_failed old new text result = MatchResult result
    (λ _. Appends (contents old) (contents new) text × (has_failed new ≡ has_failed old))
    (λ e. (e ≡ Output) × (has_failed new ≡ true) × AppendsInPart (contents old) (contents new) text)

-- or else memory ran out, and nothing was written
abbrev pub Sends : {W T : Type 0} → (W → Option (List ℕ)) → (W → Bool) → W → W → List ℕ → Result T TextFault → Type 0
Sends contents has_failed old new text result = MatchResult result
    (λ _. Appends (contents old) (contents new) text × (has_failed new ≡ has_failed old))
    (λ e. ((e ≡ Output) × (has_failed new ≡ true) × AppendsInPart (contents old) (contents new) text)
    ⊎ ((e ≡ Memory) × (new ≡ old)))
