-- What the writing of a text does to a writer.
use Rattle.std.specs.Prelude.{◌≡◌, ℕ, Bool, true, List, Option, Result, MatchResult}
use Rattle.std.specs.Io.KnownBytes.{Appends, append_known}
use Rattle.text_stream.specs.declared.fault.TextFault.{TextFault}
use Rattle.text_stream.specs.declared.fault.TextFault.TheVariants.{Output}

-- what a writer holds grows by the text, and no write failed; or a write failed, and that is the fault
abbrev pub Writes : {W T : Type 0} → (W → Option (List ℕ)) → (W → Bool) → W → W → List ℕ → Result T TextFault → Type 0
Writes contents has_failed old new text result = MatchResult result
    (λ _. Appends (contents old) (contents new) text × (has_failed new ≡ has_failed old))
    (λ e. (e ≡ Output) × (has_failed new ≡ true))

-- the same of what the writer holds with what waits to be written behind that
abbrev pub Puts : {W T : Type 0} → (W → Option (List ℕ)) → (W → Bool) → W → W → List ℕ → List ℕ → List ℕ
    → Result T TextFault → Type 0
Puts contents has_failed old new waited waits text result = MatchResult result
    (λ _. Appends (append_known (contents old) waited) (append_known (contents new) waits) text
    × (has_failed new ≡ has_failed old))
    (λ e. (e ≡ Output) × (has_failed new ≡ true))
