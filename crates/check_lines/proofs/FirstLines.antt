-- The first lines that are not blank.
use Rattle.std.proofs.Common.{◌≡◌, ℕ, true, false, List, ◌∷◌, refl}
use Rattle.live_command.specs.Spoken.{is_spoken, spoken}

-- a line that is not blank is the first
pub spoken-line : (line : List ℕ) (lines : List (List ℕ)) → is_spoken line ≡ true
    → spoken (line ∷ lines) ≡ line ∷ spoken lines
spoken-line line lines is = rw is refl

-- a blank one is passed
pub spoken-blank : (line : List ℕ) (lines : List (List ℕ)) → is_spoken line ≡ false
    → spoken (line ∷ lines) ≡ spoken lines
spoken-blank line lines is = rw is refl
