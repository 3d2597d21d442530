-- The first bytes that a reader has, which are looked at before they are read.
use Rattle.std.specs.Prelude.{◌≡◌, ◌⊎◌, ℕ, ◌≤◌, Bool, if◌then◌else◌, List, [], length, take, drop}
use Rattle.std.specs.Prelude.{Option, None, Some}
use Rattle.std.specs.Io.KnownBytes.{IsAtEnd, prepend_known}
use Rattle.check_lines.specs.declared.front.TheConstants.{FRONT}
use Rattle.check_lines.specs.declared.front.Front.{Front}

-- the bytes that were looked at and are not given yet
abbrev pub at_hand : {R : Type 0} → Front R → List ℕ
at_hand f = drop f.given f.bytes.items

-- what is to be read behind them: what the reader will give, and nothing where it has told its end
abbrev pub behind_of : {R : Type 0} → (R → Option (List ℕ)) → Front R → Option (List ℕ)
behind_of remaining f = if f.has_ended then Some [] else remaining f.reader

-- what is to be read: the bytes at hand, and behind them those that follow
abbrev pub unread_of : {R : Type 0} → (R → Option (List ℕ)) → Front R → Option (List ℕ)
unread_of remaining f = prepend_known (at_hand f) (behind_of remaining f)

-- whether a read of the reader has failed
abbrev pub failed_of : {R : Type 0} → (R → Bool) → Front R → Bool
failed_of has_failed f = has_failed f.reader

-- as many bytes as are looked at are at hand, or nothing is behind them
abbrev pub IsLookedAt : {R : Type 0} → (R → Option (List ℕ)) → Front R → Type 0
IsLookedAt remaining f = (FRONT ≤ length (at_hand f)) ⊎ IsAtEnd (behind_of remaining f)

-- these are the first bytes of what is to be read: so many, or all where there are fewer
abbrev pub IsFront : Option (List ℕ) → List ℕ → Type 0
IsFront None front = Unit {0}
IsFront (Some text) front = front ≡ take FRONT text
