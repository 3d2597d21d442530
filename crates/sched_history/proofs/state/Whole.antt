-- A scheduler that has handed nothing over keeps its whole history.
use Rattle.std.proofs.Common.{◌≡◌, ℕ, ◌<◌, ◌≤◌, ◌↔◌, true, false, nat_le, length, drop, Result, IsErrOf}
use Rattle.std.proofs.Common.{sym, ap, ◌∙◌, subst}
use Rattle.std.proofs.lemmas.Bool.Decides.{nat_tests}
use Rattle.std.proofs.Common.{arith}
use Rattle.sched_history.specs.Machine.{Machine, kept_of, is_full}
use Rattle.sched_history.proofs.state.Recording.{room-kept}

module _ (m : Machine) (none : m.handed ≡ 0) where
  -- what it keeps is its history
  pub kept-whole : kept_of m ≡ m.history
  kept-whole = ap (λ n. drop n m.history) none

  -- there is room where it has fewer entries than the configuration allows
  pub room-whole-history : is_full m ≡ false → length m.history < m.config.calls
  room-whole-history room = subst (λ h. length h < m.config.calls) kept-whole (room-kept m room)

is-most : (m n : ℕ) → nat_le m n ≡ true → m ≤ n
is-most m n e = grind (arith, nat_tests)

most-is : (m n : ℕ) → m ≤ n → nat_le m n ≡ true
most-is m n most = grind (arith, nat_tests)

-- and it is full where it has as many
pub full-whole-history : {T E : Type 0} (m : Machine) (answer : Result T E) (fault : E)
    → is_full m ≡ nat_le m.config.calls (length m.history) → (IsErrOf answer fault ↔ (is_full m ≡ true))
    → IsErrOf answer fault ↔ (m.config.calls ≤ length m.history)
full-whole-history m answer fault whole full = (
  (λ e. is-most m.config.calls (length m.history) (sym whole ∙ full.0 e)),
  (λ most. full.1 (whole ∙ most-is m.config.calls (length m.history) most)),
)
