-- What is kept of how some numbers are spread.
use Rattle.std.specs.Prelude.{ℕ, ◌+◌, ◌*◌, ◌<◌, ◌≤◌, ◌⊎◌, nat_le, List, sum_by, if◌then◌else◌}
use Rattle.sched_report.specs.declared.spread.Step.{Step}
use Rattle.sched_report.specs.declared.spread.TheConstants.{EXACT}
use Rattle.sched_report.specs.Spread.{count_upto}

-- how many numbers some steps count up to a value
abbrev pub upto : ℕ → List Step → ℕ
upto n steps = sum_by (λ s. if nat_le s.value n then s.count else 0) steps

-- So many of the numbers are counted up to a value, where each is counted at what is told of it
pub record CountsUpto (n counted : ℕ) (ns : List ℕ) : Type 0 where
  pub within : counted ≤ count_upto n ns
  pub near : (m : ℕ) → 101 * m < 100 * (n + 1) → count_upto m ns ≤ counted
  pub exact : (m : ℕ) → m ≤ EXACT → m ≤ n → count_upto m ns ≤ counted

-- the steps count these numbers
abbrev pub AreStepsOf : List Step → List ℕ → Type 0
AreStepsOf steps ns = (n : ℕ) → CountsUpto n (upto n steps) ns

-- a number is below a value, also where one part in a hundred more is told of it
abbrev pub IsBelow : ℕ → ℕ → Type 0
IsBelow m n = (101 * m < 100 * n) ⊎ ((m < n) × (m ≤ EXACT))
