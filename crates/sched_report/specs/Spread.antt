-- How some numbers are spread: the value that so many in a hundred of them do not exceed.
use Rattle.std.specs.Prelude.{◌≡◌, ℕ, zero, suc, ◌+◌, ◌*◌, ◌≤◌, nat_le, Bool, List, length, count_by}
use Rattle.std.specs.Prelude.{Option, None, Some, option_map, if◌then◌else◌}
use Rattle.sched_report.specs.declared.spread.TheConstants.{EXACT}
use Rattle.sched_report.specs.Delays.{greatest_of}

-- how many of them do not exceed a value
abbrev pub count_upto : ℕ → List ℕ → ℕ
count_upto n ns = count_by (λ m. nat_le m n) ns

-- whether at least so many in a hundred of them do not exceed it
abbrev pub is_enough : ℕ → List ℕ → ℕ → Bool
is_enough percent ns n = nat_le (percent * length ns) (100 * count_upto n ns)

-- the first of a number and of so many next ones that passes a test, or the last of them
abbrev pub first_from : (ℕ → Bool) → ℕ → ℕ → ℕ
first_from passes n zero = n
first_from passes n (suc more) = if passes n then n else first_from passes (n + 1) more

-- the least value that at least so many in a hundred of them do not exceed, where there are any: since none exceeds the
-- greatest, it is no greater
abbrev pub percentile_of : ℕ → List ℕ → Option ℕ
percentile_of percent ns = option_map (first_from (is_enough percent ns) 0) (greatest_of ns)

-- What is told of a value: up to 65536 the value, and above that at most one part in a hundred too much
pub record IsNear (exact told : ℕ) : Type 0 where
  pub least : exact ≤ told
  pub most : 100 * told ≤ 101 * exact
  pub same : exact ≤ EXACT → told ≡ exact

-- what is told of a value, where there is one
abbrev pub AreNear : Option ℕ → Option ℕ → Type 0
AreNear (Some exact) (Some told) = IsNear exact told
AreNear None None = Unit {0}
AreNear exact told = ⊥

-- what is told of the value that so many in a hundred do not exceed
abbrev pub TellsPercentile : ℕ → List ℕ → Option ℕ → Type 0
TellsPercentile percent ns told = AreNear (percentile_of percent ns) told
