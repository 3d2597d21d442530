-- No start before this one is free, and this one is.
use Rattle.std.proofs.Common.{◌≡◌, ℕ, ◌-◌, ◌<◌, ◌≤◌}
use Rattle.periodic.specs.Bits.{bit_of}
use Rattle.periodic.specs.Search.{IsFreeStart}
use Rattle.periodic.proofs.search.next_start.Given as goal

abbrev pub invariant-starts : goal.invariant-starts
invariant-starts l = record {
  after : l.from ≤ l.start;
  most : l.start ≤ 1024;
  clear : l.start < 1024 → bit_of l.bits.words l.start ≡ 0;
  blocked : (before : ℕ) → before < l.start → IsFreeStart l.bits.words l.frame l.slots l.from before → ⊥;
}

abbrev pub decreases-starts : goal.decreases-starts
decreases-starts l = 1024 - l.start
