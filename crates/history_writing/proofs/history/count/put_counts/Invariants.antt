-- The numbers that are left come behind what is written.
use Rattle.std.proofs.Common.{◌≡◌, ◌++◌, drop}
use Rattle.history_writing.specs.Tokens.{counted}
use Rattle.history_writing.proofs.history.count.put_counts.Given as goal

abbrev pub invariant-loop-index : goal.invariant-loop-index
invariant-loop-index l =
    (l.out.tokens ++ counted (drop l.index l.keys) (drop l.index l.numbers)
    ≡ l.initial.out.tokens ++ counted l.keys l.numbers)
    × (l.out.before ≡ l.initial.out.before)
