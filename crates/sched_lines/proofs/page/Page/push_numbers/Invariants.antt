-- Putting numbers one after the other.
use Rattle.std.proofs.Common.{◌≡◌, ◌+◌, ◌*◌, ◌≤◌, ◌++◌, length, take}
use Rattle.sched_lines.specs.Line.{numbers_text}
use Rattle.sched_lines.proofs.page.Page.push_numbers.Given as goal

-- the numbers so far are put, each in 21 bytes at most
abbrev pub invariant-loop-number : goal.invariant-loop-number
invariant-loop-number l = (l.self ≡ l.fn.self ++ numbers_text (take l.number-index l.numbers))
    × (length l.self ≤ length l.fn.self + 21 * l.number-index)
