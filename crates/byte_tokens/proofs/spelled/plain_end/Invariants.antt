-- The bytes so far stand for themselves.
use Rattle.std.proofs.Common.{◌≡◌, ◌-◌, ◌≤◌, length, take, drop}
use Rattle.json.specs.Print.{escape}
use Rattle.byte_tokens.proofs.spelled.plain_end.Given as goal

abbrev pub invariant-bytes : goal.invariant-bytes
invariant-bytes l = (l.from ≤ l.at) × (l.at ≤ length l.text)
    × (escape (take (l.at - l.from) (drop l.from l.text)) ≡ take (l.at - l.from) (drop l.from l.text))

abbrev pub decreases-bytes : goal.decreases-bytes
decreases-bytes l = length l.text - l.at
