-- Writing bad lines one after the other.
use Rattle.std.proofs.Common.{◌≡◌, ◌++◌, take, flat_map}
use Rattle.check_lines.specs.Objects.{finding_object}
use Rattle.check_lines.proofs.objects.put_each.Given as goal

-- the objects so far are written
abbrev pub invariant-loop-line : goal.invariant-loop-line
invariant-loop-line l =
    (l.out.tokens ≡ l.initial.out.tokens ++ flat_map finding_object (take l.line-index l.told))
    × (l.out.before ≡ l.initial.out.before)
