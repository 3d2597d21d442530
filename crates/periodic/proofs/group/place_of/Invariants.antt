-- No flow of the groups gone through has the SID.
use Rattle.std.proofs.Common.{◌≡◌, ◌==◌, false, take}
use Rattle.std.specs.List.{AllByRecursion}
use Rattle.periodic.specs.Groups.{flows_in}
use Rattle.periodic.proofs.group.place_of.Given as goal

abbrev pub invariant-loop-index : goal.invariant-loop-index
invariant-loop-index l = AllByRecursion (λ f. (f.sid == l.sid) ≡ false) (flows_in (take l.index l.groups))
