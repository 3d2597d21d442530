-- The first of those gone through.
use Rattle.std.proofs.Common.{◌≡◌, map, take}
use Rattle.sched_report.specs.Delays.{least_of}
use Rattle.sched_report.proofs.service.first_of.Given as goal

abbrev pub invariant-loop-place : goal.invariant-loop-place
invariant-loop-place l = l.first ≡ least_of (map (λ w. w.heard) (take l.place l.waiting.items))
