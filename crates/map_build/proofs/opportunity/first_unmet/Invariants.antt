-- None of the places before this one has an opportunity that is not met and fits.
use Rattle.std.proofs.Common.{ℕ, ◌<◌}
use Rattle.map_build.specs.Opportunities.{IsUnmet}
use Rattle.map_build.proofs.opportunity.first_unmet.Given as goal

abbrev pub invariant-loop-place : goal.invariant-loop-place
invariant-loop-place l = (other : ℕ) → other < l.place → IsUnmet l.waiting l.met l.room other → ⊥
