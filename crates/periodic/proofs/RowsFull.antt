-- A worked example of a frame with as many starts as a frame may have.
use Rattle.std.proofs.Common.{◌≡◌, sym, ℕ, ◌+◌, ◌≤◌, false, List, [], ◌∷◌, length, refl, lit<, arith}
use Rattle.sched_calls.specs.declared.spec.FlowSpec.TheVariants.{Unsolicited}
use Rattle.sched_calls.proofs.Base.{base}
use Rattle.sched_calls.specs.declared.placement.Placement.{Placement}
use Rattle.periodic.specs.Placement.{Placed, phase_of, starts_in, spots_in, IsPlacement}
use Rattle.periodic.proofs.RowsPlacement.{voice, placement}

-- a flow with eight grants in each tenth frame
abbrev pub eight : ℕ → Placed
eight sid = record {
  sid = sid;
  spec = Unsolicited 200 10000 800 8;
  placement =
      placement 804 (4 ∷ 5 ∷ 6 ∷ 7 ∷ 8 ∷ 9 ∷ 10 ∷ 11 ∷ 4 ∷ 5 ∷ 6 ∷ 7 ∷ 8 ∷ 9 ∷ 10 ∷ 11 ∷ []);
  rests = false;
}

-- five of them have forty starts in the first frame, and as many in the eleventh
abbrev pub five : List Placed
five = eight 1 ∷ eight 2 ∷ eight 3 ∷ eight 4 ∷ eight 5 ∷ []

-- beside these no other flow has a start there
pub a_frame_of_forty_starts_takes_no_other : (p : Placement) → IsPlacement base five voice 800 p
    → phase_of base voice p ≡ 0 → ⊥
a_frame_of_forty_starts_takes_no_other p is first =
    let few : 40 + length (starts_in base voice p 0) ≤ 40 = is.few 0 (lit< tt) in
    let own = (is.starts.each 0 (lit< tt) (sym first)).count in
    omega (arith, few, own)

-- in the next frame they have none
pub the_next_frame_is_free : spots_in base 21 five ≡ []
the_next_frame_is_free = refl
