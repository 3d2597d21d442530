-- A worked example of a flow without a place.
use Rattle.std.proofs.Common.{◌≡◌, ℕ, ◌≤◌, ◌%◌, ◌/◌, false, List, [], ◌∷◌, inl, inr, lit<, arith}
use Rattle.sched_calls.specs.declared.spec.FlowSpec.{FlowSpec}
use Rattle.sched_calls.specs.declared.spec.FlowSpec.TheVariants.{Unsolicited}
use Rattle.sched_calls.proofs.Base.{base}
use Rattle.periodic.specs.Placement.{Placed, starts_in, AreLawfulStarts, spots_in, NoPlacement}

-- grants that fill each frame behind its request region
abbrev pub full : FlowSpec
full = Unsolicited 544 1000 0 1

-- a flow with these grants, placed
abbrev pub full_placed : Placed
full_placed = record {
  sid = 5;
  spec = full;
  placement = record {
    reference = 804;
    starts = 4 ∷ 4 ∷ 4 ∷ 4 ∷ 4 ∷ 4 ∷ 4 ∷ 4 ∷ 4 ∷ 4 ∷ 4 ∷ 4 ∷ 4 ∷ 4 ∷ 4 ∷ 4 ∷ 4 ∷ 4 ∷ 4 ∷ 4 ∷ [];
  };
  rests = false;
}

-- grants of one minislot of bytes in each frame
abbrev pub slight : FlowSpec
slight = Unsolicited 1 1000 1000 1

-- no start in the first frame is free
no_start : (offset : ℕ) (starts : List ℕ) → 4 ≤ offset
    → AreLawfulStarts base slight offset (spots_in base 0 (full_placed ∷ [])) starts → ⊥
no_start offset [] behind are = absurd (omega (arith, are.count))
no_start offset (start ∷ starts) behind are =
    let after : offset ≤ start = are.each.0.after_nominal in
    elim are.each.0.free.0 [
      | inl before ↦ omega arith
      | inr later ↦ (let within = are.each.0.within_frame in omega arith)
    ]

-- beside a flow that fills each frame no other has a place
pub beside_full_frames_there_is_no_place : NoPlacement base (full_placed ∷ []) slight 800
beside_full_frames_there_is_no_place p placed =
    let phase : 0 ≡ p.reference / 40 % 1 = omega arith in
    no_start (p.reference % 40) (starts_in base slight p 0) placed.after_requests (placed.starts.each 0 (lit< tt) phase)
