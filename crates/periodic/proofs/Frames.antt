-- The spots of a frame: within it, and apart from one another.
use Rattle.std.proofs.Common.{◌≡◌, ap, ℕ, ◌+◌, ◌%◌, ◌<◌, ◌≤◌, List, [], ◌∷◌}
use Rattle.std.proofs.Common.{length, map, inl, inr, arith}
use Rattle.std.specs.List.{AllByRecursion, flat_map}
use Rattle.std.proofs.lemmas.Bool.{cases_eq, ne_eqb}
use Rattle.std.proofs.Math.Nat.{mod-mod}
use Rattle.minislots.specs.declared.config.Config.{Config}
use Rattle.minislots.specs.Config.{IsLawful}
use Rattle.minislots.proofs.Bounds.{bounds_of}
use Rattle.sched_calls.specs.FlowSpec.{interval_frames, jitter_slots, periodic_slots, grants_of}
use Rattle.periodic.specs.declared.placement.Spot.{Spot}
use Rattle.periodic.specs.Placement.{Placed, phase_of, offset_of, starts_in, spot_at, spots_of, spots_in}
use Rattle.periodic.specs.Placement.{due_starts, due_at, due_in}
use Rattle.periodic.specs.Placement.{IsLawfulStart, FollowFrom, HasLawfulStarts}
use Rattle.periodic.specs.Table.{IsSoundPlaced, IsWithinFrame, IsApart, AreApart}
use Rattle.periodic.proofs.Parameters.{places_of}
use Rattle.periodic.proofs.Joined.{all-append, all-weaker, all-map}

-- the start is lawful in a frame with these spots
abbrev pub IsStartIn : Config → Placed → List Spot → ℕ → Type 0
IsStartIn c f spots start =
    IsLawfulStart c (jitter_slots c f.spec) (periodic_slots c f.spec) (offset_of c f.placement) spots start

-- What a flow takes of a frame: lawful starts, one after the other
pub record AreStartsHere (c : Config) (f : Placed) (spots : List Spot) (starts : List ℕ) : Type 0 where
  pub each : AllByRecursion (IsStartIn c f spots) starts
  pub in_turn : FollowFrom (periodic_slots c f.spec) (offset_of c f.placement) starts
  pub most : length starts ≤ grants_of f.spec

-- the starts of a flow with lawful ones are so in each frame
pub starts-here : (c : Config) (place : ℕ) (f : Placed) (spots : ℕ → List Spot) → place < c.cycle
    → HasLawfulStarts c f.spec f.placement spots
    → AreStartsHere c f (spots place) (starts_in c f.spec f.placement place)
starts-here c place f spots within starts =
    elim (cases_eq (place % interval_frames c f.spec) (phase_of c f.spec f.placement)) [
      | inl nominal ↦ (
          let here = starts.each place within nominal in
          record { each = here.each; in_turn = here.in_turn; most = omega (arith, here.count) })
      | inr differ ↦ rw (ne_eqb (place % interval_frames c f.spec) (phase_of c f.spec f.placement) differ)
          (record { each = tt; in_turn = tt; most = omega arith })
    ]

-- the spot at a lawful start of a sound flow is within the frame
spot-within : (c : Config) (f : Placed) → IsLawful c → IsSoundPlaced c f → (start : ℕ) → IsStartIn c f [] start
    → IsWithinFrame c (spot_at c f start)
spot-within c f lawful sound start is =
    let places = places_of c f.spec lawful sound.periodic sound.no_fault in
    record {
      sid_positive = sound.sid_positive;
      sid_most = sound.sid_most;
      after_requests = omega (arith, sound.after_requests, is.after_nominal);
      not_empty = places.not_empty;
      within_frame = is.within_frame;
    }

-- the place of a frame is one of the cycle's
pub in-cycle : (c : Config) (k : ℕ) → IsLawful c → k % c.cycle < c.cycle
in-cycle c k lawful = let some : 0 < c.cycle = omega (arith, (bounds_of c lawful).cycle_positive) in omega arith

-- what a sound flow takes of a frame is within it
pub spots_of-within : (c : Config) (k : ℕ) (f : Placed) → IsLawful c → IsSoundPlaced c f
    → AllByRecursion (IsWithinFrame c) (spots_of c k f)
spots_of-within c k f lawful sound =
    let starts = starts_in c f.spec f.placement (k % c.cycle) in
    let here = starts-here c (k % c.cycle) f (λ place. []) (in-cycle c k lawful) sound.starts in
    all-map (IsWithinFrame c) (spot_at c f) starts
    (all-weaker (IsStartIn c f []) (λ start. IsWithinFrame c (spot_at c f start)) (spot-within c f lawful sound) starts
    here.each)

-- the spots of sound flows are within the frame
pub spots-within : (c : Config) (k : ℕ) (placed : List Placed) → IsLawful c → AllByRecursion (IsSoundPlaced c) placed
    → AllByRecursion (IsWithinFrame c) (spots_in c k placed)
spots-within c k [] lawful sound = tt
spots-within c k (f ∷ placed) lawful sound =
    all-append (IsWithinFrame c) (spots_of c k f) (spots_in c k placed) (spots_of-within c k f lawful sound.0)
    (spots-within c k placed lawful sound.1)

after-all : (slots from before : ℕ) (starts : List ℕ) → before ≤ from → FollowFrom slots from starts
    → AllByRecursion (λ start. before ≤ start) starts
after-all slots from before [] le turn = tt
after-all slots from before (s ∷ starts) le turn =
    (omega (arith, turn.0), after-all slots (s + slots) before starts (omega (arith, turn.0)) turn.1)

follow-apart : (c : Config) (f : Placed) (from : ℕ) (starts : List ℕ)
    → FollowFrom (periodic_slots c f.spec) from starts → AreApart (map (spot_at c f) starts)
follow-apart c f from [] turn = tt
follow-apart c f from (s ∷ starts) turn =
    let end = s + periodic_slots c f.spec in (
      all-map (IsApart (spot_at c f s)) (spot_at c f) starts
          (all-weaker (λ t. end ≤ t) (λ t. IsApart (spot_at c f s) (spot_at c f t)) (λ t le. inl le) starts
          (after-all (periodic_slots c f.spec) end end starts (omega arith) turn.1)),
      follow-apart c f end starts turn.1,
    )

-- the spots of a flow with lawful starts are apart
pub spots_of-apart : (c : Config) (k : ℕ) (f : Placed) (spots : ℕ → List Spot) → IsLawful c
    → HasLawfulStarts c f.spec f.placement spots → AreApart (spots_of c k f)
spots_of-apart c k f spots lawful starts =
    follow-apart c f (offset_of c f.placement) (starts_in c f.spec f.placement (k % c.cycle))
    (starts-here c (k % c.cycle) f spots (in-cycle c k lawful) starts).in_turn

-- in a frame a flow has the spots of the frame's place in the cycle
pub spots_of-place : (c : Config) (k : ℕ) (f : Placed) → spots_of c (k % c.cycle) f ≡ spots_of c k f
spots_of-place c k f = ap (λ n. map (spot_at c f) (starts_in c f.spec f.placement n)) (mod-mod k c.cycle)

-- a frame has the spots of its place in the cycle
pub spots_in-place : (c : Config) (k : ℕ) (placed : List Placed) → spots_in c (k % c.cycle) placed ≡ spots_in c k placed
spots_in-place c k placed =
    ap (λ n. flat_map (λ (f : Placed). map (spot_at c f) (starts_in c f.spec f.placement n)) placed) (mod-mod k c.cycle)

-- and of a frame they are to have the same
pub due_in-place : (c : Config) (k : ℕ) (placed : List Placed) → due_in c (k % c.cycle) placed ≡ due_in c k placed
due_in-place c k placed =
    ap (λ n. flat_map (λ (f : Placed). map (due_at c f) (due_starts c f n)) placed) (mod-mod k c.cycle)
