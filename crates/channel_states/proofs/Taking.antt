-- What one flow takes of a frame of the cycle.
use Rattle.std.proofs.Common.{◌≡◌, ◌≢◌, refl, sym, ap, ◌∙◌, ℕ, ◌+◌, ◌*◌, ◌/◌, ◌%◌, ◌<◌, ◌≤◌, true, false, [], Some}
use Rattle.std.proofs.Common.{map, length}
use Rattle.std.proofs.Math.Nat.{mod-eq_of_lt}
use Rattle.std.proofs.lemmas.Bool.{ne_eqb}
use Rattle.std.proofs.lemmas.Option.{MatchOption-at_some}
use Rattle.minislots.specs.declared.config.Config.{Config}
use Rattle.minislots.specs.Config.{IsLawful}
use Rattle.sched_calls.specs.declared.state.FlowState.{FlowState}
use Rattle.sched_calls.specs.declared.state.PlaceState.{PlaceState}
use Rattle.sched_calls.specs.FlowSpec.{is_periodic, interval_frames, periodic_slots, grants_of}
use Rattle.periodic.specs.Placement.{phase_of, starts_in, spot_at, group_at}
use Rattle.periodic.proofs.Choosing.{starts-at}
use Rattle.periodic.proofs.Groups.{group-fits, index-within}
use Rattle.periodic.proofs.Parameters.{HasPlaces, places_of}
use Rattle.channel_states.specs.PossibleFlow.{IsPossiblePlace, IsPossibleFlow}
use Rattle.periodic.specs.Carried.{placement_of, placed_at}
use Rattle.channel_states.specs.Taken.{taken_by, spot_from}
use Rattle.channel_states.proofs.Places.{phase-is}

-- a possible flow is periodic where it has a place, which is possible
pub own-place : (c : Config) (entries next : ℕ) (f : FlowState) (at : PlaceState)
    → IsPossibleFlow c entries next f → f.place ≡ Some at
    → (is_periodic f.spec ≡ true) × IsPossiblePlace c f.spec at
own-place c entries next f at is here =
    MatchOption-at_some (is_periodic f.spec ≡ false)
    (λ (place : PlaceState). (is_periodic f.spec ≡ true) × IsPossiblePlace c f.spec place) at here is.place

module _ (c : Config) (entries next : ℕ) (f : FlowState) (at : PlaceState) (lawful : IsLawful c)
    (is : IsPossibleFlow c entries next f) (here : f.place ≡ Some at) where
  -- what is known of its parameters
  pub own-parts : HasPlaces c f.spec
  own-parts = places_of c f.spec lawful (own-place c entries next f at is here).0 is.parameters

  module _ (place : ℕ) (within : place < c.cycle) where
    taken : taken_by c place f ≡ map (spot_at c (placed_at c f at)) (starts_in c f.spec (placement_of c at) place)
    taken =
        rw here
        (ap (λ k. map (spot_at c (placed_at c f at)) (starts_in c f.spec (placement_of c at) k)) (mod-eq_of_lt within))

    -- it takes nothing of a frame that is none of its phase
    pub takes-nothing : place % interval_frames c f.spec ≢ at.phase → taken_by c place f ≡ []
    takes-nothing other =
        let own = (own-place c entries next f at is here).1 in
        let phase = phase-is c at own.within_frame f.spec own.phase in
        let differ : place % interval_frames c f.spec ≢ phase_of c f.spec (placement_of c at) =
        λ e. other (e ∙ phase) in
        taken ∙ rw (ne_eqb (place % interval_frames c f.spec) (phase_of c f.spec (placement_of c at)) differ) refl

    -- the starts of a frame of its phase are a group of its starts
    pub group-within : place / interval_frames c f.spec * grants_of f.spec + grants_of f.spec ≤ length at.starts
    group-within =
        let own = (own-place c entries next f at is here).1 in
        let frames = interval_frames c f.spec in
        let index = index-within frames 0 own-parts.interval_positive c.cycle place own-parts.divides within in
        rw own.starts.count (group-fits (grants_of f.spec) (place / frames) (c.cycle / frames) index)

    -- and it takes those spots of it that begin there
    pub takes-group : place % interval_frames c f.spec ≡ at.phase → taken_by c place f
        ≡ map (spot_from f (periodic_slots c f.spec))
        (group_at (grants_of f.spec) (place / interval_frames c f.spec) at.starts)
    takes-group same =
        let own = (own-place c entries next f at is here).1 in
        let phase = phase-is c at own.within_frame f.spec own.phase in
        taken ∙ ap (map (spot_at c (placed_at c f at)))
        (starts-at c f.spec (placement_of c at) place (same ∙ sym phase))
