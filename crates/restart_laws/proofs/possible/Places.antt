-- The place of a flow in a sound table is one that it may have.
use Rattle.std.proofs.Common.{◌≡◌, refl, sym, ap, ◌∙◌, subst, ℕ, ◌/◌, ◌%◌, ◌<◌, ◌≤◌, ◌==◌, Bool, true, false, List}
use Rattle.std.proofs.Common.{[], length, ◌*◌, map, Some, arith}
use Rattle.std.proofs.Math.Nat.{mod-lt}
use Rattle.minislots.specs.declared.config.Config.{Config}
use Rattle.minislots.specs.Config.{IsLawful}
use Rattle.minislots.proofs.Bounds.{bounds_of}
use Rattle.sched_calls.specs.declared.state.FlowState.{FlowState}
use Rattle.sched_calls.specs.FlowSpec.{is_periodic, takes_requests, interval_frames, periodic_slots, grants_of}
use Rattle.flow_book.specs.Book.{Ascend}
use Rattle.flow_book.specs.Flows.{LiveFlow, flow_of}
use Rattle.flow_book.proofs.Places.{all-found}
use Rattle.periodic.specs.Placement.{Placed, offset_of, starts_in, AreLawfulStarts, HasLawfulStarts}
use Rattle.periodic.specs.Carried.{placed_at, placed_in}
use Rattle.periodic.specs.PlaceState.{place_state}
use Rattle.periodic.specs.Table.{IsSoundPlaced}
use Rattle.periodic.proofs.Parameters.{places_of}
use Rattle.map_build.specs.Spots.{ArePeriodicOf}
use Rattle.channel_states.specs.PossibleFlow.{IsPossiblePlace, HasPossiblePlace}
use Rattle.channel_states.specs.PossiblePlaces.{StandBeside}
use Rattle.sched_history.specs.ChannelState.{flow_state_in}
use Rattle.sched_history.proofs.situations.Places.{placed-aperiodic, placed-periodic}
use Rattle.restart_laws.proofs.Alike.{AlikePlaced}
use Rattle.restart_laws.proofs.possible.Standing.{stands-among}
use Rattle.restart_laws.proofs.possible.Tables.{IsSilent, IsTable}
use Rattle.restart_laws.proofs.tables.Alike.{starts-alike, spots-alike}
use Rattle.restart_laws.proofs.tables.Carried.{carried-placed, carried-table}

-- starts that are lawful are so of a placed flow that is like this one
lawful-alike : (c : Config) (p q : Placed) → AlikePlaced c p q → HasLawfulStarts c p.spec p.placement (λ k. [])
    → HasLawfulStarts c q.spec q.placement (λ k. [])
lawful-alike c p q alike has = record {
  count = ap length (sym alike.starts) ∙ has.count
      ∙ ap (λ s. c.cycle / interval_frames c s * grants_of s) alike.spec;
  each = λ k low nominal.
      (let own = has.each k low (ap (λ s. k % interval_frames c s) alike.spec ∙ nominal ∙ sym alike.phase) in
      subst (λ s. AreLawfulStarts c s (offset_of c q.placement) [] (starts_in c q.spec q.placement k)) alike.spec
      (subst (λ o. AreLawfulStarts c p.spec o [] (starts_in c q.spec q.placement k)) alike.offset
      (subst (AreLawfulStarts c p.spec (offset_of c p.placement) []) (starts-alike c p q alike k) own)));
}

module _ (c : Config) (lawful : IsLawful c) where
  some : 0 < c.frame
  some = omega (arith, (bounds_of c lawful).frame_least)

  -- the place of a placed flow, as its flow has it
  place-possible : (p : Placed) (f : FlowState) → p.sid ≡ f.sid → p.spec ≡ f.spec → IsSoundPlaced c p → IsSilent p
      → IsPossiblePlace c f.spec (place_state c p)
  place-possible p f own has sound silent =
      let parts = places_of c p.spec lawful sound.periodic sound.no_fault in
      let k : ℕ = p.placement.reference / c.frame in
      record {
        phase = subst (λ s. k % interval_frames c p.spec < interval_frames c s) has (mod-lt k parts.interval_positive);
        after_requests = sound.after_requests;
        within_frame = mod-lt p.placement.reference some;
        starts = lawful-alike c p (placed_at c f (place_state c p)) (carried-placed c some p f own has) sound.starts;
        rests = λ rests. record {
          unsolicited = ap takes_requests (sym has) ∙ silent rests;
          room = subst (λ s. c.poll_slots ≤ periodic_slots c s) has (sound.polled rests);
        };
      }

  module _ (flows : List LiveFlow) (placed : List Placed) (up : Ascend flows) (periodic : ArePeriodicOf flows placed)
      (table : IsTable c placed) where
    by-place : (f : LiveFlow) → (b : Bool) → is_periodic f.spec ≡ b → flow_of f.sid flows ≡ Some f
        → HasPossiblePlace c (flow_state_in c placed f)
    by-place f true is live =
        let at = placed-periodic flows placed up periodic f.sid f live is in
        let p : Placed = at.0 in
        let own : p.sid ≡ f.sid =
        (stands-among f.sid p placed table.sound.ascending at.1).own in
        rw at.1 (
          is,
          place-possible p (flow_state_in c placed f) own at.2
              (all-found (IsSoundPlaced c) (λ q. q.sid == f.sid) placed p table.sound.each at.1)
              (all-found IsSilent (λ q. q.sid == f.sid) placed p table.silent at.1),
        )
    by-place f false is live = rw (placed-aperiodic flows placed up periodic f.sid f live is) is

    -- each flow has a place that it may have, where it is periodic
    pub flow-place : (f : LiveFlow) → flow_of f.sid flows ≡ Some f → HasPossiblePlace c (flow_state_in c placed f)
    flow-place f live = by-place f (is_periodic f.spec) refl live

    -- and they stand beside one another
    pub stand-beside : StandBeside c (map (flow_state_in c placed) flows)
    stand-beside k low =
        let same = spots-alike c k placed (placed_in c (map (flow_state_in c placed) flows))
        (carried-table c some flows placed up periodic) in
        rw (← same) (record { apart = table.sound.apart k; few = table.sound.few k })
