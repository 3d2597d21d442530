-- A placed flow rests, or wakes.
use Rattle.std.proofs.Common.{◌≡◌, refl, ap, ◌∙◌, ℕ, Bool, true, false, ◌==◌, nat_lt, List, [], ◌∷◌, inl, inr}
use Rattle.std.proofs.lemmas.Bool.{cases_Bool, eq-eqb, ne_eqb}
use Rattle.minislots.specs.declared.config.Config.{Config}
use Rattle.periodic.specs.declared.spots.PlacedFlow.{PlacedFlow}
use Rattle.periodic.specs.Placement.{Placed}
use Rattle.periodic.specs.Table.{with_placed, without, resting, with_rest, HasRoomToPoll}
use Rattle.periodic.specs.Fields.{placed_of, IsSoundFlow}
use Rattle.periodic.proofs.Among.{StandsAmong, gone}
use Rattle.periodic.proofs.InOrder.{HaveNot, not-found}
use Rattle.periodic.proofs.Kept.{TakesAlike}

module _ (sid : ℕ) (rests : Bool) where
  rest-none : (placed : List Placed) → HaveNot sid placed → with_rest sid rests placed ≡ placed
  rest-none [] none = refl
  rest-none (g ∷ placed) none =
      let other : (g.sid == sid) ≡ false = ne_eqb g.sid sid none.0 in
      rw other (ap (λ gs. g ∷ gs) (rest-none placed none.1))

  -- one that is put in rests or wakes in its place
  pub rest-with : (f : Placed) (others : List Placed) → f.sid ≡ sid → HaveNot sid others
      → with_rest sid rests (with_placed f others) ≡ with_placed (resting rests f) others
  rest-with f [] own none = rw (eq-eqb f.sid sid own) refl
  rest-with f (g ∷ others) own none =
      let this : (f.sid == sid) ≡ true = eq-eqb f.sid sid own in
      let other : (g.sid == sid) ≡ false = ne_eqb g.sid sid none.0 in
      elim (cases_Bool (nat_lt f.sid g.sid)) [
        | inl low ↦ rw (low, this, other) (ap (λ gs. resting rests f ∷ g ∷ gs) (rest-none others none.1))
        | inr high ↦ rw (high, other) (ap (λ gs. g ∷ gs) (rest-with f others own none.1))
      ]

  -- the flow stands in its place, resting or not
  pub rest-placed : (f : Placed) (placed : List Placed) → StandsAmong sid f placed
      → with_rest sid rests placed ≡ with_placed (resting rests f) (without sid placed)
  rest-placed f placed stands =
      ap (with_rest sid rests) stands.back
      ∙ rest-with f (without sid placed) stands.own (not-found sid (without sid placed) (gone sid placed))

-- it takes what it took
pub rest-alike : (c : Config) (rests : Bool) (f : Placed) → TakesAlike c f (resting rests f)
rest-alike c rests f = record { own = refl; spots = λ k. refl; grants = refl }

-- a sound flow is sound where it rests with room for a poll, and where it is awake
pub rest-sound : (c : Config) (rests : Bool) (f g : PlacedFlow) → g ≡ record f { rests = rests }
    → (rests ≡ true → HasRoomToPoll c (placed_of f)) → IsSoundFlow c f → IsSoundFlow c g
rest-sound c rests f g made room is =
    let sound = is.sound in
    let times = is.times in
    rw made (record {
      sound = record {
        sid_positive = sound.sid_positive;
        sid_most = sound.sid_most;
        periodic = sound.periodic;
        no_fault = sound.no_fault;
        after_requests = sound.after_requests;
        starts = sound.starts;
        polled = room;
      };
      times = record {
        lawful = times.lawful;
        interval = times.interval;
        phase = times.phase;
        slots = times.slots;
        grants = times.grants;
        poll_slots = times.poll_slots;
      };
    })
