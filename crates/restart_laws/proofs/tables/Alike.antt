-- Tables of one state: what their flows have of each frame, what may be placed beside them, and what changes them.
use Rattle.std.proofs.Common.{◌≡◌, refl, sym, ap, ◌∙◌, subst, ℕ, ◌+◌, ◌/◌, ◌%◌, ◌≤◌, Bool, true, false, not}
use Rattle.std.proofs.Common.{nat_lt, ◌==◌, cond, List, [], ◌∷◌, length, map, take, find, flat_map}
use Rattle.std.proofs.Common.{Option, None, Some, option_map, if◌then◌else◌}
use Rattle.minislots.specs.declared.config.Config.{Config}
use Rattle.sched_calls.specs.declared.spec.FlowSpec.{FlowSpec}
use Rattle.sched_calls.specs.declared.placement.Placement.{Placement}
use Rattle.sched_calls.specs.declared.state.PlaceState.{PlaceState}
use Rattle.sched_calls.specs.FlowSpec.{size_of, interval_frames, periodic_slots, grants_of}
use Rattle.periodic.specs.declared.TheConstants.{MAX_SPOTS}
use Rattle.periodic.specs.declared.placement.Spot.{Spot}
use Rattle.periodic.specs.Placement.{Placed, phase_of, offset_of, group_at, starts_in, spots_of, spots_in, due_of}
use Rattle.periodic.specs.Placement.{due_in, AreLawfulStarts, IsPlacement, NoPlacement, IsToldFrom}
use Rattle.periodic.specs.PlaceState.{place_state, place_state_of}
use Rattle.periodic.specs.Table.{with_placed, without, resting, with_rest}
use Rattle.restart_laws.proofs.Alike.{AlikePlaced, AlikeTables}

-- starts in a frame, of a phase and of all starts
abbrev starts_by : Config → FlowSpec → ℕ → List ℕ → ℕ → List ℕ
starts_by c spec phase starts place = if place % interval_frames c spec == phase
    then group_at (grants_of spec) (place / interval_frames c spec) starts else []

-- what a flow takes at these starts
abbrev spots_by : Config → ℕ → FlowSpec → List ℕ → List Spot
spots_by c sid spec starts = map
    (λ start. record { sid = sid; size = size_of spec; offset = start; slots = periodic_slots c spec }) starts

-- what it is to have at them
abbrev due_by : Config → ℕ → FlowSpec → Bool → List ℕ → List Spot
due_by c sid spec rests starts = map
    (λ start. if rests then record { sid = sid; size = None; offset = start; slots = c.poll_slots }
    else record { sid = sid; size = size_of spec; offset = start; slots = periodic_slots c spec })
    (if rests then take 1 starts else starts)

starts-same : (c : Config) (spec spec' : FlowSpec) (phase phase' : ℕ) (starts starts' : List ℕ) (place : ℕ)
    → spec ≡ spec' → phase ≡ phase' → starts ≡ starts' → starts_by c spec phase starts place
    ≡ starts_by c spec' phase' starts' place
starts-same c spec spec' phase phase' starts starts' place specs phases all = rw (specs, phases, all) refl

spots-same : (c : Config) (sid sid' : ℕ) (spec spec' : FlowSpec) (starts starts' : List ℕ) → sid ≡ sid'
    → spec ≡ spec' → starts ≡ starts' → spots_by c sid spec starts ≡ spots_by c sid' spec' starts'
spots-same c sid sid' spec spec' starts starts' own specs all = rw (own, specs, all) refl

due-same : (c : Config) (sid sid' : ℕ) (spec spec' : FlowSpec) (rests rests' : Bool) (starts starts' : List ℕ)
    → sid ≡ sid' → spec ≡ spec' → rests ≡ rests' → starts ≡ starts'
    → due_by c sid spec rests starts ≡ due_by c sid' spec' rests' starts'
due-same c sid sid' spec spec' rests rests' starts starts' own specs rest all = rw (own, specs, rest, all) refl

place-same : (phase phase' offset offset' : ℕ) (starts starts' : List ℕ) (rests rests' : Bool) → phase ≡ phase'
    → offset ≡ offset' → starts ≡ starts' → rests ≡ rests'
    → ◌≡◌ {A = PlaceState} (record { phase = phase; offset = offset; starts = starts; rests = rests })
    (record { phase = phase'; offset = offset'; starts = starts'; rests = rests' })
place-same phase phase' offset offset' starts starts' rests rests' phases offsets all rest =
    rw (phases, offsets, all, rest) refl

module _ (c : Config) (p q : Placed) (alike : AlikePlaced c p q) where
  -- they have the same starts in each frame
  pub starts-alike : (place : ℕ)
      → starts_in c p.spec p.placement place ≡ starts_in c q.spec q.placement place
  starts-alike place =
      starts-same c p.spec q.spec (phase_of c p.spec p.placement) (phase_of c q.spec q.placement) p.placement.starts
      q.placement.starts place alike.spec alike.phase alike.starts

  -- they take the same of it
  pub spots_of-alike : (k : ℕ) → spots_of c k p ≡ spots_of c k q
  spots_of-alike k =
      spots-same c p.sid q.sid p.spec q.spec (starts_in c p.spec p.placement (k % c.cycle))
      (starts_in c q.spec q.placement (k % c.cycle)) alike.sid alike.spec (starts-alike (k % c.cycle))

  -- and are to have the same
  pub due_of-alike : (k : ℕ) → due_of c k p ≡ due_of c k q
  due_of-alike k =
      due-same c p.sid q.sid p.spec q.spec p.rests q.rests (starts_in c p.spec p.placement (k % c.cycle))
      (starts_in c q.spec q.placement (k % c.cycle)) alike.sid alike.spec alike.rests (starts-alike (k % c.cycle))

  -- their places are the same
  pub place-alike : place_state c p ≡ place_state c q
  place-alike =
      place-same (phase_of c p.spec p.placement) (phase_of c q.spec q.placement) (offset_of c p.placement)
      (offset_of c q.placement) p.placement.starts q.placement.starts p.rests q.rests alike.phase alike.offset
      alike.starts alike.rests

  -- the other way round
  pub placed-sym : AlikePlaced c q p
  placed-sym = record {
    sid = sym alike.sid;
    spec = sym alike.spec;
    starts = sym alike.starts;
    phase = sym alike.phase;
    offset = sym alike.offset;
    rests = sym alike.rests;
  }

  -- where one rests or wakes the other does
  pub resting-alike : (rests : Bool) → AlikePlaced c (resting rests p) (resting rests q)
  resting-alike rests = record {
    sid = alike.sid;
    spec = alike.spec;
    starts = alike.starts;
    phase = alike.phase;
    offset = alike.offset;
    rests = refl;
  }

  -- a placement that is told of the one is told of the other, for a flow of the same interval
  pub told-alike : (spec : FlowSpec) (next : ℕ) (r : Placement) → interval_frames c spec ≡ interval_frames c p.spec
      → IsToldFrom c spec next p.placement r → IsToldFrom c spec next q.placement r
  told-alike spec next r interval told = record {
    starts = told.starts ∙ alike.starts;
    not_before = told.not_before;
    first = told.first;
    phase = told.phase ∙ ap (λ f. p.placement.reference / c.frame % f) interval ∙ alike.phase
        ∙ ap (λ f. q.placement.reference / c.frame % f) (sym (interval ∙ ap (interval_frames c) alike.spec));
    offset = told.offset ∙ alike.offset;
  }

-- a placed flow is like itself
pub placed-same : (c : Config) (p : Placed) → AlikePlaced c p p
placed-same c p = record { sid = refl; spec = refl; starts = refl; phase = refl; offset = refl; rests = refl }

-- placed flows that were found are alike, where any was
abbrev pub AlikeFound : Config → Option Placed → Option Placed → Type 0
AlikeFound c None None = Unit {0}
AlikeFound c None (Some q) = ⊥
AlikeFound c (Some p) None = ⊥
AlikeFound c (Some p) (Some q) = AlikePlaced c p q

-- of two choices by one test what holds of both first ones and of both others holds
cond-alike : {X : Type 0} (R : X → X → Type 0) (b b' : Bool) (x y x' y' : X) → b ≡ b' → R x y → R x' y'
    → R (cond b x x') (cond b' y y')
cond-alike R true true x y x' y' same first other = first
cond-alike R true false x y x' y' same first other = absurd cc
cond-alike R false true x y x' y' same first other = absurd cc
cond-alike R false false x y x' y' same first other = other

place-found : (c : Config) (o o' : Option Placed) → AlikeFound c o o'
    → option_map (place_state c) o ≡ option_map (place_state c) o'
place-found c None None found = refl
place-found c None (Some q) found = absurd found
place-found c (Some p) None found = absurd found
place-found c (Some p) (Some q) found = ap (λ s. Some s) (place-alike c p q found)

module _ (c : Config) where
  -- a table is like itself
  pub tables-same : (ps : List Placed) → AlikeTables c ps ps
  tables-same [] = tt
  tables-same (p ∷ ps) = (placed-same c p, tables-same ps)

  -- the other way round
  pub tables-sym : (ps qs : List Placed) → AlikeTables c ps qs → AlikeTables c qs ps
  tables-sym [] [] alike = tt
  tables-sym [] (q ∷ qs) alike = absurd alike
  tables-sym (p ∷ ps) [] alike = absurd alike
  tables-sym (p ∷ ps) (q ∷ qs) alike = (placed-sym c p q alike.0, tables-sym ps qs alike.1)

  -- what alike flows have the same of their tables have the same of
  joined-alike : (of : Placed → List Spot) → ((p q : Placed) → AlikePlaced c p q → of p ≡ of q) → (ps qs : List Placed)
      → AlikeTables c ps qs → flat_map of ps ≡ flat_map of qs
  joined-alike of each [] [] alike = refl
  joined-alike of each [] (q ∷ qs) alike = absurd alike
  joined-alike of each (p ∷ ps) [] alike = absurd alike
  joined-alike of each (p ∷ ps) (q ∷ qs) alike =
      rw (each p q alike.0, joined-alike of each ps qs alike.1) refl

  -- the same is taken of each frame
  pub spots-alike : (k : ℕ) (ps qs : List Placed) → AlikeTables c ps qs → spots_in c k ps ≡ spots_in c k qs
  spots-alike k = joined-alike (spots_of c k) (λ p q alike. spots_of-alike c p q alike k)

  -- and the same is due in it
  pub due-alike : (k : ℕ) (ps qs : List Placed) → AlikeTables c ps qs → due_in c k ps ≡ due_in c k qs
  due-alike k = joined-alike (due_of c k) (λ p q alike. due_of-alike c p q alike k)

  -- under a SID alike flows are found
  pub find-alike : (sid : ℕ) (ps qs : List Placed) → AlikeTables c ps qs
      → AlikeFound c (find (λ p. p.sid == sid) ps) (find (λ q. q.sid == sid) qs)
  find-alike sid [] [] alike = tt
  find-alike sid [] (q ∷ qs) alike = absurd alike
  find-alike sid (p ∷ ps) [] alike = absurd alike
  find-alike sid (p ∷ ps) (q ∷ qs) alike =
      cond-alike (AlikeFound c) (p.sid == sid) (q.sid == sid) (Some p) (Some q) (find (λ r. r.sid == sid) ps)
      (find (λ r. r.sid == sid) qs)
      (ap (λ n. n == sid) alike.0.sid) alike.0 (find-alike sid ps qs alike.1)

  -- with the same places
  pub place_of-alike : (sid : ℕ) (ps qs : List Placed) → AlikeTables c ps qs
      → place_state_of c sid ps ≡ place_state_of c sid qs
  place_of-alike sid ps qs alike =
      place-found c (find (λ p. p.sid == sid) ps) (find (λ q. q.sid == sid) qs) (find-alike sid ps qs alike)

  -- tables stay alike with alike flows put in
  pub with_placed-alike : (p q : Placed) (ps qs : List Placed) → AlikePlaced c p q → AlikeTables c ps qs
      → AlikeTables c (with_placed p ps) (with_placed q qs)
  with_placed-alike p q [] [] new alike = (new, tt)
  with_placed-alike p q [] (s ∷ qs) new alike = absurd alike
  with_placed-alike p q (r ∷ ps) [] new alike = absurd alike
  with_placed-alike p q (r ∷ ps) (s ∷ qs) new alike =
      cond-alike (AlikeTables c) (nat_lt p.sid r.sid) (nat_lt q.sid s.sid) (p ∷ r ∷ ps) (q ∷ s ∷ qs)
      (r ∷ with_placed p ps) (s ∷ with_placed q qs)
      (ap (λ n. nat_lt n r.sid) new.sid ∙ ap (λ n. nat_lt q.sid n) alike.0.sid)
      (new, (alike.0, alike.1)) (alike.0, with_placed-alike p q ps qs new alike.1)

  -- with the flow of a SID taken out
  pub without-alike : (sid : ℕ) (ps qs : List Placed) → AlikeTables c ps qs
      → AlikeTables c (without sid ps) (without sid qs)
  without-alike sid [] [] alike = tt
  without-alike sid [] (q ∷ qs) alike = absurd alike
  without-alike sid (p ∷ ps) [] alike = absurd alike
  without-alike sid (p ∷ ps) (q ∷ qs) alike =
      let rest = without-alike sid ps qs alike.1 in
      cond-alike (AlikeTables c) (not (p.sid == sid)) (not (q.sid == sid)) (p ∷ without sid ps)
      (q ∷ without sid qs) (without sid ps) (without sid qs) (ap (λ n. not (n == sid)) alike.0.sid) (alike.0, rest) rest

  -- and with that flow at rest or awake
  pub with_rest-alike : (sid : ℕ) (rests : Bool) (ps qs : List Placed) → AlikeTables c ps qs
      → AlikeTables c (with_rest sid rests ps) (with_rest sid rests qs)
  with_rest-alike sid rests [] [] alike = tt
  with_rest-alike sid rests [] (q ∷ qs) alike = absurd alike
  with_rest-alike sid rests (p ∷ ps) [] alike = absurd alike
  with_rest-alike sid rests (p ∷ ps) (q ∷ qs) alike = (
    cond-alike (AlikePlaced c) (p.sid == sid) (q.sid == sid) (resting rests p) (resting rests q) p q
        (ap (λ n. n == sid) alike.0.sid) (resting-alike c p q alike.0 rests) alike.0,
    with_rest-alike sid rests ps qs alike.1,
  )

  module _ (ps qs : List Placed) (alike : AlikeTables c ps qs) (spec : FlowSpec) (next : ℕ) where
    -- what may be placed beside the one table may be beside the other
    pub placement-alike : (p : Placement) → IsPlacement c ps spec next p → IsPlacement c qs spec next p
    placement-alike p is = record {
      not_before = is.not_before;
      first = is.first;
      after_requests = is.after_requests;
      starts = record {
        count = is.starts.count;
        each = λ place within nominal.
            subst (λ spots. AreLawfulStarts c spec (offset_of c p) spots (starts_in c spec p place))
            (spots-alike place ps qs alike) (is.starts.each place within nominal);
      };
      few = λ place within. subst (λ spots. length spots + length (starts_in c spec p place) ≤ MAX_SPOTS)
          (spots-alike place ps qs alike) (is.few place within);
    }

  -- and where nothing may be beside the one nothing may be beside the other
  pub none-alike : (ps qs : List Placed) → AlikeTables c ps qs → (spec : FlowSpec) (next : ℕ)
      → NoPlacement c ps spec next → NoPlacement c qs spec next
  none-alike ps qs alike spec next none p is =
      none p (placement-alike qs ps (tables-sym ps qs alike) spec next p is)
