-- One flow is added to those placed.
use Rattle.std.proofs.Common.{◌≡◌, ap, ℕ, ◌+◌, ◌%◌, ◌<◌, ◌≤◌, true, false, nat_lt, List, [], ◌∷◌}
use Rattle.std.proofs.Common.{◌++◌, None, length, arith}
use Rattle.std.specs.List.{AllByRecursion}
use Rattle.std.proofs.lemmas.Bool.{cond_both}
use Rattle.std.proofs.lemmas.List.{length-map}
use Rattle.std.proofs.lemmas.List.Sums.{sum_by-cons}
use Rattle.minislots.specs.declared.config.Config.{Config}
use Rattle.minislots.specs.Config.{IsLawful}
use Rattle.sched_calls.specs.declared.spec.FlowSpec.{FlowSpec}
use Rattle.sched_calls.specs.FlowSpec.{is_periodic, grants_of, first_fault}
use Rattle.sched_calls.proofs.Insertion.{all-put_in, ascends-put_in}
use Rattle.sched_calls.specs.declared.placement.Placement.{Placement}
use Rattle.periodic.specs.declared.TheConstants.{MAX_SPOTS}
use Rattle.periodic.specs.declared.placement.Spot.{Spot}
use Rattle.periodic.specs.Placement.{Placed, offset_of, starts_in, spot_at, spots_of, spots_in, AreLawfulStarts}
use Rattle.periodic.specs.Placement.{IsPlacement}
use Rattle.periodic.specs.Table.{placed_grants, IsNotPlaced, with_placed, IsApart, AreApart, IsSoundPlaced, AreSound}
use Rattle.periodic.proofs.Joined.{all-append, all-left, all-right, all-weaker, all-both, all-turned, all-map}
use Rattle.periodic.proofs.Joined.{turned, apart-append, apart-left, apart-right, apart-between}
use Rattle.periodic.proofs.Counting.{spots-with}
use Rattle.periodic.proofs.Frames.{IsStartIn, starts-here, in-cycle, spots_of-apart, spots_in-place}

-- the grants per interval with one flow more
pub grants-with : (f : Placed) (placed : List Placed)
    → placed_grants (with_placed f placed) ≡ grants_of f.spec + placed_grants placed
grants-with f [] = sum_by-cons (λ (g : Placed). grants_of g.spec) f []
grants-with f (g ∷ placed) =
    let own : Placed → ℕ = λ h. grants_of h.spec in
    let first = sum_by-cons own g placed in
    cond_both (nat_lt f.sid g.sid) (f ∷ g ∷ placed) (g ∷ with_placed f placed)
    (λ fs. placed_grants fs ≡ grants_of f.spec + placed_grants (g ∷ placed))
    (λ low. sum_by-cons own f (g ∷ placed))
    (λ high. let rest = grants-with f placed in
    let last = sum_by-cons own g (with_placed f placed) in omega (arith, first, rest, last))

-- what is so of the spots of a flow and of a table is so of those of the table with the flow
pub all-spots-with : (c : Config) (k : ℕ) (P : Spot → Type 0) (f : Placed) (placed : List Placed)
    → AllByRecursion P (spots_of c k f) → AllByRecursion P (spots_in c k placed)
    → AllByRecursion P (spots_in c k (with_placed f placed))
all-spots-with c k P f [] here all = all-append P (spots_of c k f) [] here tt
all-spots-with c k P f (g ∷ placed) here all =
    cond_both (nat_lt f.sid g.sid) (f ∷ g ∷ placed) (g ∷ with_placed f placed)
    (λ fs. AllByRecursion P (spots_in c k fs))
    (λ low. all-append P (spots_of c k f) (spots_in c k (g ∷ placed)) here all)
    (λ high. all-append P (spots_of c k g) (spots_in c k (with_placed f placed))
    (all-left P (spots_of c k g) (spots_in c k placed) all)
    (all-spots-with c k P f placed here (all-right P (spots_of c k g) (spots_in c k placed) all)))

-- each of these spots is apart from all that the placed flows take of a frame
abbrev pub AreBeside : Config → ℕ → List Placed → List Spot → Type 0
AreBeside c k placed spots = AllByRecursion (λ s. AllByRecursion (IsApart s) (spots_in c k placed)) spots

apart-with : (c : Config) (k : ℕ) (f : Placed) (placed : List Placed) → AreApart (spots_of c k f)
    → AreBeside c k placed (spots_of c k f) → AreApart (spots_in c k placed)
    → AreApart (spots_in c k (with_placed f placed))
apart-with c k f [] own free apart =
    apart-append (spots_of c k f) [] own tt free
apart-with c k f (g ∷ placed) own free apart =
    let mine = spots_of c k f in
    let first = spots_of c k g in
    let rest = spots_in c k placed in
    let to-first : AllByRecursion (λ s. AllByRecursion (IsApart s) first) mine =
    all-weaker (λ s. AllByRecursion (IsApart s) (first ++ rest)) (λ s. AllByRecursion (IsApart s) first)
    (λ s all. all-left (IsApart s) first rest all) mine free in
    let to-rest : AreBeside c k placed mine =
    all-weaker (λ s. AllByRecursion (IsApart s) (first ++ rest)) (λ s. AllByRecursion (IsApart s) rest)
    (λ s all. all-right (IsApart s) first rest all) mine free in
    cond_both (nat_lt f.sid g.sid) (f ∷ g ∷ placed) (g ∷ with_placed f placed) (λ fs. AreApart (spots_in c k fs))
    (λ low. apart-append mine (spots_in c k (g ∷ placed)) own apart free)
    (λ high. apart-append first (spots_in c k (with_placed f placed)) (apart-left first rest apart)
    (apart-with c k f placed own to-rest (apart-right first rest apart))
    (all-both (λ t. AllByRecursion (IsApart t) mine) (λ t. AllByRecursion (IsApart t) rest)
    (λ t. AllByRecursion (IsApart t) (spots_in c k (with_placed f placed)))
    (λ t new old. all-spots-with c k (IsApart t) f placed new old) first
    (all-turned IsApart IsApart turned mine first to-first) (apart-between first rest apart)))

module _ (c : Config) (placed : List Placed) (sid : ℕ) (spec : FlowSpec) (next : ℕ) (p : Placement) where
  -- the flow with its placement
  abbrev new : Placed
  new = record { sid = sid; spec = spec; placement = p; rests = false }

  spots-free : (k : ℕ) → IsLawful c → IsPlacement c placed spec next p → AreBeside c k placed (spots_of c k new)
  spots-free k lawful is =
      let place = k % c.cycle in
      let starts = starts_in c spec p place in
      let here = starts-here c place new (λ at. spots_in c at placed) (in-cycle c k lawful) is.starts in
      let free : AllByRecursion (λ start. AllByRecursion (IsApart (spot_at c new start)) (spots_in c place placed))
      starts =
      all-weaker (IsStartIn c new (spots_in c place placed))
      (λ start. AllByRecursion (IsApart (spot_at c new start)) (spots_in c place placed)) (λ start at. at.free) starts
      here.each in
      rw (← spots_in-place c k placed) (all-map (λ s. AllByRecursion (IsApart s) (spots_in c place placed))
      (spot_at c new) starts free)

  starts-alone : (place : ℕ) (starts : List ℕ)
      → AreLawfulStarts c spec (offset_of c p) (spots_in c place placed) starts
      → AreLawfulStarts c spec (offset_of c p) [] starts
  starts-alone place starts are = record {
    count = are.count;
    in_turn = are.in_turn;
    each = all-weaker (IsStartIn c new (spots_in c place placed)) (IsStartIn c new [])
        (λ start lawful. record {
          after_nominal = lawful.after_nominal;
          within_jitter = lawful.within_jitter;
          within_frame = lawful.within_frame;
          free = tt;
        })
        starts are.each;
  }

  -- a new flow at a lawful placement is sound
  pub new-sound : 0 < sid → sid ≤ 8191 → is_periodic spec ≡ true → first_fault c spec ≡ None
      → IsPlacement c placed spec next p → IsSoundPlaced c new
  new-sound some most periodic none is = record {
    sid_positive = some;
    sid_most = most;
    periodic = periodic;
    no_fault = none;
    after_requests = is.after_requests;
    starts = record {
      count = is.starts.count;
      each = λ place within nominal.
          starts-alone place (starts_in c spec p place) (is.starts.each place within nominal);
    };
    polled = λ rests. absurd (cc);
  }

  -- with it no frame has too many starts
  pub few-with : (k : ℕ) → IsLawful c → IsPlacement c placed spec next p
      → length (spots_in c k (with_placed new placed)) ≤ MAX_SPOTS
  few-with k lawful is =
      let place = k % c.cycle in
      omega (
        arith,
        is.few place (in-cycle c k lawful),
        ap length (spots_in-place c k placed),
        length-map (starts_in c spec p place) (spot_at c new),
        spots-with c k new placed,
      )

  -- with a flow of a new SID, lawfully placed, the table is sound
  pub sound-with : IsLawful c → 0 < sid → sid ≤ 8191 → is_periodic spec ≡ true → first_fault c spec ≡ None
      → placed_grants placed + grants_of spec ≤ c.periodic → IsNotPlaced sid placed
      → IsPlacement c placed spec next p → AreSound c placed
      → AreSound c (with_placed new placed)
  sound-with lawful some most periodic none few absent is are = record {
    ascending = ascends-put_in (λ f. f.sid) new placed absent are.ascending;
    most = (let sum = grants-with new placed in omega (arith, few, sum));
    each = all-put_in (λ f. f.sid) (IsSoundPlaced c) new placed (new-sound some most periodic none is) are.each;
    apart = λ k. apart-with c k new placed
        (spots_of-apart c k new (λ place. spots_in c place placed) lawful is.starts) (spots-free k lawful is)
        (are.apart k);
    few = λ k. few-with k lawful is;
  }
