-- How many starts a frame has, with a flow and without it.
use Rattle.std.proofs.Common.{◌≡◌, ◌≢◌, refl, sym, ap, ◌∙◌, subst, ℕ, ◌+◌, ◌*◌, ◌/◌, ◌%◌, ◌<◌, ◌≤◌, Bool, true, false, nat_lt, List, []}
use Rattle.std.proofs.Common.{◌∷◌, drop, filter, length, get_or, set, inl, inr, arith}
use Rattle.std.proofs.lemmas.Bool.{cases_eq, cond_both, eq-eqb, ne_eqb}
use Rattle.std.proofs.lemmas.Grind.{get_or-set_at}
use Rattle.std.proofs.lemmas.List.{length-append, length-map, length-take, get_or-set_other}
use Rattle.std.proofs.lemmas.List.Sums.{sum_by-cons}
use Rattle.minislots.specs.declared.config.Config.{Config}
use Rattle.sched_calls.specs.declared.spec.FlowSpec.{FlowSpec}
use Rattle.sched_calls.specs.FlowSpec.{interval_frames, grants_of}
use Rattle.sched_calls.specs.declared.placement.Placement.{Placement}
use Rattle.periodic.specs.declared.TheConstants.{MAX_SPOTS}
use Rattle.periodic.specs.declared.search.Wanted.{Wanted}
use Rattle.periodic.specs.Placement.{Placed, phase_of, starts_in, spot_at, spots_of, spots_in, HasLawfulStarts}
use Rattle.periodic.specs.Placement.{HasFewStarts}
use Rattle.periodic.specs.Counts.{AreCounts, AreCounted, MayCount, AreCountedTo}
use Rattle.periodic.specs.Search.{CanBeSought, IsWantedOf, HasRoomAt}
use Rattle.periodic.specs.Table.{placed_grants, with_placed}
use Rattle.periodic.proofs.Fields.{count-here}
use Rattle.periodic.proofs.Groups.{frame-phase, frame-within, frame-of, index-within, group-fits}

-- at a frame that is not nominal there are no starts
pub no-starts : (c : Config) (spec : FlowSpec) (p : Placement) (place : ℕ)
    → (place % interval_frames c spec ≡ phase_of c spec p → ⊥) → starts_in c spec p place ≡ []
no-starts c spec p place differ =
    rw (ne_eqb (place % interval_frames c spec) (phase_of c spec p) differ) refl

-- a flow has no more starts in a frame than grants in an interval
pub starts-most : (c : Config) (spec : FlowSpec) (p : Placement) (place : ℕ)
    → length (starts_in c spec p place) ≤ grants_of spec
starts-most c spec p place =
    elim (cases_eq (place % interval_frames c spec) (phase_of c spec p)) [
      | inl nominal ↦ rw (eq-eqb (place % interval_frames c spec) (phase_of c spec p) nominal)
          (omega (arith, length-take (grants_of spec) (drop (place / interval_frames c spec * grants_of spec) p.starts)))
      | inr differ ↦ rw (ne_eqb (place % interval_frames c spec) (phase_of c spec p) differ) (omega arith)
    ]

-- nor spots
pub own-most : (c : Config) (k : ℕ) (f : Placed) → length (spots_of c k f) ≤ grants_of f.spec
own-most c k f =
    let starts = starts_in c f.spec f.placement (k % c.cycle) in
    omega (arith, length-map starts (spot_at c f), starts-most c f.spec f.placement (k % c.cycle))

-- the spots of a frame are no more than the grants per interval
pub spots-most : (c : Config) (k : ℕ) (placed : List Placed) → length (spots_in c k placed) ≤ placed_grants placed
spots-most c k [] = omega arith
spots-most c k (f ∷ placed) =
    omega (
      arith,
      own-most c k f,
      spots-most c k placed,
      length-append (spots_of c k f) (spots_in c k placed),
      sum_by-cons (λ (g : Placed). grants_of g.spec) f placed,
    )

-- where there are no more grants per interval than a frame may have starts, no frame has too many
pub few-grants : (c : Config) (table : List Placed) (spec : FlowSpec) (p : Placement)
    → placed_grants table + grants_of spec ≤ MAX_SPOTS → HasFewStarts c table spec p
few-grants c table spec p few place within =
    omega (arith, few, spots-most c place table, starts-most c spec p place)

-- with one flow more a frame has its spots more
pub spots-with : (c : Config) (k : ℕ) (f : Placed) (placed : List Placed)
    → length (spots_in c k (with_placed f placed)) ≡ length (spots_of c k f) + length (spots_in c k placed)
spots-with c k f [] = length-append (spots_of c k f) []
spots-with c k f (g ∷ placed) =
    cond_both (nat_lt f.sid g.sid) (f ∷ g ∷ placed) (g ∷ with_placed f placed)
    (λ fs. length (spots_in c k fs) ≡ length (spots_of c k f) + length (spots_in c k (g ∷ placed)))
    (λ low. length-append (spots_of c k f) (spots_in c k (g ∷ placed)))
    (λ high. omega (
      arith,
      spots-with c k f placed,
      length-append (spots_of c k g) (spots_in c k placed),
      length-append (spots_of c k g) (spots_in c k (with_placed f placed)),
    ))

-- of some of the flows a frame has no more
pub spots-fewer : (c : Config) (k : ℕ) (p : Placed → Bool) (placed : List Placed)
    → length (spots_in c k (filter p placed)) ≤ length (spots_in c k placed)
spots-fewer c k p [] = omega arith
spots-fewer c k p (f ∷ placed) =
    let fewer = spots-fewer c k p placed in
    let all = length-append (spots_of c k f) (spots_in c k placed) in
    cond_both (p f) (f ∷ filter p placed) (filter p placed)
    (λ fs. length (spots_in c k fs) ≤ length (spots_in c k (f ∷ placed)))
    (λ kept. omega (arith, fewer, all, length-append (spots_of c k f) (spots_in c k (filter p placed))))
    (λ out. omega (arith, fewer, all))

module _ (c : Config) (table : List Placed) (counts : List ℕ) (spec : FlowSpec) (w : Wanted) (p : Placement)
    (phase : ℕ) (counted : AreCounts c table counts) (sought : CanBeSought c w) (wanted : IsWantedOf c spec w)
    (at : phase_of c spec p ≡ phase) (lt : phase < w.interval) where
  -- where the frames of a placement's phase have room no frame has too many starts with it
  pub few-of-room : ((k : ℕ) → length (spots_in c k table) ≤ MAX_SPOTS) → HasRoomAt c counts w phase
      → HasFewStarts c table spec p
  few-of-room few room place within = elim (cases_eq (place % interval_frames c spec) (phase_of c spec p)) [
    | inl nominal ↦ (
        let here : place % w.interval ≡ phase = ap (λ n. place % n) wanted.interval ∙ nominal ∙ at in
        let same : place ≡ phase + place / w.interval * w.interval = frame-of w.interval phase lt place here in
        let low = index-within w.interval phase lt c.cycle place sought.divides within in
        let free = subst (λ k. get_or counts k 0 + w.grants ≤ MAX_SPOTS) (sym same) (room (place / w.interval) low) in
        omega (arith, free, counted place within, starts-most c spec p place, wanted.grants))
    | inr differ ↦ rw (ne_eqb (place % interval_frames c spec) (phase_of c spec p) differ) (omega (arith, few place))
  ]

  -- and the other way round
  pub room-of-few : HasLawfulStarts c spec p (λ place. spots_in c place table) → HasFewStarts c table spec p
      → HasRoomAt c counts w phase
  room-of-few starts few index within =
      let place = phase + index * w.interval in
      let low = frame-within w.interval phase lt c.cycle index sought.divides within in
      let nominal : place % interval_frames c spec ≡ phase_of c spec p =
      ap (λ n. place % n) (sym wanted.interval) ∙ frame-phase w.interval phase lt index ∙ sym at in
      let own = (starts.each place low nominal).count in
      omega (arith, few place low, counted place low, own, wanted.grants)

-- frames of a phase at two indices are not the same
apart : (phase interval i index : ℕ) → 0 < interval → i < index → phase + i * interval ≢ phase + index * interval
apart phase interval i index some less same = absurd (omega (arith, group-fits interval i index less, same))

module _ (c : Config) (f : Placed) (taken : Bool) (old counts : List ℕ) (phase interval index n : ℕ)
    (some : 0 < interval) (below : phase + index * interval < length counts)
    (are : AreCountedTo c f taken old counts phase interval index) where
  abbrev this : ℕ
  this = phase + index * interval

  -- the count of the next frame is as it was
  pub count-before : get_or counts this 0 ≡ get_or old this 0
  count-before = are.rest this (λ i less same. apart phase interval i index some less (sym same))

  -- a flow's starts are counted in one frame more
  pub counted-more : AreCounted taken (get_or counts this 0) (length (spots_of c this f)) n
      → AreCountedTo c f taken old (set counts this n) phase interval (index + 1)
  counted-more is = record {
    counted = λ i lt. elim (cases_eq i index) [
      | inl same ↦ (
          let here = subst (λ m. AreCounted taken m (length (spots_of c this f)) n) count-before is in
          subst (λ k. AreCounted taken (get_or old (phase + k * interval) 0)
          (length (spots_of c (phase + k * interval) f)) (get_or (set counts this n) (phase + k * interval) 0))
          (sym same)
          (subst (AreCounted taken (get_or old this 0) (length (spots_of c this f)))
          (sym (get_or-set_at counts this this n 0 refl below)) here))
      | inr other ↦ (
          let less : i < index = omega (arith, other) in
          subst (AreCounted taken (get_or old (phase + i * interval) 0) (length (spots_of c (phase + i * interval) f)))
          (sym (get_or-set_other counts this (phase + i * interval) n 0 (apart phase interval i index some less)))
          (are.counted i less))
    ];
    rest = λ j none. get_or-set_other counts this j n 0 (none index (omega arith))
        ∙ are.rest j (λ i less. none i (omega (arith, less)));
  }

none-counted : (taken : Bool) (old starts new : ℕ) → starts ≡ 0 → new ≡ old → AreCounted taken old starts new
none-counted true old starts new none same = omega (arith, none, same)
none-counted false old starts new none same = omega (arith, none, same)

-- with the frames of its phase all frames of the cycle are counted
pub counted-all : (c : Config) (f : Placed) (taken : Bool) (old new : List ℕ) (phase interval place : ℕ)
    → phase < interval → c.cycle % interval ≡ 0 → interval ≡ interval_frames c f.spec
    → phase ≡ phase_of c f.spec f.placement
    → AreCountedTo c f taken old new phase interval (c.cycle / interval) → place < c.cycle
    → AreCounted taken (get_or old place 0) (length (spots_of c place f)) (get_or new place 0)
counted-all c f taken old new phase interval place lt divides frames at are within =
    elim (cases_eq (place % interval) phase) [
      | inl nominal ↦ subst
          (λ k. AreCounted taken (get_or old k 0) (length (spots_of c k f)) (get_or new k 0))
          (sym (frame-of interval phase lt place nominal))
          (are.counted (place / interval) (index-within interval phase lt c.cycle place divides within))
      | inr differ ↦ (
          let no = no-starts c f.spec f.placement place
          (λ here. differ (ap (λ n. place % n) frames ∙ here ∙ sym at)) in
          none-counted taken (get_or old place 0) (length (spots_of c place f)) (get_or new place 0)
          (count-here c place f within ∙ ap length no)
          (are.rest place
          (λ i less same. differ (ap (λ n. n % interval) same ∙ frame-phase interval phase lt i))))
    ]

module _ (c : Config) (f : Placed) (placed : List Placed) (counts : List ℕ) (are : AreCounts c placed counts) where
  -- where no frame has too many starts with a flow its starts may be counted
  pub may-count : HasFewStarts c placed f.spec f.placement → MayCount c f true counts
  may-count few place within = omega (arith, are place within, few place within, count-here c place f within)

  -- with them counted the counts are those with the flow
  pub counts-with : (new : List ℕ) → ((place : ℕ) → place < c.cycle
      → AreCounted true (get_or counts place 0) (length (spots_of c place f)) (get_or new place 0))
      → AreCounts c (with_placed f placed) new
  counts-with new more place within =
      let here : get_or new place 0 ≡ get_or counts place 0 + length (spots_of c place f) = more place within in
      omega (arith, here, are place within, spots-with c place f placed)
