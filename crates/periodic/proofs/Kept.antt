-- A flow keeps its placement, with other parameters and a reference that is told anew.
use Rattle.std.proofs.Common.{◌≡◌, refl, sym, ap, ◌∙◌, ℕ, ◌+◌, ◌*◌, ◌/◌, ◌%◌, ◌<◌, ◌≤◌, true, false, not, ◌==◌}
use Rattle.std.proofs.Common.{nat_lt, List, [], ◌∷◌, ◌++◌, length, None, inl, inr, arith, mul-add, mul_comm}
use Rattle.std.proofs.Math.Nat.{mul-le-mul_left}
use Rattle.std.proofs.lemmas.Bool.{cases_lt, cases_Bool}
use Rattle.std.proofs.lemmas.Nat.{div-add-mod'}
use Rattle.minislots.specs.declared.config.Config.{Config}
use Rattle.sched_calls.specs.declared.spec.FlowSpec.{FlowSpec}
use Rattle.sched_calls.specs.FlowSpec.{has_place_of, interval_frames, grants_of, first_fault}
use Rattle.sched_calls.specs.declared.placement.Placement.{Placement}
use Rattle.sched_calls.proofs.Insertion.{all-put_in, ascends-put_in, length-put_in}
use Rattle.periodic.specs.declared.bits.Bits.{Bits}
use Rattle.periodic.specs.declared.group.Group.{Group}
use Rattle.periodic.specs.declared.spots.PlacedFlow.{PlacedFlow}
use Rattle.periodic.specs.Placement.{Placed, phase_of, spots_of, spots_in, IsToldFrom}
use Rattle.periodic.specs.Search.{IsReference}
use Rattle.periodic.specs.Table.{placed_grants, placed_at, with_placed, without, IsSoundPlaced, AreSound}
use Rattle.periodic.specs.Fields.{placed_of, IsSoundFlow}
use Rattle.periodic.specs.Groups.{placed_in, AreSoundGroups, HaveFlows, AreSoundFields}
use Rattle.periodic.proofs.Adding.{grants-with}
use Rattle.periodic.proofs.Among.{StandsAmong, gone}
use Rattle.periodic.proofs.Removing.{sound-filter}
use Rattle.periodic.proofs.Told.{ArePlacedAlike, alike-placed, spots-told, sound-told}

same_rest : (f m n : ℕ) → m % f ≡ n % f → 0 < f → m < n → m + f ≤ n
same_rest f m n same some less = elim (cases_lt (m / f) (n / f)) [
  | inl lower ↦ (let next : m / f + 1 ≤ n / f = omega arith in
      omega (arith, mul-le-mul_left {m = m / f + 1} {n = n / f} f next, mul-add f (m / f) 1))
  | inr upper ↦ absurd (omega (arith, mul-le-mul_left {m = n / f} {n = m / f} f upper))
]

not-below : (w f next r s : ℕ) → 0 < f → r / w % f ≡ s / w % f → r % w ≡ s % w → next ≤ r → s < next + f * w
    → r / w < s / w → ⊥
not-below w f next r s some phase offset low high less =
    let far = same_rest f (r / w) (s / w) phase some less in
    omega (
      arith,
      mul-le-mul_left {m = r / w + f} {n = s / w} w far,
      mul-add w (r / w) f,
      mul_comm f w,
      mul_comm w (r / w),
      mul_comm w (s / w),
      div-add-mod' r w,
      div-add-mod' s w,
      offset,
      low,
      high,
    )

-- there is one reference
pub one-reference : (c : Config) (f next phase offset r s : ℕ) → 0 < f → IsReference c f next phase offset r
    → IsReference c f next phase offset s → r ≡ s
one-reference c f next phase offset r s some is other =
    let w = c.frame in
    let rests = is.offset_is ∙ sym other.offset_is in
    elim (cases_lt (r / w) (s / w)) [
      | inl less ↦ absurd
          (not-below w f next r s some (is.phase_is ∙ sym other.phase_is) rests is.not_before other.first less)
      | inr reached ↦ elim (cases_lt (s / w) (r / w)) [
        | inl less ↦ absurd
            (not-below w f next s r some (other.phase_is ∙ sym is.phase_is) (sym rests) other.not_before is.first less)
        | inr same ↦ (
            let frames : r / w ≡ s / w = omega arith in
            let times = ap (λ n. n * w) frames in
            omega (arith, times, div-add-mod' r w, div-add-mod' s w, rests))
      ]
    ]

module _ (c : Config) (f : PlacedFlow) (spec : FlowSpec) (next : ℕ) (sound : IsSoundFlow c f)
    (same : has_place_of f.spec spec ≡ true) where
  abbrev alike : ArePlacedAlike c f.spec spec
  alike = alike-placed c f.spec spec same

  interval-is : interval_frames c spec ≡ f.interval
  interval-is = alike.interval ∙ sym sound.times.interval

  stands-phase : phase_of c spec f.placement ≡ f.phase
  stands-phase = ap (λ n. f.placement.reference / c.frame % n) alike.interval ∙ sym sound.times.phase

  -- a placement is told where its reference is the first nominal time
  pub told-by : (p : Placement) → p.starts ≡ f.placement.starts
      → IsReference c f.interval next f.phase (f.placement.reference % c.frame) p.reference
      → IsToldFrom c spec next f.placement p
  told-by p starts is = record {
    starts = starts;
    not_before = is.not_before;
    first = rw interval-is is.first;
    phase = ap (λ n. p.reference / c.frame % n) interval-is ∙ is.phase_is ∙ sym stands-phase;
    offset = is.offset_is;
  }

  -- and the other way round
  pub reference-told : (p : Placement) → IsToldFrom c spec next f.placement p
      → IsReference c f.interval next f.phase (f.placement.reference % c.frame) p.reference
  reference-told p told = record {
    not_before = told.not_before;
    first = rw (← interval-is) told.first;
    phase_is = ap (λ n. p.reference / c.frame % n) (sym interval-is) ∙ told.phase ∙ stands-phase;
    offset_is = told.offset;
  }

-- A flow of the same SID takes the same as another, with as many grants
pub record TakesAlike (c : Config) (f q : Placed) : Type 0 where
  pub own : q.sid ≡ f.sid
  pub spots : (k : ℕ) → spots_of c k q ≡ spots_of c k f
  pub grants : grants_of q.spec ≡ grants_of f.spec

spots-alike : (c : Config) (k : ℕ) (f q : Placed) → TakesAlike c f q → (others : List Placed)
    → spots_in c k (with_placed q others) ≡ spots_in c k (with_placed f others)
spots-alike c k f q alike [] = ap (λ ss. ss ++ []) (alike.spots k)
spots-alike c k f q alike (g ∷ others) =
    elim (cases_Bool (nat_lt f.sid g.sid)) [
      | inl low ↦ (
          let same : nat_lt q.sid g.sid ≡ true = rw alike.own low in
          rw (low, same) (ap (λ ss. ss ++ (spots_of c k g ++ spots_in c k others)) (alike.spots k)))
      | inr high ↦ (
          let same : nat_lt q.sid g.sid ≡ false = rw alike.own high in
          rw (high, same) (ap (λ ss. spots_of c k g ++ ss) (spots-alike c k f q alike others)))
    ]

module _ (c : Config) (sid : ℕ) (f q : Placed) (placed : List Placed) (alike : TakesAlike c f q)
    (stands : StandsAmong sid f placed) where
  abbrev others : List Placed
  others = without sid placed

  -- in its place it leaves what all take
  kept-spots : (k : ℕ) → spots_in c k (with_placed q others) ≡ spots_in c k placed
  kept-spots k = spots-alike c k f q alike others ∙ ap (spots_in c k) (sym stands.back)

  kept-grants : placed_grants (with_placed q others) ≡ placed_grants placed
  kept-grants =
      omega (arith, grants-with q others, grants-with f others, alike.grants, ap placed_grants stands.back)

  kept-length : length (with_placed q others) ≡ length placed
  kept-length =
      length-put_in (λ (g : Placed). g.sid) q others ∙ sym (length-put_in (λ (g : Placed). g.sid) f others)
      ∙ ap length (sym stands.back)

  kept-sound : AreSound c placed → IsSoundPlaced c q → AreSound c (with_placed q others)
  kept-sound are sound =
      let left = sound-filter c (λ g. not (g.sid == sid)) placed are in
      record {
        ascending = ascends-put_in (λ g. g.sid) q others (rw (alike.own, stands.own) (gone sid placed)) left.ascending;
        most = omega (arith, kept-grants, are.most);
        each = all-put_in (λ g. g.sid) (IsSoundPlaced c) q others sound left.each;
        apart = λ k. rw (kept-spots k) (are.apart k);
        few = λ k. rw (kept-spots k) (are.few k);
      }

-- so the fields stay sound with it in the place of the other
pub fields-kept : (c : Config) (sid : ℕ) (f q : Placed) (groups new : List Group) (rows : List Bits)
    (most counts : List ℕ) (grants len : ℕ) → TakesAlike c f q → StandsAmong sid f (placed_in groups)
    → IsSoundPlaced c q → placed_in new ≡ with_placed q (without sid (placed_in groups)) → AreSoundGroups c new
    → HaveFlows new → AreSoundFields c groups rows most counts grants len
    → AreSoundFields c new rows most counts grants len
fields-kept c sid f q groups new rows most counts grants len alike stands sound is each filled are =
    let placed = placed_in groups in
    record {
      sound = rw is (kept-sound c sid f q placed alike stands are.sound sound);
      each = each;
      filled = filled;
      told = record {
        long = are.told.long;
        each = λ k. rw (is, kept-spots c sid f q placed alike stands k) (are.told.each k);
      };
      bounded = are.bounded;
      counted = λ place low. rw (is, kept-spots c sid f q placed alike stands place) (are.counted place low);
      summed = rw (is, kept-grants c sid f q placed alike stands) are.summed;
      long = rw (is, kept-length c sid f q placed alike stands) are.long;
    }

-- a flow with the placement that it was told takes what it took
pub told-alike : (c : Config) (f : PlacedFlow) (spec : FlowSpec) (p : Placement) (next : ℕ) → IsSoundFlow c f
    → has_place_of f.spec spec ≡ true → IsToldFrom c spec next f.placement p
    → TakesAlike c (placed_of f) (placed_at f.sid spec p)
told-alike c f spec p next sound same told =
    let alike = alike-placed c f.spec spec same in
    record {
      own = refl;
      spots = λ k. spots-told c f.spec spec f.placement p next alike told k f.sid (placed_of f) refl refl refl;
      grants = alike.grants;
    }

-- and its fields are sound with that
pub told-sound : (c : Config) (f g : PlacedFlow) (spec : FlowSpec) (p : Placement) (next : ℕ) → IsSoundFlow c f
    → has_place_of f.spec spec ≡ true → IsToldFrom c spec next f.placement p → first_fault c spec ≡ None
    → g ≡ record f { spec = spec; placement = p; rests = false } → IsSoundFlow c g
told-sound c f g spec p next sound same told none made =
    let alike = alike-placed c f.spec spec same in
    let times = sound.times in
    rw made (record {
      sound = sound-told c f.spec spec f.placement p next alike told (placed_of f) refl refl none sound.sound;
      times = record {
        lawful = times.lawful;
        interval = times.interval ∙ sym alike.interval;
        phase = sym (told.phase ∙ stands-phase c f spec next sound same);
        slots = times.slots ∙ sym alike.slots;
        grants = times.grants ∙ sym alike.grants;
        poll_slots = times.poll_slots;
      };
    })
