-- There is one placement to take at most.
use Rattle.std.proofs.Common.{◌≡◌, refl, sym, ap, ◌∙◌, ℕ, zero, suc, ◌+◌, ◌*◌, ◌/◌, ◌%◌, ◌<◌, ◌≤◌, List, [], ◌∷◌}
use Rattle.std.proofs.Common.{◌++◌, length, take, drop, inl, inr, arith}
use Rattle.std.proofs.lemmas.Bool.{cases_lt}
use Rattle.std.proofs.lemmas.List.{take-append-drop, drop-drop, length-drop}
use Rattle.std.proofs.lemmas.Nat.{div-add-mod', mul-le}
use Rattle.minislots.specs.declared.config.Config.{Config}
use Rattle.sched_calls.specs.declared.spec.FlowSpec.{FlowSpec}
use Rattle.sched_calls.specs.FlowSpec.{interval_frames, grants_of}
use Rattle.sched_calls.specs.declared.placement.Placement.{Placement}
use Rattle.periodic.specs.Placement.{Placed, phase_of, offset_of, group_at, starts_in}
use Rattle.periodic.specs.Choice.{AreEarlier, IsChosen}
use Rattle.periodic.proofs.Choosing.{starts-at}
use Rattle.periodic.proofs.Groups.{frame-phase, frame-index, frame-within}

-- two lists of one length, none of which is earlier than the other, are the same
none-earlier-same : (xs ys : List ℕ) → length xs ≡ length ys → (AreEarlier xs ys → ⊥) → (AreEarlier ys xs → ⊥)
    → xs ≡ ys
none-earlier-same [] [] long left right = refl
none-earlier-same [] (y ∷ ys) long left right = absurd (omega (arith, long))
none-earlier-same (x ∷ xs) [] long left right = absurd (omega (arith, long))
none-earlier-same (x ∷ xs) (y ∷ ys) long left right = elim (cases_lt x y) [
  | inl lower ↦ absurd (left (inl lower))
  | inr high ↦ elim (cases_lt y x) [
    | inl lower ↦ absurd (right (inl lower))
    | inr low ↦ (
        let same : x ≡ y = omega (arith, high, low) in
        let rest = none-earlier-same xs ys (omega (arith, long)) (λ is. left (inr (same, is)))
        (λ is. right (inr (sym same, is))) in
        λ i. same i ∷ rest i)
  ]
]

-- a list without members
none-left : (xs : List ℕ) → length xs ≡ 0 → xs ≡ []
none-left [] e = refl
none-left (x ∷ xs) e = absurd (omega (arith, e))

-- the group behind the first one
group-next : (size index : ℕ) (xs : List ℕ) → group_at size index (drop size xs) ≡ group_at size (index + 1) xs
group-next size index xs =
    let next : size + index * size ≡ (index + 1) * size = omega arith in
    ap (take size) (drop-drop (index * size) size xs ∙ ap (λ n. drop n xs) next)

-- lists of so many groups that are the same are the same
groups-same : (size count : ℕ) (xs ys : List ℕ) → length xs ≡ count * size → length ys ≡ count * size
    → ((index : ℕ) → index < count → group_at size index xs ≡ group_at size index ys) → xs ≡ ys
groups-same size zero xs ys left right same =
    none-left xs (omega (arith, left)) ∙ sym (none-left ys (omega (arith, right)))
groups-same size (suc n) xs ys left right same =
    let more : suc n * size ≡ size + n * size = omega arith in
    let rest = groups-same size n (drop size xs) (drop size ys)
    (omega (arith, left, more, length-drop size xs)) (omega (arith, right, more, length-drop size ys))
    (λ index within.
    group-next size index xs ∙ same (index + 1) (omega (arith, within)) ∙ sym (group-next size index ys)) in
    let none : 0 ≡ 0 * size = omega arith in
    let head : take size xs ≡ take size ys =
    ap (λ n. take size (drop n xs)) none ∙ same 0 (omega arith) ∙ ap (λ n. take size (drop n ys)) (sym none) in
    sym (take-append-drop size xs) ∙ (λ i. head i ++ rest i) ∙ take-append-drop size ys

-- of times at least an interval apart one is not within an interval from the least on
interval-apart : (w f a b : ℕ) → a / w % f ≡ b / w % f → a % w ≡ b % w → a / w / f < b / w / f → a + f * w ≤ b
interval-apart w f a b phase offset lower =
    let frames = mul-le (a / w / f + 1) f (b / w / f) f (omega (arith, lower)) (omega arith) in
    let far : a / w + f ≤ b / w =
    omega (arith, frames, phase, div-add-mod' (a / w) f, div-add-mod' (b / w) f) in
    let slots = mul-le (a / w + f) w (b / w) w far (omega arith) in
    omega (arith, slots, offset, div-add-mod' a w, div-add-mod' b w)

-- there is one first nominal time of a phase and an offset
one-reference : (w f next a b : ℕ) → next ≤ a → a < next + f * w → next ≤ b → b < next + f * w
    → a / w % f ≡ b / w % f → a % w ≡ b % w → a ≡ b
one-reference w f next a b from_a to_a from_b to_b phase offset = elim (cases_lt (a / w / f) (b / w / f)) [
  | inl lower ↦ absurd (omega (arith, interval-apart w f a b phase offset lower, to_b, from_a))
  | inr high ↦ elim (cases_lt (b / w / f) (a / w / f)) [
    | inl lower ↦ absurd (omega (arith, interval-apart w f b a (sym phase) (sym offset) lower, to_a, from_b))
    | inr low ↦ (
        let turn : a / w / f ≡ b / w / f = omega (arith, high, low) in
        let frame : a / w ≡ b / w =
        omega (arith, ap (λ n. n * f) turn, phase, div-add-mod' (a / w) f, div-add-mod' (b / w) f) in
        omega (arith, ap (λ n. n * w) frame, offset, div-add-mod' a w, div-add-mod' b w))
  ]
]

module _ (c : Config) (table : List Placed) (spec : FlowSpec) (next : ℕ) (p q : Placement)
    (first : IsChosen c table spec next p) (second : IsChosen c table spec next q) where
  -- two placements that are taken have one phase
  one-phase : phase_of c spec p ≡ phase_of c spec q
  one-phase = elim (cases_lt (phase_of c spec p) (phase_of c spec q)) [
    | inl lower ↦ absurd (second.first p first.lawful (inl lower))
    | inr high ↦ elim (cases_lt (phase_of c spec q) (phase_of c spec p)) [
      | inl lower ↦ absurd (first.first q second.lawful (inl lower))
      | inr low ↦ omega (arith, high, low)
    ]
  ]

  -- and one offset
  one-offset : offset_of c p ≡ offset_of c q
  one-offset = elim (cases_lt (offset_of c p) (offset_of c q)) [
    | inl lower ↦ absurd (second.first p first.lawful (inr (one-phase, inl lower)))
    | inr high ↦ elim (cases_lt (offset_of c q) (offset_of c p)) [
      | inl lower ↦ absurd (first.first q second.lawful (inr (sym one-phase, inl lower)))
      | inr low ↦ omega (arith, high, low)
    ]
  ]

  module _ (some : 0 < interval_frames c spec) (divides : c.cycle % interval_frames c spec ≡ 0) where
    -- and in each nominal frame the same starts
    one-group : (index : ℕ) → index < c.cycle / interval_frames c spec
        → group_at (grants_of spec) index p.starts ≡ group_at (grants_of spec) index q.starts
    one-group index within =
        let f = interval_frames c spec in
        let phase = phase_of c spec p in
        let place = phase + index * f in
        let lt : phase < f = omega (arith, some) in
        let here = frame-within f phase lt c.cycle index divides within in
        let nominal : place % f ≡ phase = frame-phase f phase lt index in
        let turn : place / f ≡ index = frame-index f phase lt index in
        let mine = first.lawful.starts.each place here nominal in
        let theirs = second.lawful.starts.each place here (nominal ∙ one-phase) in
        let same : starts_in c spec p place ≡ starts_in c spec q place =
        none-earlier-same (starts_in c spec p place) (starts_in c spec q place) (mine.count ∙ sym theirs.count)
        (λ is. second.first p first.lawful (inr (one-phase, inr (one-offset, (place, here, is)))))
        (λ is. first.first q second.lawful (inr (sym one-phase, inr (sym one-offset, (place, here, is))))) in
        ap (λ n. group_at (grants_of spec) n p.starts) (sym turn)
        ∙ sym (starts-at c spec p place nominal) ∙ same ∙ starts-at c spec q place (nominal ∙ one-phase)
        ∙ ap (λ n. group_at (grants_of spec) n q.starts) turn

    -- so there is one placement to take at most
    pub one-choice : p ≡ q
    one-choice =
        let reference = one-reference c.frame (interval_frames c spec) next p.reference q.reference
        first.lawful.not_before first.lawful.first second.lawful.not_before second.lawful.first one-phase one-offset in
        let starts = groups-same (grants_of spec) (c.cycle / interval_frames c spec) p.starts q.starts
        first.lawful.starts.count second.lawful.starts.count one-group in
        λ i. record { reference = reference i; starts = starts i }
