-- Bounds of the free minislots in a row: as minislots are marked, as a search finds none, and as they turn it away.
use Rattle.std.proofs.Common.{◌≡◌, sym, ◌∙◌, subst, ℕ, ◌+◌, ◌-◌, ◌*◌, ◌/◌, ◌%◌, ◌<◌, ◌≤◌, ◌⊎◌, min, max}
use Rattle.std.proofs.Common.{List, [], ◌∷◌, length, get_or, set, replicate, inl, inr, arith}
use Rattle.std.proofs.lemmas.Bool.{cases_lt, cases_eq}
use Rattle.std.proofs.lemmas.Grind.{get_or-set_at}
use Rattle.std.proofs.lemmas.List.{get_or-set_other, get_or-replicate}
use Rattle.std.proofs.Math.Nat.{mod-eq_of_lt}
use Rattle.minislots.specs.declared.config.Config.{Config}
use Rattle.periodic.specs.declared.bits.Bits.{Bits}
use Rattle.periodic.specs.declared.search.Wanted.{Wanted}
use Rattle.periodic.specs.Bits.{bit_of, IsClear}
use Rattle.periodic.specs.Placement.{group_at}
use Rattle.periodic.specs.Rows.{no_bits, row_at, HaveAtMost, AreBounds}
use Rattle.periodic.specs.Search.{CanBeSought, IsFreeStart, IsStartOf, AreStartsIn, NoneBelow, HasRoomAt, NonePhase}
use Rattle.periodic.proofs.Groups.{frame-within}

module _ (c : Config) (start end most : ℕ) (old new : List ℕ)
    (outer : (m : ℕ) → (m < start) ⊎ (end ≤ m) → bit_of new m ≡ bit_of old m) (are : HaveAtMost c old most)
    (short : c.frame ≤ 1024) where
  -- a bound stays one where minislots are marked as taken
  pub taken-bounded : ((m : ℕ) → m < 1024 → start ≤ m → m < end → bit_of new m ≡ 1) → HaveAtMost c new most
  taken-bounded inner from slots after within clear =
      are from slots after within (λ m begun lt. elim (cases_lt m start) [
        | inl early ↦ sym (outer m (inl early)) ∙ clear m begun lt
        | inr later ↦ elim (cases_lt m end) [
          | inl inside ↦ absurd (omega (arith, inner m (omega arith) later inside, clear m begun lt))
          | inr past ↦ sym (outer m (inr past)) ∙ clear m begun lt
        ]
      ])

  -- where minislots are marked as free, a row of free ones that has some of them goes no further than the next that is
  -- taken, and begins no further before them than the old bound
  pub freed-bounded : (reached taken : ℕ)
      → ((m : ℕ) → c.req_slots ≤ m → m < start → start < 1024 → IsClear new m (start - m) → most ≤ reached)
      → min end 1024 ≤ taken → (taken < 1024 → bit_of new taken ≡ 1)
      → HaveAtMost c new (min (max (reached + (min taken c.frame - start)) most) 1024)
  freed-bounded reached taken reaches low wall from slots after within clear =
      elim (cases_lt start (from + slots)) [
        | inr before ↦ (
            let old-run = are from slots after within
            (λ m begun lt. sym (outer m (inl (omega arith))) ∙ clear m begun lt) in
            omega (arith, old-run))
        | inl over ↦ elim (cases_lt from end) [
          | inr behind ↦ (
              let old-run = are from slots after within
              (λ m begun lt. sym (outer m (inr (omega arith))) ∙ clear m begun lt) in
              omega (arith, old-run))
          | inl meets ↦ (
              let to : from + slots ≤ taken = elim (cases_lt taken (from + slots)) [
                | inl lt ↦ absurd (omega (arith, wall (omega arith), clear taken (omega arith) lt))
                | inr ge ↦ ge
              ] in
              elim (cases_lt from start) [
                | inr inside ↦ omega arith
                | inl left ↦ (
                    let part = are from (start - from) after (omega arith)
                    (λ m begun lt. sym (outer m (inl (omega arith))) ∙ clear m begun (omega arith)) in
                    let reach = reaches from after left (omega arith)
                    (λ m begun lt. clear m begun (omega arith)) in
                    omega (arith, part, reach))
              ])
        ]
      ]

-- where nothing is free for so many, fewer are a bound
pub none-bounded : (c : Config) (words : List ℕ) (slots : ℕ)
    → ((start : ℕ) → IsFreeStart words c.frame slots c.req_slots start → ⊥) → HaveAtMost c words (slots - 1)
none-bounded c words slots none from run after within clear = elim (cases_lt run slots) [
  | inl fewer ↦ omega arith
  | inr more ↦ absurd (none from (record {
    after = after;
    within = omega arith;
    clear = λ m begun lt. clear m begun (omega arith);
  }))
]

module _ (c : Config) (rows : List Bits) (most : List ℕ) (are : AreBounds c rows most) (place n : ℕ)
    (below : place < length most) where
  -- a bound of one frame may take the place of its bound
  pub bound-set : HaveAtMost c (row_at c rows place) n → AreBounds c rows (set most place n)
  bound-set here k lt = elim (cases_eq k place) [
    | inl same ↦ subst (HaveAtMost c (row_at c rows k)) (sym (get_or-set_at most place k n 0 same below))
        (subst (λ j. HaveAtMost c (row_at c rows j) n) (sym same) here)
    | inr other ↦ subst (HaveAtMost c (row_at c rows k)) (sym (get_or-set_other most place k n 0 other)) (are k lt)
  ]

  -- with the words that it is a bound of
  pub row-set : (row : Bits) → length rows ≡ c.cycle → place < c.cycle → HaveAtMost c row.words n
      → AreBounds c (set rows place row) (set most place n)
  row-set row long within here k lt =
      let at : k % c.cycle ≡ k = mod-eq_of_lt lt in
      elim (cases_eq k place) [
        | inl same ↦ (
            let there = get_or-set_at rows place k row no_bits same (omega (arith, long)) in
            subst (λ j. HaveAtMost c (get_or (set rows place row) j no_bits).words (get_or (set most place n) k 0))
            (sym at)
            (subst (λ (b : Bits). HaveAtMost c b.words (get_or (set most place n) k 0)) (sym there)
            (subst (HaveAtMost c row.words) (sym (get_or-set_at most place k n 0 same below)) here)))
        | inr other ↦ (
            let there = get_or-set_other rows place k row no_bits other in
            let kept = subst (λ j. HaveAtMost c (get_or rows j no_bits).words (get_or most k 0)) at (are k lt) in
            subst (λ j. HaveAtMost c (get_or (set rows place row) j no_bits).words (get_or (set most place n) k 0))
            (sym at)
            (subst (λ (b : Bits). HaveAtMost c b.words (get_or (set most place n) k 0)) (sym there)
            (subst (HaveAtMost c (get_or rows k no_bits).words) (sym (get_or-set_other most place k n 0 other)) kept)))
      ]

-- in the longest frame no more than all is free
pub open-bounds : (c : Config) (rows : List Bits) → c.frame ≤ 1024 → c.cycle ≤ 64
    → AreBounds c rows (replicate 64 1024)
open-bounds c rows short few k lt =
    rw (get_or-replicate {A = ℕ} 64 k 1024 0 (omega arith)) (λ from slots after within clear. omega arith)

-- some start is the first of those in a frame
first-start : (c : Config) (w : Wanted) (offset : ℕ) (words starts : List ℕ) → 0 < w.grants
    → AreStartsIn c w offset words starts → (start : ℕ) × IsStartOf c w offset words start
first-start c w offset words [] some are = absurd (omega (arith, are.count))
first-start c w offset words (start ∷ starts) some are = (start, are.each.0)

-- where a frame of a phase has no room, the phase has no starts
pub turned-away : (c : Config) (rows : List Bits) (most : List ℕ) (w : Wanted) (phase index : ℕ)
    → AreBounds c rows most → CanBeSought c w → phase < w.interval → index < c.cycle / w.interval
    → get_or most (phase + index * w.interval) 0 < w.slots → NoneBelow c rows w phase c.frame
turned-away c rows most w phase index bounds sought lt within narrow offset after below starts are =
    let place = phase + index * w.interval in
    let low = frame-within w.interval phase lt c.cycle index sought.divides within in
    let first = first-start c w offset (row_at c rows place) (group_at w.grants index starts) sought.grants_positive
    (are.each index within) in
    let free = first.1.free in
    omega (arith, narrow, bounds place low first.0 w.slots (omega (arith, after, free.after)) free.within free.clear)

-- one phase more has none
pub none-more : (c : Config) (rows : List Bits) (counts : List ℕ) (w : Wanted) (phase : ℕ)
    → NonePhase c rows counts w phase → (HasRoomAt c counts w phase → NoneBelow c rows w phase c.frame)
    → NonePhase c rows counts w (phase + 1)
none-more c rows counts w phase before here other lt = elim (cases_lt other phase) [
  | inl early ↦ before other early
  | inr late ↦ (
      let same : phase ≡ other = omega arith in
      subst (λ n. HasRoomAt c counts w n → NoneBelow c rows w n c.frame) same here)
]
