-- The bits of a flow's spots are marked, frame after frame.
use Rattle.std.proofs.Common.{◌≡◌, refl, sym, ◌∙◌, subst, ℕ, ◌+◌, ◌%◌, ◌<◌, ◌≤◌, ◌⊎◌, List, [], ◌∷◌, ◌++◌}
use Rattle.std.proofs.Common.{length, get_or, set, replicate, inl, inr, arith}
use Rattle.std.proofs.lemmas.Bool.{cases_lt}
use Rattle.std.proofs.lemmas.Grind.{get_or-set_at}
use Rattle.std.proofs.lemmas.List.{get_or-set_other, get_or-replicate, length-set, length-replicate}
use Rattle.minislots.specs.declared.config.Config.{Config}
use Rattle.periodic.specs.declared.bits.Bits.{Bits}
use Rattle.periodic.specs.declared.placement.Spot.{Spot}
use Rattle.periodic.specs.Bits.{bit_of}
use Rattle.periodic.specs.Placement.{Placed, spots_of}
use Rattle.periodic.specs.Rows.{no_bits, row_at, IsOutside, HasBits, AreRowsOf, AreMarked, AreMarkedTo}
use Rattle.periodic.proofs.Frames.{spots_of-place}
use Rattle.periodic.proofs.Joined.{all-append, all-left, all-right, all-weaker}

-- rows of free minislots tell of no flow
pub none-told : (c : Config) (row : Bits) (n : ℕ) → n ≡ c.cycle → 0 < c.cycle → ((m : ℕ) → bit_of row.words m ≡ 0)
    → AreRowsOf c [] (replicate n row)
none-told c row n long some free = record {
  long = length-replicate n row ∙ long;
  each = λ k. record {
    free = λ m lt clear. tt;
    clear = λ m lt out. rw (row_at, get_or-replicate n (k % c.cycle) row no_bits (omega (arith, long))) (free m);
  };
}

-- nothing is marked yet
pub none-marked : (bit : ℕ) (words : List ℕ) → AreMarked [] bit words words
none-marked bit words = record { inside = tt; outside = λ m out. refl }

module _ (bit start end : ℕ) (mid new : List ℕ)
    (inner : (m : ℕ) → m < 1024 → start ≤ m → m < end → bit_of new m ≡ bit)
    (outer : (m : ℕ) → (m < start) ⊎ (end ≤ m) → bit_of new m ≡ bit_of mid m) where
  -- the bits of spots stay as they were marked
  has-bits-still : (s : Spot) → HasBits bit mid s → HasBits bit new s
  has-bits-still s has m lt from to = elim (cases_lt m start) [
    | inl before ↦ outer m (inl before) ∙ has m lt from to
    | inr begun ↦ elim (cases_lt m end) [
      | inl within ↦ inner m lt begun within
      | inr after ↦ outer m (inr after) ∙ has m lt from to
    ]
  ]

  -- one spot more is marked
  pub marked-push : (spots : List Spot) (s : Spot) (old : List ℕ) → start ≡ s.offset → end ≡ s.offset + s.slots
      → AreMarked spots bit old mid → AreMarked (spots ++ s ∷ []) bit old new
  marked-push spots s old from to are = record {
    inside = all-append (HasBits bit new) spots (s ∷ [])
        (all-weaker (HasBits bit mid) (HasBits bit new) has-bits-still spots are.inside)
        (λ m lt begun within. inner m lt (omega arith) (omega arith), tt);
    outside = λ m out.
        let here = (all-right (IsOutside m) spots (s ∷ []) out).0 in
        outer m (elim here [ inl before ↦ inl (omega arith) | inr after ↦ inr (omega arith) ])
        ∙ are.outside m (all-left (IsOutside m) spots (s ∷ []) out);
  }

module _ (c : Config) (f : Placed) (bit : ℕ) (old rows : List Bits) where
  -- no frame is marked yet
  pub marked-none : length rows ≡ c.cycle → AreMarkedTo c f bit rows rows 0
  marked-none long = record { long = long; marked = λ j lt. absurd (omega arith); rest = λ j le. refl }

  -- one frame more is marked
  pub marked-more : (place : ℕ) (row : Bits) → place < c.cycle → AreMarkedTo c f bit old rows place
      → AreMarked (spots_of c place f) bit (get_or rows place no_bits).words row.words
      → AreMarkedTo c f bit old (set rows place row) (place + 1)
  marked-more place row lt is here = record {
    long = length-set rows place row ∙ is.long;
    marked = λ j below. elim (cases_lt j place) [
      | inl early ↦ subst (λ (b : Bits). AreMarked (spots_of c j f) bit (get_or old j no_bits).words b.words)
          (sym (get_or-set_other rows place j row no_bits (λ same. absurd (omega arith)))) (is.marked j early)
      | inr late ↦ (
          let same : j ≡ place = omega arith in
          let new = get_or-set_at rows place j row no_bits same (omega (arith, is.long)) in
          let kept = is.rest place (omega arith) in
          subst (λ n. AreMarked (spots_of c n f) bit (get_or old n no_bits).words
          (get_or (set rows place row) j no_bits).words)
          (sym same)
          (subst (λ (b : Bits). AreMarked (spots_of c place f) bit (get_or old place no_bits).words b.words) (sym new)
          (subst (λ (b : Bits). AreMarked (spots_of c place f) bit b.words row.words) kept here)))
    ];
    rest = λ j le.
        get_or-set_other rows place j row no_bits (λ same. absurd (omega arith)) ∙ is.rest j (omega arith);
  }

  -- all frames are marked
  pub marked-all : (place k : ℕ) → 0 < c.cycle → c.cycle ≤ place → AreMarkedTo c f bit old rows place
      → AreMarked (spots_of c k f) bit (row_at c old k) (row_at c rows k)
  marked-all place k some le is =
      let in_cycle : k % c.cycle < c.cycle = omega arith in
      subst (λ ss. AreMarked ss bit (row_at c old k) (row_at c rows k)) (spots_of-place c k f)
      (is.marked (k % c.cycle) (omega arith))
