-- What rows of bits say of the spots of placed flows.
use Rattle.std.proofs.Common.{◌≡◌, sym, ◌∙◌, ℕ, ◌+◌, ◌<◌, ◌≤◌, ◌⊎◌}
use Rattle.std.proofs.Common.{nat_lt, List, [], ◌∷◌, inl, inr, arith}
use Rattle.std.specs.List.{AllByRecursion}
use Rattle.std.proofs.lemmas.Bool.{cond_both, cases_lt}
use Rattle.minislots.specs.declared.config.Config.{Config}
use Rattle.periodic.specs.declared.placement.Spot.{Spot}
use Rattle.periodic.specs.Bits.{bit_of}
use Rattle.periodic.specs.Placement.{Placed, spots_of, spots_in, AreFree}
use Rattle.periodic.specs.Table.{with_placed, IsWithinFrame}
use Rattle.periodic.specs.Rows.{IsOutside, TellsOf, HasBits, AreMarked}
use Rattle.periodic.proofs.Adding.{all-spots-with}
use Rattle.periodic.proofs.Joined.{all-append, all-left, all-right}

-- where many minislots are free, so is each
pub free-part : (spots : List Spot) (start slots m : ℕ) → AreFree spots start slots → start ≤ m → m < start + slots
    → AreFree spots m 1
free-part [] start slots m free from to = tt
free-part (s ∷ spots) start slots m free from to = (
  elim free.0 [ inl before ↦ inl (omega arith) | inr after ↦ inr (omega arith) ],
  free-part spots start slots m free.1 from to,
)

free-of : (s : Spot) (start slots : ℕ) → 0 < slots → 0 < s.slots
    → ((m : ℕ) → start ≤ m → m < start + slots → IsOutside m s)
    → (start + slots ≤ s.offset) ⊎ (s.offset + s.slots ≤ start)
free-of s start slots some filled each = elim (cases_lt s.offset (start + slots)) [
  | inr before ↦ inl before
  | inl reached ↦ elim (cases_lt start (s.offset + s.slots)) [
    | inr after ↦ inr after
    | inl begun ↦ elim (cases_lt start s.offset) [
      | inl early ↦ elim (each s.offset (omega arith) reached) [
        | inl low ↦ absurd (omega arith)
        | inr high ↦ absurd (omega arith)
      ]
      | inr late ↦ elim (each start (omega arith) (omega arith)) [
        | inl low ↦ absurd (omega arith)
        | inr high ↦ absurd (omega arith)
      ]
    ]
  ]
]

-- where each is free, so are all of them
pub free-whole : (c : Config) (spots : List Spot) (start slots : ℕ) → AllByRecursion (IsWithinFrame c) spots → 0 < slots
    → ((m : ℕ) → start ≤ m → m < start + slots → AreFree spots m 1) → AreFree spots start slots
free-whole c [] start slots within some each = tt
free-whole c (s ∷ spots) start slots within some each = (
  free-of s start slots some within.0.not_empty (λ m from to. (each m from to).0),
  free-whole c spots start slots within.1 some (λ m from to. (each m from to).1),
)

all-spots-out : (c : Config) (k : ℕ) (P : Spot → Type 0) (f : Placed) (placed : List Placed)
    → AllByRecursion P (spots_in c k (with_placed f placed))
    → AllByRecursion P (spots_of c k f) × AllByRecursion P (spots_in c k placed)
all-spots-out c k P f [] all = (all-left P (spots_of c k f) [] all, tt)
all-spots-out c k P f (g ∷ placed) all =
    cond_both (nat_lt f.sid g.sid) (f ∷ g ∷ placed) (g ∷ with_placed f placed)
    (λ fs. AllByRecursion P (spots_in c k fs)
    → AllByRecursion P (spots_of c k f) × AllByRecursion P (spots_in c k (g ∷ placed)))
    (λ low every. (
      all-left P (spots_of c k f) (spots_in c k (g ∷ placed)) every,
      all-right P (spots_of c k f) (spots_in c k (g ∷ placed)) every,
    ))
    (λ high every.
    let out = all-spots-out c k P f placed (all-right P (spots_of c k g) (spots_in c k (with_placed f placed)) every)
    in (
      out.0,
      all-append P (spots_of c k g) (spots_in c k placed)
          (all-left P (spots_of c k g) (spots_in c k (with_placed f placed)) every) out.1,
    ))
    all

-- a minislot whose bit is not set is outside of the spots whose bits were
outside-of-marked : (words : List ℕ) (m : ℕ) (spots : List Spot) → m < 1024 → bit_of words m ≡ 0
    → AllByRecursion (HasBits 1 words) spots → AreFree spots m 1
outside-of-marked words m [] lt clear marked = tt
outside-of-marked words m (s ∷ spots) lt clear marked = (
  elim (cases_lt m s.offset) [
    | inl before ↦ inl (omega arith)
    | inr begun ↦ elim (cases_lt m (s.offset + s.slots)) [
      | inl within ↦ absurd (omega (arith, clear, marked.0 m lt begun within))
      | inr after ↦ inr after
    ]
  ],
  outside-of-marked words m spots lt clear marked.1,
)

-- with its minislots marked as taken the bits tell of one flow more
pub tells-with : (c : Config) (k : ℕ) (f : Placed) (placed : List Placed) (old new : List ℕ)
    → TellsOf (spots_in c k placed) old → AreMarked (spots_of c k f) 1 old new
    → TellsOf (spots_in c k (with_placed f placed)) new
tells-with c k f placed old new tells marked = record {
  free = λ m lt clear.
      let here = outside-of-marked new m (spots_of c k f) lt clear marked.inside in
      all-spots-with c k (IsOutside m) f placed here (tells.free m lt (sym (marked.outside m here) ∙ clear));
  clear = λ m lt free.
      let out = all-spots-out c k (IsOutside m) f placed free in
      marked.outside m out.0 ∙ tells.clear m lt out.1;
}
