-- What rows of bits say of the spots of placed flows where one is taken out.
use Rattle.std.proofs.Common.{◌≡◌, refl, sym, ap, ◌∙◌, subst, ℕ, ◌+◌, ◌<◌, ◌≤◌, ◌⊎◌, Bool, true, false}
use Rattle.std.proofs.Common.{not, cond, ◌==◌, List, [], ◌∷◌, ◌++◌, find, Option, Some, inl, inr, arith}
use Rattle.std.specs.List.{AllByRecursion}
use Rattle.std.proofs.lemmas.Bool.{cases_lt}
use Rattle.std.proofs.lemmas.Bool.Decides.{nat_tests}
use Rattle.minislots.specs.declared.config.Config.{Config}
use Rattle.periodic.specs.declared.placement.Spot.{Spot}
use Rattle.periodic.specs.Bits.{bit_of}
use Rattle.periodic.specs.Placement.{Placed, spots_of, spots_in, AreFree}
use Rattle.periodic.specs.Table.{without, Ascend, IsApart, AreApart}
use Rattle.periodic.specs.Rows.{IsOutside, TellsOf, HasBits, AreMarked}
use Rattle.periodic.proofs.Adding.{AreBeside}
use Rattle.periodic.proofs.Joined.{all-append, all-left, all-right, all-weaker, all-both, all-turned}
use Rattle.periodic.proofs.Joined.{turned, apart-right, apart-between}
use Rattle.periodic.proofs.Removing.{all-spots-filter}

-- the first that is found stands at the head or behind it
pub found-cases : (b : Bool) (g f : Placed) (r : Option Placed) → cond b (Some g) r ≡ Some f
    → ((b ≡ true) × (g ≡ f)) ⊎ ((b ≡ false) × (r ≡ Some f))
found-cases true g f r is = inl (refl, cc)
found-cases false g f r is = inr (refl, is)

spots-of-found : (c : Config) (k sid : ℕ) (P : Spot → Type 0) (f : Placed) (placed : List Placed)
    → find (λ g. g.sid == sid) placed ≡ Some f → AllByRecursion P (spots_in c k placed)
    → AllByRecursion P (spots_of c k f)
spots-of-found c k sid P f [] found all = absurd (cc)
spots-of-found c k sid P f (g ∷ placed) found all =
    elim (found-cases (g.sid == sid) g f (find (λ h. h.sid == sid) placed) found) [
      | inl here ↦ subst (λ h. AllByRecursion P (spots_of c k h)) here.1
          (all-left P (spots_of c k g) (spots_in c k placed) all)
      | inr later ↦ spots-of-found c k sid P f placed later.1 (all-right P (spots_of c k g) (spots_in c k placed) all)
    ]

-- the others are apart from the spots of the flow that is taken out
apart-without : (c : Config) (k sid : ℕ) (f : Placed) (placed : List Placed)
    → find (λ g. g.sid == sid) placed ≡ Some f → AreApart (spots_in c k placed)
    → AreBeside c k (without sid placed) (spots_of c k f)
apart-without c k sid f [] found apart = absurd (cc)
apart-without c k sid f (g ∷ placed) found apart =
    let first = spots_of c k g in
    let rest = spots_in c k placed in
    let mine = spots_of c k f in
    elim (found-cases (g.sid == sid) g f (find (λ h. h.sid == sid) placed) found) [
      | inl here ↦ rw here.0 (subst (λ h. AreBeside c k (without sid placed) (spots_of c k h)) here.1
          (all-weaker (λ s. AllByRecursion (IsApart s) rest)
          (λ s. AllByRecursion (IsApart s) (spots_in c k (without sid placed)))
          (λ s all. all-spots-filter c k (IsApart s) (λ h. not (h.sid == sid)) placed all) first
          (apart-between first rest apart)))
      | inr later ↦ rw later.0 (all-both (λ s. AllByRecursion (IsApart s) first)
          (λ s. AllByRecursion (IsApart s) (spots_in c k (without sid placed)))
          (λ s. AllByRecursion (IsApart s) (first ++ spots_in c k (without sid placed)))
          (λ s head tail. all-append (IsApart s) first (spots_in c k (without sid placed)) head tail) mine
          (all-turned IsApart IsApart turned first mine
          (all-weaker (λ t. AllByRecursion (IsApart t) rest) (λ t. AllByRecursion (IsApart t) mine)
          (λ t all. spots-of-found c k sid (IsApart t) f placed later.1 all) first (apart-between first rest apart)))
          (apart-without c k sid f placed later.1 (apart-right first rest apart)))
    ]

-- flows of higher SIDs are left
pub without-above : (sid : ℕ) (placed : List Placed) → AllByRecursion (λ g. sid < g.sid) placed
    → without sid placed ≡ placed
without-above sid [] above = refl
without-above sid (g ∷ placed) above =
    let differ : (g.sid == sid) ≡ false = grind (arith, nat_tests) in
    rw differ (ap (λ gs. g ∷ gs) (without-above sid placed above.1))

-- what holds of the others and of the one that is taken out held of all
all-return : (c : Config) (k sid : ℕ) (P : Spot → Type 0) (f : Placed) (placed : List Placed)
    → find (λ g. g.sid == sid) placed ≡ Some f → Ascend placed → AllByRecursion P (spots_of c k f)
    → AllByRecursion P (spots_in c k (without sid placed)) → AllByRecursion P (spots_in c k placed)
all-return c k sid P f [] found up here all = absurd (cc)
all-return c k sid P f (g ∷ placed) found up here all =
    elim (found-cases (g.sid == sid) g f (find (λ h. h.sid == sid) placed) found) [
      | inl first ↦ (
          let same : g.sid ≡ sid = grind (arith, nat_tests, first.0) in
          let left = without-above sid placed (subst (λ n. AllByRecursion (λ h. n < h.sid) placed) same up.0) in
          let others : AllByRecursion P (spots_in c k placed) = rw (first.0, left) at all in
          all-append P (spots_of c k g) (spots_in c k placed)
          (subst (λ h. AllByRecursion P (spots_of c k h)) (sym first.1) here) others)
      | inr later ↦ (
          let every = rw later.0 at all in
          all-append P (spots_of c k g) (spots_in c k placed)
          (all-left P (spots_of c k g) (spots_in c k (without sid placed)) every)
          (all-return c k sid P f placed later.1 up.1 here
          (all-right P (spots_of c k g) (spots_in c k (without sid placed)) every)))
    ]

outside-of-apart : (s : Spot) (m : ℕ) (spots : List Spot) → s.offset ≤ m → m < s.offset + s.slots
    → AllByRecursion (IsApart s) spots → AreFree spots m 1
outside-of-apart s m [] from to apart = tt
outside-of-apart s m (t ∷ spots) from to apart = (
  elim apart.0 [ inl before ↦ inl (omega arith) | inr after ↦ inr (omega arith) ],
  outside-of-apart s m spots from to apart.1,
)

-- a minislot is outside of the spots, or it is one of theirs, of which the bit is clear and which no others have
outside-or-cleared : (words : List ℕ) (m : ℕ) (spots others : List Spot) → m < 1024
    → AllByRecursion (HasBits 0 words) spots → AllByRecursion (λ s. AllByRecursion (IsApart s) others) spots
    → AreFree spots m 1 ⊎ ((bit_of words m ≡ 0) × AreFree others m 1)
outside-or-cleared words m [] others lt marked apart = inl tt
outside-or-cleared words m (s ∷ spots) others lt marked apart =
    elim (outside-or-cleared words m spots others lt marked.1 apart.1) [
      | inr cleared ↦ inr cleared
      | inl outside ↦ elim (cases_lt m s.offset) [
        | inl before ↦ inl (inl (omega arith), outside)
        | inr begun ↦ elim (cases_lt m (s.offset + s.slots)) [
          | inl within ↦ inr (marked.0 m lt begun within, outside-of-apart s m others begun within apart.0)
          | inr after ↦ inl (inr after, outside)
        ]
      ]
    ]

-- with its minislots marked as free the bits tell of the other flows
pub tells-without : (c : Config) (k sid : ℕ) (f : Placed) (placed : List Placed) (old new : List ℕ)
    → find (λ g. g.sid == sid) placed ≡ Some f → Ascend placed → AreApart (spots_in c k placed)
    → TellsOf (spots_in c k placed) old → AreMarked (spots_of c k f) 0 old new
    → TellsOf (spots_in c k (without sid placed)) new
tells-without c k sid f placed old new found up apart tells marked =
    let others = spots_in c k (without sid placed) in
    let cleared : (m : ℕ) → m < 1024
    → AreFree (spots_of c k f) m 1 ⊎ ((bit_of new m ≡ 0) × AreFree others m 1) =
    λ m lt. outside-or-cleared new m (spots_of c k f) others lt marked.inside
    (apart-without c k sid f placed found apart) in
    record {
      free = λ m lt clear. elim (cleared m lt) [
        | inl outside ↦ all-spots-filter c k (IsOutside m) (λ g. not (g.sid == sid)) placed
            (tells.free m lt (sym (marked.outside m outside) ∙ clear))
        | inr both ↦ both.1
      ];
      clear = λ m lt free. elim (cleared m lt) [
        | inl outside ↦ marked.outside m outside
            ∙ tells.clear m lt (all-return c k sid (IsOutside m) f placed found up outside free)
        | inr both ↦ both.0
      ];
    }
