-- The spots that are left at an offset, as the walk along the frame goes on.
use Rattle.std.proofs.Common.{◌≡◌, ℕ, zero, ◌+◌, ◌<◌, ◌≤◌, min, Bool, true, false, nat_le, nat_lt, ◌==◌, List, []}
use Rattle.std.proofs.Common.{◌∷◌, find, slice_get, None, Some, if◌then◌else◌, refl, ap, ◌∙◌, arith}
use Rattle.std.specs.Prelude.{MatchOption}
use Rattle.std.specs.List.{AllByRecursion}
use Rattle.std.proofs.lemmas.Bool.{le-leb, cond_both}
use Rattle.std.proofs.lemmas.Bool.Decides.{nat_tests}
use Rattle.minislots.specs.declared.config.Config.{Config}
use Rattle.periodic.specs.declared.placement.Spot.{Spot}
use Rattle.map_build.specs.declared.purpose.Allocation.{Allocation}
use Rattle.map_build.specs.declared.purpose.Purpose.{Purpose}
use Rattle.map_build.specs.declared.purpose.Purpose.TheVariants.{Poll, UnsolicitedGrant, Offer, DataGrant, Idle}
use Rattle.map_build.specs.Purpose.{Class, Placed, Reserved, Requested, Left, class_of, classes_before, allocation_of}
use Rattle.map_build.specs.Plan.{Demand, next_stop, NoneOf, IsOfClass, Stands}
use Rattle.map_build.specs.Spots.{IsInFrame, AreInFrame}
use Rattle.map_build.specs.Left.{left_at, AreAhead, AreLeft}
use Rattle.map_build.proofs.Clear.{IsClear, clear-purpose, contains-later}

later : (m n : ℕ) (spots : List Spot) → m ≤ n → AreAhead n spots → AreAhead m spots
later m n [] le all = tt
later m n (s ∷ spots) le all = (omega (arith, all.0), later m n spots le all.1)

above : (c : Config) (spots : List Spot) (offset n : ℕ) → n ≤ c.frame → AreAhead n spots → n ≤ next_stop c spots offset
above c [] offset n inside all = inside
above c (s ∷ spots) offset n inside all =
    let rest : n ≤ next_stop c spots offset = above c spots offset n inside all.1 in
    cond_both (nat_le offset s.offset) (min s.offset (next_stop c spots offset)) (next_stop c spots offset) (λ x. n ≤ x)
    (λ t. omega (arith, all.0)) (λ t. rest)

-- the next stop is where the first of those left begins, or the end of the frame
pub stop-first : (c : Config) (spots : List Spot) (offset : ℕ) → AreInFrame c spots → AreAhead offset spots
    → MatchOption (slice_get spots 0) (next_stop c spots offset ≡ c.frame) (λ s. next_stop c spots offset ≡ s.offset)
stop-first c [] offset are ahead = refl
stop-first c (s ∷ spots) offset are ahead =
    let least : s.offset ≤ next_stop c spots offset =
    above c spots offset s.offset (omega (arith, are.each.0.within))
    (later s.offset (s.offset + s.slots) spots (omega arith) are.in_turn.0) in
    rw (le-leb offset s.offset ahead.0) (omega arith)

none-behind : (spots : List Spot) (offset n : ℕ) → offset < n → AreAhead n spots
    → find (λ s. s.offset == offset) spots ≡ None
none-behind [] offset n lt all = refl
none-behind (s ∷ spots) offset n lt all =
    let fails : (s.offset == offset) ≡ false = let far = all.0 in grind (arith, nat_tests) in
    rw (fails, none-behind spots offset n lt all.1) refl

-- none but the first of those left begins at the offset
pub here-first : (c : Config) (spots : List Spot) (offset : ℕ) → AreInFrame c spots → AreAhead offset spots
    → MatchOption (slice_get spots 0) (find (λ t. t.offset == offset) spots ≡ None)
    (λ s. find (λ t. t.offset == offset) spots ≡ (if s.offset == offset then Some s else None))
here-first c [] offset are ahead = refl
here-first c (s ∷ spots) offset are ahead =
    let some : 0 < s.slots = are.each.0.some_slots in
    let from : offset ≤ s.offset = ahead.0 in
    let rest : find (λ (t : Spot). t.offset == offset) spots ≡ None =
    none-behind spots offset (s.offset + s.slots) (omega arith) are.in_turn.0 in
    rw rest refl

-- the demand of a frame of which these spots are left
abbrev pub with_spots : List Spot → Demand → Demand
with_spots left d = record d { spots = left }

-- what holds of each holds where it is weaker
pub all-weaker : {X : Type 0} (P Q : X → Type 0) (xs : List X) → ((x : X) → P x → Q x) → AllByRecursion P xs →
    AllByRecursion Q xs
all-weaker P Q [] weaker all = tt
all-weaker P Q (x ∷ xs) weaker all = (weaker x all.0, all-weaker P Q xs weaker all.1)

module _ (c : Config) (d : Demand) (left : List Spot) (before : List Allocation) (offset : ℕ)
    (are : AreLeft c d.spots left offset) where
  purpose-whole : (slots : ℕ) (purpose : Purpose) → IsOfClass c (with_spots left d) before offset slots purpose
      → IsOfClass c d before offset slots purpose
  purpose-whole slots (Poll sid) stands = are.some _ stands
  purpose-whole slots (UnsolicitedGrant sid size) stands = are.some _ stands
  purpose-whole slots (Offer place usage) stands = rw (are.stops offset (omega arith)) stands
  purpose-whole slots (DataGrant sid bytes) stands = rw (are.stops offset (omega arith)) stands
  purpose-whole slots Idle stands = rw (are.stops offset (omega arith)) stands

  none-whole : (r : Class) → NoneOf c (with_spots left d) before offset r → NoneOf c d before offset r
  none-whole Placed none = rw (are.stops offset (omega arith)) none
  none-whole Reserved none = rw (are.stops offset (omega arith)) none
  none-whole Requested none = rw (are.stops offset (omega arith)) none
  none-whole Left none = none

-- what may stand among the spots that are left may stand among all
pub stands-whole : (c : Config) (d : Demand) (left : List Spot) (before : List Allocation) (a : Allocation)
    → AreLeft c d.spots left a.offset → Stands c (with_spots left d) before a → Stands c d before a
stands-whole c d left before a are stands = record {
  some_slots = stands.some_slots;
  follows = stands.follows;
  purpose = purpose-whole c d left before a.offset are a.slots a.purpose stands.purpose;
  first = all-weaker (NoneOf c (with_spots left d) before a.offset) (NoneOf c d before a.offset)
      (classes_before (class_of a.purpose)) (none-whole c d left before a.offset are) stands.first;
}

-- what stands there is clear of the spots that are left
pub left-clear : (c : Config) (d : Demand) (before : List Allocation) (a : Allocation) → AreInFrame c d.spots
    → a.offset ≤ c.frame → Stands c d before a → IsClear c d.spots a
left-clear c d before a are inside stands =
    clear-purpose c d before a.offset a.slots a.purpose are inside stands.some_slots stands.purpose

-- at the first offset all are left
pub left-all : (c : Config) (spots : List Spot) (offset : ℕ) → AreInFrame c spots → offset ≡ c.req_slots
    → AreLeft c spots spots offset
left-all c spots offset are here = record {
  placed = are;
  ahead = behind spots are.each;
  some = λ s is. is;
  stops = λ at le. refl;
}
  where
    behind : (some : List Spot) → AllByRecursion (IsInFrame c) some → AreAhead offset some
    behind [] each = tt
    behind (s ∷ some) each = (omega (arith, each.0.after_requests), behind some each.1)

module _ (c : Config) (spots : List Spot) (s : Spot) (left : List Spot) (a : Allocation)
    (are : AreLeft c spots (s ∷ left) a.offset) (clear : IsClear c (s ∷ left) a) where
  left-cond : (b : Bool) → nat_lt s.offset (a.offset + a.slots) ≡ b
      → AreLeft c spots (if b then left else s ∷ left) (a.offset + a.slots)
  left-cond true is =
      let lt : s.offset < a.offset + a.slots = grind (arith, nat_tests) in
      let same : allocation_of s ≡ a = clear.1 s (zero, omega arith, refl) are.ahead.0 lt in
      let from : s.offset ≡ a.offset = ap (λ (b : Allocation). b.offset) same in
      let long : s.slots ≡ a.slots = ap (λ (b : Allocation). b.slots) same in
      record {
        placed = record {
          few = omega (arith, are.placed.few);
          each = are.placed.each.1;
          in_turn = are.placed.in_turn.1;
        };
        ahead = later (a.offset + a.slots) (s.offset + s.slots) left (omega arith) are.placed.in_turn.0;
        some = λ t is'. are.some t (contains-later left s t is');
        stops = λ at le.
            let passed : nat_le at s.offset ≡ false = grind (arith, nat_tests) in
            are.stops at (omega arith) ∙ rw passed refl;
      }
  left-cond false is =
      let le : a.offset + a.slots ≤ s.offset = grind (arith, nat_tests) in
      record {
        placed = are.placed;
        ahead = (le, later (a.offset + a.slots) (s.offset + s.slots) left (omega arith) are.placed.in_turn.0);
        some = are.some;
        stops = λ at from. are.stops at (omega arith);
      }

-- behind what stands at an offset the spots are left that begin there or later
pub left-next : (c : Config) (spots left : List Spot) (a : Allocation) → AreLeft c spots left a.offset
    → IsClear c left a → AreLeft c spots (left_at (a.offset + a.slots) left) (a.offset + a.slots)
left-next c spots [] a are clear = record {
  placed = are.placed;
  ahead = tt;
  some = are.some;
  stops = λ at le. are.stops at (omega arith);
}
left-next c spots (s ∷ left) a are clear =
    left-cond c spots s left a are clear (nat_lt s.offset (a.offset + a.slots)) refl
