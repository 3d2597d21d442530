-- What may stand at the offset that a draft has reached.
use Rattle.std.proofs.Common.{◌≡◌, ℕ, zero, suc, ◌+◌, ◌<◌, ◌≤◌, Bool, true, false, ◌==◌, List, [], ◌∷◌, find}
use Rattle.std.proofs.Common.{Contains, Option, None, Some, cond, inl, inr, refl, sym, ap, ◌∙◌, subst, arith}
use Rattle.std.specs.List.{AllByRecursion}
use Rattle.std.proofs.lemmas.Bool.{cases_lt}
use Rattle.std.proofs.lemmas.Bool.Decides.{nat_tests}
use Rattle.std.proofs.lemmas.List.Elements.{All-contains, All-from_recursion}
use Rattle.minislots.specs.declared.config.Config.{Config}
use Rattle.periodic.specs.declared.placement.Spot.{Spot}
use Rattle.map_build.specs.Plan.{next_stop}
use Rattle.periodic.specs.Table.{FollowInTurn}
use Rattle.map_build.specs.Spots.{IsInFrame, AreInFrame}
use Rattle.map_build.proofs.Stops.{next_stop-is}

found-cond : {X : Type 0} (p : X → Bool) (b : Bool) (y x : X) (xs : List X) → p y ≡ b → cond b (Some y) (find p xs)
    ≡ Some x →
    (find p xs ≡ Some x → Contains xs x × (p x ≡ true)) → Contains (y ∷ xs) x × (p x ≡ true)
found-cond p true y x xs is found rest =
    let same : y ≡ x = cc in
    ((zero, omega arith, same), subst (λ z. p z ≡ true) same is)
found-cond p false y x xs is found rest =
    let more = rest found in
    ((suc more.0.0, omega (arith, more.0.1), more.0.2), more.1)

-- what is found is in the list, and passes
pub found-in : {X : Type 0} (p : X → Bool) (xs : List X) (x : X) → find p xs ≡ Some x → Contains xs x × (p x ≡ true)
found-in p [] x found = absurd (cc)
found-in p (y ∷ xs) x found = found-cond p (p y) y x xs refl found (found-in p xs x)

missed-cond : {X : Type 0} (b : Bool) (y : X) (o : Option X) → cond b (Some y) o ≡ None → (b ≡ false) × (o ≡ None)
missed-cond true y o none = absurd (cc)
missed-cond false y o none = (refl, none)

-- where nothing is found no member passes
pub missed-in : {X : Type 0} (p : X → Bool) (xs : List X) (x : X) → find p xs ≡ None → Contains xs x → p x ≡ false
missed-in p [] x none (k, lt, at) = absurd (omega arith)
missed-in p (y ∷ xs) x none (zero, lt, at) = subst (λ z. p z ≡ false) at (missed-cond (p y) y (find p xs) none).0
missed-in p (y ∷ xs) x none (suc k, lt, at) =
    missed-in p xs x (missed-cond (p y) y (find p xs) none).1 (k, omega arith, at)

-- numbers that are the same by the test are
pub equal : (m n : ℕ) → (m == n) ≡ true → m ≡ n
equal m n e = grind (arith, nat_tests)

differ : (m n : ℕ) → (m == n) ≡ false → m ≡ n → ⊥
differ m n fails e = grind (arith, nat_tests)

-- the spot that begins here
pub spot-here : (spots : List Spot) (offset : ℕ) (s : Spot) → find (λ t. t.offset == offset) spots ≡ Some s →
    Contains spots s × (s.offset ≡ offset)
spot-here spots offset s found =
    let is = found-in (λ (t : Spot). t.offset == offset) spots s found in (is.0, equal s.offset offset is.1)

-- what holds of each spot holds of one
pub member-at : (P : Spot → Type 0) (spots : List Spot) (s : Spot) → AllByRecursion P spots → Contains spots s → P s
member-at P spots s all is = All-contains P spots s (All-from_recursion P spots all) is

-- each spot of a frame is within it
pub spot-within : (c : Config) (spots : List Spot) (s : Spot) → AreInFrame c spots → Contains spots s → IsInFrame c s
spot-within c spots s are is = member-at (IsInFrame c) spots s are.each is

in_turn-apart : (c : Config) (spots : List Spot) → AllByRecursion (IsInFrame c) spots → FollowInTurn spots →
    (s t : Spot) → Contains spots s → Contains spots t →
    s.offset ≤ t.offset → t.offset < s.offset + s.slots → s ≡ t
in_turn-apart c [] each turn s t (i, lt, at) is from to = absurd (omega arith)
in_turn-apart c (x ∷ spots) each turn s t (zero, lt, at) (zero, lt', at') from to = sym at ∙ at'
in_turn-apart c (x ∷ spots) each turn s t (zero, lt, at) (suc j, lt', at') from to =
    let behind : x.offset + x.slots ≤ t.offset = member-at (λ (u : Spot). x.offset + x.slots ≤ u.offset) spots t
    turn.0 (j, omega arith, at') in
    absurd (omega (arith, behind, ap (λ (u : Spot). u.offset) at, ap (λ (u : Spot). u.slots) at))
in_turn-apart c (x ∷ spots) each turn s t (suc i, lt, at) (zero, lt', at') from to =
    let behind : x.offset + x.slots ≤ s.offset = member-at (λ (u : Spot). x.offset + x.slots ≤ u.offset) spots s
    turn.0 (i, omega arith, at) in
    absurd (omega (arith, behind, each.0.some_slots, ap (λ (u : Spot). u.offset) at'))
in_turn-apart c (x ∷ spots) each turn s t (suc i, lt, at) (suc j, lt', at') from to =
    in_turn-apart c spots each.1 turn.1 s t (i, omega arith, at) (j, omega arith, at') from to

-- a spot of a frame that begins among the minislots of another is that one
pub spots-apart : (c : Config) (spots : List Spot) → AreInFrame c spots → (s t : Spot) → Contains spots s →
    Contains spots t →
    s.offset ≤ t.offset → t.offset < s.offset + s.slots → s ≡ t
spots-apart c spots are = in_turn-apart c spots are.each are.in_turn

-- where no spot begins here the next stop is behind
pub stop-behind : (c : Config) (spots : List Spot) (offset : ℕ) → offset < c.frame →
    find (λ t. t.offset == offset) spots ≡ None → offset < next_stop c spots offset
stop-behind c spots offset inside none = elim (cases_lt offset (next_stop c spots offset)) [
  | inl lt ↦ lt
  | inr ge ↦ elim (next_stop-is c spots offset) [
    | inl end ↦ omega arith
    | inr is ↦ absurd (differ is.0.offset offset (missed-in (λ (t : Spot). t.offset == offset) spots is.0 none is.1)
        (omega (arith, is.2, is.3)))
  ]
]
