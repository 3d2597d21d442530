-- The spots of a frame in the order of their offsets.
use Rattle.std.proofs.Common.{◌≡◌, ◌≢◌, refl, sym, ap, ◌∙◌, ℕ, zero, suc, ◌+◌, ◌<◌, ◌≤◌, List, [], ◌∷◌}
use Rattle.std.proofs.Common.{length, get_or, inl, inr, arith}
use Rattle.std.specs.List.{AllByRecursion, swap}
use Rattle.std.specs.List.Sorted.{IsPermutation, IsNonDecreasingBy}
use Rattle.std.proofs.lemmas.Bool.{cases_eq}
use Rattle.std.proofs.lemmas.List.Edits.{Swapped, swapped_from_swap, length-swap}
use Rattle.std.proofs.lemmas.List.Elements.{All-from_recursion, recursion_from_All}
use Rattle.std.proofs.lemmas.List.Sorted.{IsPermutation-keeps, All-permutation}
use Rattle.minislots.specs.declared.config.Config.{Config}
use Rattle.minislots.specs.Config.{IsLawful}
use Rattle.periodic.specs.declared.placement.Spot.{Spot}
use Rattle.periodic.specs.Placement.{Placed, due_in}
use Rattle.periodic.specs.Table.{IsWithinFrame, IsApart, AreApart, FollowInTurn, AreSound}
use Rattle.periodic.proofs.Joined.{turned}
use Rattle.periodic.proofs.Resting.{due-within, due-apart}

-- any two of the first n are apart
abbrev AreApartAt : ℕ → (ℕ → Spot) → Type 0
AreApartAt n f = (i j : ℕ) → i < n → j < n → i ≢ j → IsApart (f i) (f j)

apart-at : (d : Spot) (spots : List Spot) → AreApart spots → AreApartAt (length spots) (λ i. get_or spots i d)
apart-at d [] apart i j lt lt' differ = absurd (omega arith)
apart-at d (s ∷ spots) apart zero zero lt lt' differ = absurd (differ refl)
apart-at d (s ∷ spots) apart zero (suc j) lt lt' differ = All-from_recursion (IsApart s) spots apart.0 j d (omega arith)
apart-at d (s ∷ spots) apart (suc i) zero lt lt' differ =
    turned s (get_or spots i d) (All-from_recursion (IsApart s) spots apart.0 i d (omega arith))
apart-at d (s ∷ spots) apart (suc i) (suc j) lt lt' differ =
    apart-at d spots apart.1 i j (omega arith) (omega arith) (λ e. differ (ap suc e))

swapped-apart : (n a b : ℕ) (f g : ℕ → Spot) → a < n → b < n → Swapped f g a b → AreApartAt n f → AreApartAt n g
swapped-apart n a b f g at bt swapped apart i j it jt differ = elim (cases_eq i a) [
  | inl ia ↦ elim (cases_eq j b) [
    | inl jb ↦ rw (ia, jb, swapped.0, swapped.1) (apart b a bt at (λ e. differ (ia ∙ sym e ∙ sym jb)))
    | inr jnb ↦ rw (ia, swapped.0, swapped.2 j (λ e. differ (ia ∙ sym e)) jnb) (apart b j bt jt (λ e. jnb (sym e)))
  ]
  | inr ina ↦ elim (cases_eq i b) [
    | inl ib ↦ elim (cases_eq j a) [
      | inl ja ↦ rw (ib, ja, swapped.0, swapped.1) (apart a b at bt (λ e. differ (ib ∙ sym e ∙ sym ja)))
      | inr jna ↦ rw (ib, swapped.1, swapped.2 j jna (λ e. differ (ib ∙ sym e))) (apart a j at jt (λ e. jna (sym e)))
    ]
    | inr inb ↦ elim (cases_eq j a) [
      | inl ja ↦ rw (ja, swapped.0, swapped.2 i ina inb) (apart i b it bt inb)
      | inr jna ↦ elim (cases_eq j b) [
        | inl jb ↦ rw (jb, swapped.1, swapped.2 i ina inb) (apart i a it at ina)
        | inr jnb ↦ rw (swapped.2 i ina inb, swapped.2 j jna jnb) (apart i j it jt differ)
      ]
    ]
  ]
]

-- in another order they are apart too
apart-permuted : (d : Spot) (xs ys : List Spot) → IsPermutation xs ys → AreApart xs
    → AreApartAt (length ys) (λ i. get_or ys i d)
apart-permuted d xs ys moved apart =
    IsPermutation-keeps xs (λ l. AreApartAt (length l) (λ i. get_or l i d)) (apart-at d xs apart)
    (λ l i j it jt before. rw (length-swap l i j)
    (swapped-apart (length l) i j (λ k. get_or l k d) (λ k. get_or (swap l i j) k d) it jt
    (swapped_from_swap l (swap l i j) i j d it jt refl) before))
    ys moved

in-turn : (spots : List Spot)
    → ((i j : ℕ) (d : Spot) → i < j → j < length spots
    → (get_or spots i d).offset + (get_or spots i d).slots ≤ (get_or spots j d).offset) → FollowInTurn spots
in-turn [] ends = tt
in-turn (s ∷ spots) ends = (
  recursion_from_All (λ t. s.offset + s.slots ≤ t.offset) spots
      (λ k d lt. ends 0 (suc k) d (omega arith) (omega arith)),
  in-turn
      spots (λ i j d lt lt'. ends (suc i) (suc j) d (omega arith) (omega arith)),
)

-- spots apart from one another, none empty, by ascending offsets
pub sorted-in-turn : (c : Config) (xs ys : List Spot) → IsPermutation xs ys → AreApart xs
    → AllByRecursion (IsWithinFrame c) ys
    → IsNonDecreasingBy (λ s. s.offset) ys → FollowInTurn ys
sorted-in-turn c xs ys moved apart within up =
    in-turn ys (λ i j d lt lt'.
    let all = All-from_recursion (IsWithinFrame c) ys within j d lt' in
    elim (apart-permuted d xs ys moved apart i j (omega arith) lt' (λ e. absurd (omega arith))) [
      | inl before ↦ before
      | inr after ↦ absurd (omega (arith, up i j d (omega arith) lt', all.not_empty))
    ])

-- in another order they are within the frame too
pub within-permuted : (c : Config) (xs ys : List Spot) → IsPermutation xs ys → AllByRecursion (IsWithinFrame c) xs
    → AllByRecursion (IsWithinFrame c) ys
within-permuted c xs ys moved within =
    recursion_from_All (IsWithinFrame c) ys
    (All-permutation (IsWithinFrame c) xs ys moved (All-from_recursion (IsWithinFrame c) xs within))

-- The spots of frame k, one after the other
pub record IsFrameOf (c : Config) (k : ℕ) (placed : List Placed) (spots : List Spot) : Type 0 where
  pub permuted : IsPermutation (due_in c k placed) spots
  pub in_turn : FollowInTurn spots
  pub within : AllByRecursion (IsWithinFrame c) spots

-- what the flows are to have of it, sorted, is the frame
pub frame-sorted : (c : Config) (k : ℕ) (placed : List Placed) (xs ys : List Spot) → IsLawful c → AreSound c placed
    → xs ≡ due_in c k placed → IsPermutation xs ys → IsNonDecreasingBy (λ s. s.offset) ys
    → IsFrameOf c k placed ys
frame-sorted c k placed xs ys lawful sound is moved up =
    let moved' : IsPermutation (due_in c k placed) ys = rw (← is) moved in
    let within = within-permuted c (due_in c k placed) ys moved' (due-within c k placed lawful sound.each) in
    record {
      permuted = moved';
      in_turn = sorted-in-turn c (due_in c k placed) ys moved'
          (due-apart c k placed sound.each (sound.apart k)) within up;
      within = within;
    }
