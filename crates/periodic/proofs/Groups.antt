-- Lists cut into groups of one size, and the nominal frames of a phase by their index.
use Rattle.std.proofs.Common.{◌≡◌, sym, ap, ◌∙◌, ℕ, ◌+◌, ◌-◌, ◌*◌, ◌/◌, ◌%◌, ◌<◌, ◌≤◌, List, ◌++◌, length}
use Rattle.std.proofs.Common.{take, drop, slice_range, arith}
use Rattle.std.proofs.lemmas.List.{take-append-le, drop-append-le, length-drop}
use Rattle.std.proofs.Math.Seq.{drop-append_seam, take-length}
use Rattle.std.proofs.Math.Nat.{div-le_self}
use Rattle.std.proofs.lemmas.Nat.{div-mul-add, mod-mul-add, div-add-mod', div_below, mul-le}
use Rattle.periodic.specs.Placement.{group_at}

-- the groups before an index end where its group begins
pub group-fits : (size index count : ℕ) → index < count → index * size + size ≤ count * size
group-fits size index count lt =
    let more = mul-le (index + 1) size count size (omega arith) (omega arith) in
    let split : (index + 1) * size ≡ index * size + size = omega arith in
    omega (arith, more, split)

-- what is added behind a list leaves its groups
pub group-before : (size index count : ℕ) (xs ys : List ℕ) → length xs ≡ count * size → index < count
    → group_at size index (xs ++ ys) ≡ group_at size index xs
group-before size index count xs ys long lt =
    let fits = group-fits size index count lt in
    ap (take size) (drop-append-le (index * size) xs ys (omega (arith, fits, long)))
    ∙ take-append-le size (drop (index * size) xs) ys (omega (arith, fits, long, length-drop (index * size) xs))

-- a group added behind a list of groups is the last
pub group-last : (size count : ℕ) (xs ys : List ℕ) → length xs ≡ count * size → length ys ≡ size
    → group_at size count (xs ++ ys) ≡ ys
group-last size count xs ys long one =
    ap (λ n. take size (drop n (xs ++ ys))) (sym long) ∙ ap (take size) (drop-append_seam xs ys)
    ∙ ap (λ n. take n ys) (sym one) ∙ take-length ys

module _ (f phase : ℕ) (lt : phase < f) where
  -- the frame of an index has this phase
  pub frame-phase : (index : ℕ) → (phase + index * f) % f ≡ phase
  frame-phase index =
      let turned : phase + index * f ≡ index * f + phase = omega arith in
      ap (λ n. n % f) turned ∙ mod-mul-add index f phase lt

  -- and this index
  pub frame-index : (index : ℕ) → (phase + index * f) / f ≡ index
  frame-index index =
      let turned : phase + index * f ≡ index * f + phase = omega arith in
      ap (λ n. n / f) turned ∙ div-mul-add index f phase lt

  -- it is a frame of the cycle
  pub frame-within : (cycle index : ℕ) → cycle % f ≡ 0 → index < cycle / f → phase + index * f < cycle
  frame-within cycle index divides within =
      let whole = div-add-mod' cycle f in
      let fits = group-fits f index (cycle / f) within in
      omega (arith, fits, whole, divides)

  -- each frame of the phase has an index
  pub frame-of : (place : ℕ) → place % f ≡ phase → place ≡ phase + place / f * f
  frame-of place is = let whole = div-add-mod' place f in omega arith

  -- below that of the cycle's end
  pub index-within : (cycle place : ℕ) → cycle % f ≡ 0 → place < cycle → place / f < cycle / f
  index-within cycle place divides within =
      let whole = div-add-mod' cycle f in div_below place f (cycle / f) (omega arith) (omega arith)

-- a part of a list that begins behind so many groups and is one group long
pub range-group : (xs : List ℕ) (size index first end : ℕ) → first ≡ index * size → end ≡ first + size
    → slice_range xs first end ≡ group_at size index xs
range-group xs size index first end at to =
    let long : end - first ≡ size = omega arith in
    ap (λ n. take n (drop first xs)) long ∙ ap (λ n. take size (drop n xs)) at

-- so many groups there are at most in the longest cycle
pub groups-most : (cycle f size : ℕ) → cycle ≤ 64 → size ≤ 8 → cycle / f * size ≤ 512
groups-most cycle f size short few =
    let frames : cycle / f ≤ 64 = omega (arith, div-le_self cycle f) in
    omega (arith, mul-le (cycle / f) size 64 8 frames few)
