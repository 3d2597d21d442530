-- The width of the steps of so many frames.
use Rattle.std.proofs.Common.{◌≡◌, ℕ, ◌+◌, ◌-◌, ◌*◌, ◌^◌, ◌<◌, ◌≤◌, List, ◌++◌, length, take}
use Rattle.std.proofs.Common.{flat_map, zero, suc, append-nil, inl, inr, ap, sym, ◌∙◌, arith}
use Rattle.std.specs.List.{range_with_len}
use Rattle.std.proofs.Math.Nat.{div-lt_iff_lt-mul, lt-mul-div-succ, two-pow-succ}
use Rattle.std.proofs.Math.Pow.{pow_mono}
use Rattle.std.proofs.Math.Seq.{take-add}
use Rattle.std.proofs.lemmas.Bool.{cases_lt}
use Rattle.std.proofs.lemmas.Grind.{flat_map-append}
use Rattle.std.proofs.lemmas.List.{take_all}
use Rattle.std.proofs.lemmas.Nat.{pow_pos}
use Rattle.map_drawing.proofs.Ranges.{range_with_len-next}
use Rattle.frame_picture.specs.Frames.{Frame}
use Rattle.report_picture.specs.OverTime.{frames_at, steps_of, IsWidth, CoversEachFrame, HasOneWidth}

-- what the numbers below n + 1 make is what those below n make, and then what n makes
next-step : (f : ℕ → List Frame) (n : ℕ)
    → flat_map f (range_with_len 0 (n + 1)) ≡ flat_map f (range_with_len 0 n) ++ f n
next-step f n =
    let last : 0 + n ≡ n = omega arith in
    rw (range_with_len-next, flat_map-append, last, append-nil)

-- the frames of the first steps are the first frames
first-steps : (width : ℕ) (fs : List Frame) (n : ℕ)
    → flat_map (frames_at width fs) (range_with_len 0 n) ≡ take (width * n) fs
first-steps width fs zero =
    let none : width * zero ≡ 0 = omega arith in ap (λ k. take k fs) (sym none)
first-steps width fs (suc n) =
    let more : width * n + width ≡ width * suc n = omega arith in
    let next : suc n ≡ n + 1 = omega arith in
    ap (λ k. flat_map (frames_at width fs) (range_with_len 0 k)) next
    ∙ next-step (frames_at width fs) n
    ∙ ap (λ (gs : List Frame). gs ++ frames_at width fs n) (first-steps width fs n)
    ∙ sym (take-add (width * n) width fs)
    ∙ ap (λ k. take k fs) more

-- all steps have all frames
pub all-steps : CoversEachFrame
all-steps width some fs =
    let n = length fs in
    let steps = steps_of width n in
    let above : n + (width - 1) < width * (steps + 1) = lt-mul-div-succ (n + (width - 1)) some in
    first-steps width fs steps ∙ take_all (width * steps) fs (omega (arith, above, some))

-- a width is no less than 1
pub width-some : (n width : ℕ) → IsWidth n width → 0 < width
width-some n width is = omega (arith, is.power, pow_pos is.exponent)

-- nor much more than there are frames
pub width-most : (n width : ℕ) → IsWidth n width → width ≤ n + 1
width-most n width is = elim (cases_lt 1 width) [
  | inl more ↦ omega (arith, is.least more)
  | inr one ↦ omega (arith, one)
]

-- one power of two above another is twice it at least
double : (a b : ℕ) (i j : ℕ) → a ≡ 2 ^ i → b ≡ 2 ^ j → i < j → a + a ≤ b
double a b i j first second below =
    let up : 2 ^ suc i ≤ 2 ^ j = pow_mono {i = suc i} {j = j} (omega (arith, below)) in
    omega (arith, first, second, up, two-pow-succ i)

-- of two widths none is the wider one
not-wider : (n a b : ℕ) (first : IsWidth n a) (second : IsWidth n b) → first.exponent < second.exponent → ⊥
not-wider n a b first second below =
    let twice = double a b first.exponent second.exponent first.power second.power below in
    let some = width-some n a first in
    let least = second.least (omega (arith, twice, some)) in
    omega (arith, twice, least, first.enough)

one-width : (n a b : ℕ) → IsWidth n a → IsWidth n b → a ≡ b
one-width n a b first second = elim (cases_lt first.exponent second.exponent) [
  | inl below ↦ absurd (not-wider n a b first second below)
  | inr above ↦ elim (cases_lt second.exponent first.exponent) [
    | inl below ↦ absurd (not-wider n b a second first below)
    | inr same ↦
        let is : first.exponent ≡ second.exponent = omega (arith, above, same) in
        first.power ∙ ap (λ k. 2 ^ k) is ∙ sym second.power
  ]
]

-- so many frames have no more than 800 steps
pub few-steps : (n width : ℕ) → IsWidth n width → steps_of width n ≤ 800
few-steps n width is =
    let some = width-some n width is in
    let below : n + (width - 1) < 801 * width = omega (arith, is.enough, some) in
    let few = (div-lt_iff_lt-mul {k = width} {x = n + (width - 1)} {y = 801} some).1 below in
    omega (arith, few)

-- there is one width, and few steps
pub has-one : HasOneWidth
has-one = record { one = one-width; few = few-steps }
