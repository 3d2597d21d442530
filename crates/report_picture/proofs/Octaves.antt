-- Levels rise, and twice a number stands an octave above it.
use Rattle.std.proofs.Common.{◌≡◌, ℕ, suc, ◌+◌, ◌-◌, ◌*◌, ◌/◌, ◌^◌, ◌<◌, ◌≤◌, max, ap, sym, ◌∙◌, refl, arith}
use Rattle.std.proofs.Common.{inl, inr}
use Rattle.std.specs.Int.Count.{count_leading_zeros}
use Rattle.std.proofs.lemmas.Bool.{cases_lt}
use Rattle.std.proofs.lemmas.Nat.{leading_top, pow_pos, le-div}
use Rattle.std.proofs.Math.Pow.{pow_mono}
use Rattle.std.proofs.Math.Nat.{div-lt_iff_lt-mul, mul-div-mul_left, two-pow-succ, div-mul-le_self}
use Rattle.std.proofs.Math.Nat.{mul-le-mul_left, mul-div_left, zero-div}
use Rattle.report_picture.specs.Axis.{place}
use Rattle.report_picture.specs.Levels.{octave, level, level_place}

-- what the octave of a number says of it
record IsOctave (n k : ℕ) : Type 0 where
  pub is : octave n ≡ k
  pub least : 2 ^ k ≤ n
  pub most : n < 2 * 2 ^ k
  pub small : k ≤ 127

octave-is : (n : ℕ) → 0 < n → n < 2 ^ 128 → (k : ℕ) × IsOctave n k
octave-is n some small =
    let found = leading_top 128 n some small in (
      found.0,
      record {
        is = omega (arith, found.1);
        least = found.2;
        most = omega (arith, found.3, two-pow-succ found.0);
        small = omega (arith, found.1);
      },
    )

-- a number stands in its octave
level-at : (n k : ℕ) → IsOctave n k → level n ≡ 1024 * k + 1024 * n / 2 ^ k
unfolding level
level-at n k at = ap (λ (j : ℕ). 1024 * j + 1024 * n / 2 ^ j) at.is

level-least : (n k : ℕ) → IsOctave n k → 1024 * k + 1024 ≤ level n
level-least n k at =
    let low : 1024 ≤ 1024 * n / 2 ^ k = le-div 1024 (1024 * n) (2 ^ k) (pow_pos k) (omega (arith, at.least)) in
    omega (arith, level-at n k at, low)

level-most : (n k : ℕ) → IsOctave n k → level n < 1024 * k + 2048
level-most n k at =
    let high : 1024 * n / 2 ^ k < 2048 = (div-lt_iff_lt-mul (pow_pos k)).1 (omega (arith, at.most)) in
    omega (arith, level-at n k at, high)

-- the octave of a greater number is no lower
octave-rises : (m n j k : ℕ) → m ≤ n → IsOctave m j → IsOctave n k → j ≤ k
octave-rises m n j k below low high = elim (cases_lt k j) [
  | inl above ↦
      let up : 2 ^ suc k ≤ 2 ^ j = pow_mono {i = suc k} {j = j} (omega (arith, above)) in
      omega (arith, up, two-pow-succ k, low.least, high.most, below)
  | inr fine ↦ fine
]

-- in one octave a greater number is as high at least
part-rises : (m n k : ℕ) → m ≤ n → 1024 * m / 2 ^ k ≤ 1024 * n / 2 ^ k
part-rises m n k below =
    le-div (1024 * m / 2 ^ k) (1024 * n) (2 ^ k) (pow_pos k)
    (omega (arith, div-mul-le_self (1024 * m) (2 ^ k), below))

some-rises : (m n : ℕ) → 0 < m → m ≤ n → n < 2 ^ 128 → level m ≤ level n
some-rises m n some below small =
    let low = octave-is m some (omega (arith, below, small)) in
    let high = octave-is n (omega (arith, some, below)) small in
    let up = octave-rises m n low.0 high.0 below low.1 high.1 in
    elim (cases_lt low.0 high.0) [
      | inl above ↦ omega (arith, level-most m low.0 low.1, level-least n high.0 high.1, above)
      | inr fine ↦
          let same : low.0 ≡ high.0 = omega (arith, up, fine) in
          let part = part-rises m n high.0 below in
          let at : level m ≡ 1024 * high.0 + 1024 * m / 2 ^ high.0 =
          level-at m low.0 low.1 ∙ ap (λ (k : ℕ). 1024 * k + 1024 * m / 2 ^ k) same in
          omega (arith, at, level-at n high.0 high.1, part)
    ]

-- nothing stands lowest
level-none : level 0 ≡ 0
unfolding level count_leading_zeros
level-none = refl

-- a greater number is as high at least
pub level-rises : (m n : ℕ) → m ≤ n → n < 2 ^ 128 → level m ≤ level n
level-rises m n below small = elim (cases_lt 0 m) [
  | inl some ↦ some-rises m n some below small
  | inr none ↦
      let is : m ≡ 0 = omega (arith, none) in
      omega (arith, ap level is ∙ level-none)
]

-- twice a number is an octave higher
pub level-doubles : (n : ℕ) → 0 < n → 2 * n < 2 ^ 128 → level (2 * n) ≡ level n + 1024
level-doubles n some small =
    let low = octave-is n some (omega (arith, small)) in
    let high = octave-is (2 * n) (omega (arith, some)) small in
    let k = low.0 in
    let twice = two-pow-succ k in
    let at : IsOctave (2 * n) high.0 = high.1 in
    let above : suc k ≡ high.0 = exponent-is (2 * n) (suc k) high.0
    (omega (arith, low.1.least, twice)) (omega (arith, low.1.most, twice)) at in
    let part : 1024 * (2 * n) / 2 ^ suc k ≡ 1024 * n / 2 ^ k = halves n k in
    level-at (2 * n) high.0 at
    ∙ ap (λ (j : ℕ). 1024 * j + 1024 * (2 * n) / 2 ^ j) (sym above)
    ∙ omega (arith, part, level-at n k low.1)
  where
    halves : (n k : ℕ) → 1024 * (2 * n) / 2 ^ suc k ≡ 1024 * n / 2 ^ k
    halves n k =
        let times : 1024 * (2 * n) ≡ 2 * (1024 * n) = omega arith in
        let power : 2 ^ suc k ≡ 2 * 2 ^ k = omega (arith, two-pow-succ k) in
        ap (λ (a : ℕ). a / 2 ^ suc k) times ∙ ap (λ (a : ℕ). 2 * (1024 * n) / a) power
        ∙ mul-div-mul_left {m = 2} (1024 * n) (2 ^ k) (omega arith)

    exponent-is : (n j k : ℕ) → 2 ^ j ≤ n → n < 2 * 2 ^ j → IsOctave n k → j ≡ k
    exponent-is n j k least most at = elim (cases_lt k j) [
      | inl above ↦
          let up : 2 ^ suc k ≤ 2 ^ j = pow_mono {i = suc k} {j = j} (omega (arith, above)) in
          omega (arith, up, two-pow-succ k, least, at.most)
      | inr rest ↦ elim (cases_lt j k) [
        | inl under ↦
            let up : 2 ^ suc j ≤ 2 ^ k = pow_mono {i = suc j} {j = k} (omega (arith, under)) in
            omega (arith, up, two-pow-succ j, at.least, most)
        | inr fine ↦ omega (arith, rest, fine)
      ]
    ]

-- no number is high
pub level-small : (n : ℕ) → n < 2 ^ 128 → level n < 2 ^ 18
level-small n small = elim (cases_lt 0 n) [
  | inl some ↦
      let at = octave-is n some small in
      omega (arith, level-most n at.0 at.1, at.1.small)
  | inr none ↦
      let is : n ≡ 0 = omega (arith, none) in
      omega (arith, ap level is ∙ level-none)
]

-- nor what its octave makes of it
pub small-at : (n k : ℕ) → n < 2 ^ 128 → k ≡ octave n → 1024 * k + 1024 * n / 2 ^ k < 2 ^ 18
unfolding level
small-at n k small is = rw is (level-small n small)

-- a greater amount does not stand further left
pub place-rises : (long m n full : ℕ) → m ≤ n → place long m full ≤ place long n full
place-rises long m n full below =
    let all = max full 1 in
    let some : 0 < all = omega arith in
    let up : long * m ≤ long * n = mul-le-mul_left long below in
    le-div (long * m / all) (long * n) all some (omega (arith, div-mul-le_self (long * m) all, up))

-- the least amount stands where the axis begins
pub axis-begins : (long least most : ℕ) → level_place long least least most ≡ 0
axis-begins long least most =
    let all = max (level most - level least) 1 in
    let same : level least - level least ≡ 0 = omega arith in
    let none : long * 0 ≡ 0 = omega arith in
    ap (λ (n : ℕ). long * n / all) same ∙ ap (λ (n : ℕ). n / all) none ∙ zero-div all

-- the greatest amount where it ends
pub axis-ends : (long least most : ℕ) → 0 < least → 2 * least ≤ most → most < 2 ^ 128
    → level_place long most least most ≡ long
axis-ends long least most some twice small =
    let low = level least in
    let high = level most in
    let up : level (2 * least) ≤ high = level-rises (2 * least) most twice small in
    let next : level (2 * least) ≡ low + 1024 = level-doubles least some (omega (arith, twice, small)) in
    let room : 0 < high - low = omega (arith, up, next) in
    let same : max (high - low) 1 ≡ high - low = omega (arith, room) in
    ap (λ (n : ℕ). long * (high - low) / n) same ∙ mul-div_left long room

-- nor on a logarithmic axis
pub axis-ordered : (long m n least most : ℕ) → m ≤ n → n < 2 ^ 128
    → level_place long m least most ≤ level_place long n least most
axis-ordered long m n least most below small =
    let up = level-rises m n below small in
    place-rises long (level m - level least) (level n - level least) (level most - level least) (omega (arith, up))
