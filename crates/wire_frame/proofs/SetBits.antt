-- Lists of bits of which one is set, or two.
use Rattle.std.proofs.Common.{◌≡◌, ℕ, suc, ◌+◌, ◌*◌, ◌^◌, ◌<◌}
use Rattle.std.proofs.Common.{Bool, true, false, List, [], ◌∷◌, length, bit_xor}
use Rattle.std.proofs.Common.{refl, sym, ap, ap₂, ◌∙◌, arith, pow-suc}
use Rattle.std.specs.Int.Bits.{xor_shifted, xor_block}
use Rattle.wire_frame.specs.Checksum.{bits_set}
use Rattle.wire_frame.proofs.Values.{value}

none_set : (p : List Bool) → bits_set p ≡ 0 → value p ≡ 0
unfolding value
none_set [] e = refl
none_set (true ∷ p) e = absurd (omega arith)
none_set (false ∷ p) e = let rest = none_set p e in omega (arith, rest)

-- A place below the length, whose power of two is the number
pub record One (p : List Bool) : Type 0 where
  pub at : ℕ
  pub within : at < length p
  pub is : value p ≡ 2 ^ at

-- a list of bits of which one is set has such a place
pub one_set : (p : List Bool) → bits_set p ≡ 1 → One p
unfolding value
one_set [] e = absurd (omega arith)
one_set (true ∷ p) e =
    let rest = none_set p (omega arith) in
    record { at = 0; within = omega arith; is = omega (arith, rest) }
one_set (false ∷ p) e =
    let o = one_set p e in
    let up = pow-suc 2 o.at in
    let within = o.within in
    let is = o.is in
    record { at = suc o.at; within = omega (arith, within); is = omega (arith, is, up) }

-- Two places, whose powers of two are the number
pub record Two (p : List Bool) : Type 0 where
  pub high : ℕ
  pub low : ℕ
  pub below : low < high
  pub within : high < length p
  pub is : value p ≡ bit_xor (2 ^ high) (2 ^ low)

-- and one of which two are set has two such places
pub two_set : (p : List Bool) → bits_set p ≡ 2 → Two p
unfolding value
two_set [] e = absurd (omega arith)
two_set (true ∷ p) e =
    let o = one_set p (omega arith) in
    let within = o.within in
    let lowest : bit_xor (2 ^ o.at * 2) 1 ≡ 2 ^ o.at * 2 + 1 = xor_shifted (2 ^ o.at) 1 1 (omega arith) in
    record {
      high = suc o.at;
      low = 0;
      below = omega arith;
      within = omega (arith, within);
      is = ap (λ x. x * 2 + 1) o.is ∙ sym lowest ∙ ap (λ x. bit_xor x 1) (sym (pow-suc 2 o.at));
    }
two_set (false ∷ p) e =
    let t = two_set p e in
    let below = t.below in
    let within = t.within in
    let whole : bit_xor (2 ^ t.high * 2 + 0) (2 ^ t.low * 2 + 0) ≡ bit_xor (2 ^ t.high) (2 ^ t.low) * 2 + 0
    = xor_block 1 (2 ^ t.high) (2 ^ t.low) 0 0 (omega arith) (omega arith) in
    let up_high : 2 ^ t.high * 2 + 0 ≡ 2 ^ suc t.high = let up = pow-suc 2 t.high in omega (arith, up) in
    let up_low : 2 ^ t.low * 2 + 0 ≡ 2 ^ suc t.low = let up = pow-suc 2 t.low in omega (arith, up) in
    record {
      high = suc t.high;
      low = suc t.low;
      below = omega (arith, below);
      within = omega (arith, within);
      is = ap (λ x. x * 2 + 0) t.is ∙ sym whole ∙ ap₂ bit_xor up_high up_low;
    }
