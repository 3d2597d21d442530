-- The bar of an allocation stands over its minislots.
use Rattle.std.proofs.Common.{◌≡◌, ℕ, Bool, ◌+◌, ◌-◌, ◌*◌, ◌<◌, ◌≤◌, List, arith}
use Rattle.std.specs.Prelude.{◌↔◌}
use Rattle.std.proofs.Math.Nat.{mul-le-mul_left, mul-lt-mul_of_pos_left, le_of_mul-le-mul_left, lt_of_mul-lt-mul_left}
use Rattle.map_codec.specs.declared.element.Element.{Element}
use Rattle.map_codec.specs.Element.{element_at}
use Rattle.map_build.specs.declared.met.Met.{Met}
use Rattle.map_drawing.specs.Rows.{HasSlot}
use Rattle.frame_picture.specs.Bar.{bar_at, IsUnder}

-- what is so many units wide, and then so many more
together : (units a n : ℕ) → units * (a + n) ≡ units * a + units * n
together units a n = omega arith

module _ (units a b slot : ℕ) (wide : 0 < units) where
  -- a minislot from a up to b stands before the end of the bar
  before_end : a ≤ slot → slot < b → units * slot < units * a + units * (b - a)
  before_end begins ends =
      let last : slot < a + (b - a) = omega (arith, begins, ends) in
      let far : units * slot < units * (a + (b - a)) = mul-lt-mul_of_pos_left last wide in
      omega (arith, far, together units a (b - a))

  -- and what stands there is one
  inside : a ≤ slot → units * slot < units * a + units * (b - a) → slot < b
  inside begins ends =
      let far : units * slot < units * (a + (b - a)) = omega (arith, ends, together units a (b - a)) in
      let last : slot < a + (b - a) = lt_of_mul-lt-mul_left units far in
      omega (arith, begins, last)

-- a minislot stands under the bar of the allocation that has it, and under no other
pub under_its_bar : (units : ℕ) → 0 < units → (unsolicited : ℕ → Bool) (met : List Met) (es : List Element)
    → (bytes : List ℕ) (i slot : ℕ)
    → (HasSlot es i slot ↔ IsUnder (bar_at units unsolicited met es bytes i) (units * slot))
under_its_bar units wide unsolicited met es bytes i slot =
    let a = (element_at es i).offset in
    let b = (element_at es (i + 1)).offset in (
      λ has. record {
        begins = mul-le-mul_left units has.begins;
        ends = before_end units a b slot wide has.begins has.ends;
      },
      λ under.
          let begins : a ≤ slot = le_of_mul-le-mul_left under.begins wide in
          record { begins = begins; ends = inside units a b slot wide begins under.ends },
    )
