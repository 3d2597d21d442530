-- The first start of a frame at or after a minislot.
use Rattle.std.proofs.Common.{◌≡◌, ℕ, ◌+◌, ◌-◌, ◌*◌, ◌/◌, ◌%◌, ◌≤◌, ◌<◌, inl, inr, mul_comm, mul-add, arith}
use Rattle.std.proofs.Math.Nat.{mul-mod_left, div-mul-le_self, lt-div-mul-add, mul-le-mul_left}
use Rattle.std.proofs.lemmas.Bool.{cases_lt}
use Rattle.minislots.specs.declared.config.Config.{Config}
use Rattle.sched_history.specs.Time.{IsFirstStart}

module _ (c : Config) (slot : ℕ) (some : 0 < c.frame) where
  rounded-least : (n : ℕ) → n % c.frame ≡ 0 → slot ≤ n → (slot + c.frame - 1) / c.frame * c.frame ≤ n
  rounded-least n whole reached =
      let frames : ℕ = (slot + c.frame - 1) / c.frame in
      elim (cases_lt (n / c.frame) frames) [
        | inl fewer ↦ (let next : n / c.frame + 1 ≤ frames = omega arith in
            absurd (omega (
              arith,
              mul-le-mul_left {m = n / c.frame + 1} {n = frames} c.frame next,
              mul-add c.frame (n / c.frame) 1,
              mul_comm frames c.frame,
              div-mul-le_self (slot + c.frame - 1) c.frame,
            )))
        | inr enough ↦ omega (
          arith,
          mul-le-mul_left {m = frames} {n = n / c.frame} c.frame enough,
          mul_comm frames c.frame,
        )
      ]

  -- it is the minislot rounded up to whole frames
  pub IsFirstStart-rounded : IsFirstStart c slot ((slot + c.frame - 1) / c.frame * c.frame)
  IsFirstStart-rounded = record {
    whole = mul-mod_left ((slot + c.frame - 1) / c.frame) c.frame;
    reached = omega (arith, some, lt-div-mul-add {a = slot + c.frame - 1} some);
    least = rounded-least;
  }

  -- it is less than a frame later
  pub first_start-near : (start : ℕ) → IsFirstStart c slot start → start < slot + c.frame
  first_start-near start first =
      let rounded : IsFirstStart c slot ((slot + c.frame - 1) / c.frame * c.frame) = IsFirstStart-rounded in
      omega (
        arith,
        some,
        first.least ((slot + c.frame - 1) / c.frame * c.frame) rounded.whole rounded.reached,
        div-mul-le_self (slot + c.frame - 1) c.frame,
      )
