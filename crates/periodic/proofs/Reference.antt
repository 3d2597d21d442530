-- The first nominal time at or after a frame's start.
use Rattle.std.proofs.Common.{◌≡◌, ap, ◌∙◌, ℕ, ◌+◌, ◌-◌, ◌*◌, ◌/◌, ◌%◌, ◌<◌, inl, inr, arith}
use Rattle.std.proofs.lemmas.Bool.{cases_lt}
use Rattle.std.proofs.lemmas.Nat.{div-mul-add, mod-mul-add, mul-add-lt, div-add-mod'}
use Rattle.std.proofs.Math.Nat.{add-mod_right, mod-eq_of_lt}
use Rattle.minislots.specs.declared.config.Config.{Config}
use Rattle.periodic.specs.Search.{IsReference}

-- the frames to wait for the next one of this phase
abbrev pub wait_for : ℕ → ℕ → ℕ → ℕ
wait_for interval phase frames = (phase + interval - frames % interval) % interval

-- after them stands a frame of this phase
pub wait-reaches : (f phase n : ℕ) → phase < f → (n + wait_for f phase n) % f ≡ phase
wait-reaches f phase n lt =
    let whole = div-add-mod' n f in
    let rest : n % f < f = omega arith in
    elim (cases_lt phase (n % f)) [
      | inl over ↦ (
          let wait : wait_for f phase n ≡ phase + f - n % f = mod-eq_of_lt (omega arith) in
          let split : n + wait_for f phase n ≡ n / f * f + phase + f = omega arith in
          ap (λ m. m % f) split ∙ add-mod_right (n / f * f + phase) f ∙ mod-mul-add (n / f) f phase lt)
      | inr under ↦ (
          let turn : phase + f - n % f ≡ phase - n % f + f = omega arith in
          let small : phase - n % f < f = omega arith in
          let wait : wait_for f phase n ≡ phase - n % f = ap (λ m. m % f) turn ∙ add-mod_right (phase - n % f) f
          ∙ mod-eq_of_lt small in
          let split : n + wait_for f phase n ≡ n / f * f + phase = omega arith in
          ap (λ m. m % f) split ∙ mod-mul-add (n / f) f phase lt)
    ]

-- the nominal time of that frame is the reference
pub reference-is : (c : Config) (f next phase offset : ℕ) → phase < f → offset < c.frame → next % c.frame ≡ 0
    → IsReference c f next phase offset ((next / c.frame + wait_for f phase (next / c.frame)) * c.frame + offset)
reference-is c f next phase offset lt within aligned =
    let w = c.frame in
    let n = next / w in
    let wait = wait_for f phase n in
    let whole = div-add-mod' next w in
    let short : wait < f = omega arith in
    let frame : ((n + wait) * w + offset) / w ≡ n + wait = div-mul-add (n + wait) w offset within in
    let low : n * w + wait * w ≡ (n + wait) * w = omega arith in
    let far = mul-add-lt (n + wait) w offset (n + f) (omega arith) within in
    let high : w * (n + f) ≡ n * w + f * w = omega arith in
    record {
      not_before = omega arith;
      first = omega arith;
      phase_is = ap (λ m. m % f) frame ∙ wait-reaches f phase n lt;
      offset_is = mod-mul-add (n + wait) w offset within;
    }
