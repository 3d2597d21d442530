-- The frames of a phase by their numbers.
use Rattle.std.proofs.Common.{◌≡◌, sym, ap, ◌∙◌, ℕ, ◌+◌, ◌*◌, ◌/◌, ◌%◌, ◌<◌, arith}
use Rattle.std.proofs.lemmas.Nat.{div-mul-add}
use Rattle.std.proofs.Math.Nat.{mod-eq_of_lt, mod-lt, mul_comm, div-add-mod, mul-add-mod_self_right}
use Rattle.minislots.specs.declared.config.Config.{Config}
use Rattle.periodic.specs.declared.spots.PlacedFlow.{PlacedFlow}
use Rattle.periodic.specs.Fields.{IsSoundFlow}
use Rattle.periodic.specs.Groups.{own_place, IsSoundMember}
use Rattle.periodic.proofs.Parameters.{places_of}

-- the number of a frame among those of its phase tells the frame
pub number-place : (place frames first : ℕ) → place % frames ≡ first → place / frames * frames + first ≡ place
number-place place frames first nominal =
    ap (λ n. place / frames * frames + n) (sym nominal)
    ∙ ap (λ n. n + place % frames) (mul_comm (place / frames) frames) ∙ div-add-mod place frames

module _ (c : Config) (f : PlacedFlow) (sound : IsSoundFlow c f) where
  -- an interval has frames
  pub some-frames : 0 < f.interval
  some-frames =
      let places = places_of c f.spec sound.times.lawful sound.sound.periodic sound.sound.no_fault in
      omega (arith, sound.times.interval, places.interval_positive)

  phase-low : f.phase < f.interval
  phase-low =
      let places = places_of c f.spec sound.times.lawful sound.sound.periodic sound.sound.no_fault in
      rw (sound.times.phase, sound.times.interval)
      (mod-lt (f.placement.reference / c.frame) places.interval_positive)

  -- the frame of a number has it, and is one of the flow's phase
  pub own-number : (number : ℕ) → own_place f number / f.interval ≡ number
  own-number number = div-mul-add number f.interval f.phase phase-low

  pub own-phase : (number : ℕ) → own_place f number % f.interval ≡ f.phase
  own-phase number = mul-add-mod_self_right number f.interval f.phase ∙ mod-eq_of_lt phase-low

-- the frame of a group's phase is the one of its number for each flow of the group
pub member-place : (c : Config) (frames first place : ℕ) (f : PlacedFlow) → IsSoundMember c frames first f
    → place % frames ≡ first → own_place f (place / frames) ≡ place
member-place c frames first place f member nominal =
    ap (λ n. place / frames * n + f.phase) member.interval ∙ ap (λ n. place / frames * frames + n) member.phase
    ∙ number-place place frames first nominal
