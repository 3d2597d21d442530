-- Which values of the quantum are lawful beside the fields before it.
use Rattle.std.proofs.Common.{◌≡◌, refl, ℕ, ◌+◌, ◌-◌, ◌*◌, ◌<◌, ◌≤◌, Bool, true, false, None, arith}
use Rattle.std.proofs.lemmas.Bool.Decides.{nat_tests}
use Rattle.minislots.specs.declared.config.Config.{Config}
use Rattle.minislots.specs.declared.config.ConfigFault.TheVariants.{ReqSlots, Lead, Quantum}
use Rattle.minislots.specs.Bursts.{is_within, HasBursts, are_bursts, long_slots}
use Rattle.minislots.specs.Config.{is_lawful_field, first_wrong_of}
use Rattle.minislots.specs.Ranges.{fields_before, with_value, most_quantum}
use Rattle.minislots.specs.Units.{slots_for, bytes_in}
use Rattle.minislots.proofs.Bounds.{are_lawful, within, sound_bursts, lawful_bursts}
use Rattle.minislots.proofs.UnitLaws.{fits_bytes, fits_slots, slots_for-positive}

-- two tests that pass together are one
same_test : (a b : Bool) → (a ≡ true → b ≡ true) → (b ≡ true → a ≡ true) → a ≡ b
same_test true true forth back = refl
same_test true false forth back = grind (arith, forth refl)
same_test false true forth back = back refl
same_test false false forth back = refl

fits_beside : (burst requests frame : ℕ) → 0 < burst → burst ≤ frame - requests → burst + requests ≤ frame
fits_beside burst requests frame some fits = omega arith

module _ (c : Config) (bursts : HasBursts c.bursts) where
  forth : (n : ℕ) → slots_for c n + c.req_slots ≤ c.frame → n ≤ bytes_in c (c.frame - c.req_slots)
  forth n fits = fits_bytes c bursts n (c.frame - c.req_slots) (omega (arith, fits))

  back : (n : ℕ) → 64 ≤ n → n ≤ bytes_in c (c.frame - c.req_slots) → slots_for c n + c.req_slots ≤ c.frame
  back n least carried =
      let some : 0 < n = omega (arith, least) in
      fits_beside _ _ _ (slots_for-positive c bursts n some)
      (fits_slots c bursts n (c.frame - c.req_slots) some carried)

-- the bursts are lawful where the fields before the request region are
pub bursts_before_requests : (c : Config) → first_wrong_of c (fields_before ReqSlots) ≡ None → are_bursts c.bursts ≡ true
bursts_before_requests c right =
    let (ticks, (bytes, (overhead, (described, rest)))) = are_lawful c (fields_before ReqSlots) right in
    lawful_bursts c.bursts bytes overhead described

-- and those before the quantum
pub bursts_before_quantum : (c : Config) → first_wrong_of c (fields_before Quantum) ≡ None → are_bursts c.bursts ≡ true
bursts_before_quantum c right =
    let (ticks, (bytes, (overhead, (described, rest)))) = are_lawful c (fields_before Quantum) right in
    lawful_bursts c.bursts bytes overhead described

-- the request region leaves room for a burst of one byte
pub requests_range : (c : Config) (n : ℕ)
    → is_lawful_field (with_value c ReqSlots n) ReqSlots ≡ is_within 1 (c.frame - long_slots c.bursts 1) n
requests_range c n = grind (arith, nat_tests)

-- the time ahead leaves room for two frames
pub lead_range : (c : Config) → first_wrong_of c (fields_before Lead) ≡ None → (n : ℕ)
    → is_lawful_field (with_value c Lead n) Lead ≡ is_within 0 (4096 - 2 * c.frame) n
lead_range c right n =
    let (ticks, (bytes, (overhead, (described, (frame, rest))))) = are_lawful c (fields_before Lead) right in
    let most : c.frame ≤ 1024 = (within 16 1024 c.frame frame).1 in
    grind (arith, nat_tests)

-- a burst of the quantum fits behind the request region where it has no more bytes than the rest of the frame carries
pub quantum_range : (c : Config) → first_wrong_of c (fields_before Quantum) ≡ None → (n : ℕ)
    → is_lawful_field (with_value c Quantum n) Quantum ≡ is_within 64 (most_quantum c) n
quantum_range c right n =
    let (ticks, (bytes, (overhead, (described, rest)))) = are_lawful c (fields_before Quantum) right in
    let bursts = sound_bursts c.bursts bytes overhead described in
    same_test _ _
    (λ lawful. grind (arith, nat_tests, forth c bursts n))
    (λ lawful. grind (arith, nat_tests, back c bursts n))
