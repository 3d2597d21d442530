-- What a lawful configuration keeps to.
use Rattle.std.proofs.Common.{◌≡◌, refl, ℕ, ◌≤◌, Bool, true, false, not, cond, ◌&&◌}
use Rattle.std.proofs.Common.{nat_le, ◌==◌, List, [], ◌∷◌, Option, Some, None, arith}
use Rattle.std.proofs.lemmas.Bool.Decides.{nat_tests}
use Rattle.minislots.specs.declared.TheConstants.{MAX_ASK}
use Rattle.minislots.specs.declared.config.Config.{Config}
use Rattle.minislots.specs.declared.config.ConfigFault.{ConfigFault}
use Rattle.minislots.specs.Config.{is_lawful_field, fields, burst_fields, first_wrong_of, first_wrong}
use Rattle.minislots.specs.Config.{IsLawful, HasBounds, is_ticks, has_bytes_per_slot, has_overhead, has_descriptors}
use Rattle.minislots.specs.declared.bursts.Bursts.{Bursts}
use Rattle.minislots.specs.declared.bursts.Bursts.TheVariants.{Uniform, Described}
use Rattle.minislots.specs.declared.bursts.Profile.{Profile}
use Rattle.minislots.specs.declared.bursts.Descriptors.{Descriptors}
use Rattle.minislots.specs.Bursts.{is_within, is_profile, are_descriptors, are_bursts, IsSound, AreSound, HasBursts}

-- a list of fields that are all lawful
abbrev pub AreLawful : Config → List ConfigFault → Type 0
AreLawful c [] = Unit {0}
AreLawful c (field ∷ some) = (is_lawful_field c field ≡ true) × AreLawful c some

not_found : {X : Type 0} (b : Bool) (x : X) (rest : Option X) → cond (not b) (Some x) rest ≡ None
    → (b ≡ true) × (rest ≡ None)
not_found true x rest h = (refl, h)
not_found false x rest h = absurd (cc)

-- where none of some fields is wrong, each is lawful
pub are_lawful : (c : Config) (some : List ConfigFault) → first_wrong_of c some ≡ None → AreLawful c some
are_lawful c [] h = tt
are_lawful c (field ∷ some) h =
    let both : (is_lawful_field c field ≡ true) × (first_wrong_of c some ≡ None) =
    not_found (is_lawful_field c field) field (first_wrong_of c some) h in
    (both.0, are_lawful c some both.1)

-- what the test of a range says
pub within : (low high n : ℕ) → is_within low high n ≡ true → (low ≤ n) × (n ≤ high)
within low high n h = grind (arith, nat_tests)

ticks_within : (n : ℕ) → is_ticks n ≡ true → (1 ≤ n) × (n ≤ 128)
ticks_within n h = grind (arith, nat_tests)

-- each field of a lawful configuration is lawful
each_lawful : (c : Config) → IsLawful c → AreLawful c fields
unfolding first_wrong
each_lawful c h = are_lawful c fields h

both : (a b : Bool) → a && b ≡ true → (a ≡ true) × (b ≡ true)
both a b h = grind (arith, nat_tests)

at_most : (n high : ℕ) → nat_le n high ≡ true → n ≤ high
at_most n high h = grind (arith, nat_tests)

equal : (m n : ℕ) → (m == n) ≡ true → m ≡ n
equal m n h = grind (arith, nat_tests)

-- a lawful profile keeps to its bounds
pub sound_profile : (p : Profile) → is_profile p ≡ true → IsSound p
sound_profile p h = record {
  preamble_most = grind (arith, nat_tests);
  guard_most = grind (arith, nat_tests);
  bits_positive = grind (arith, nat_tests);
  bits_most = grind (arith, nat_tests);
  parity_most = grind (arith, nat_tests);
  information_least = grind (arith, nat_tests);
  information_most = grind (arith, nat_tests);
  codeword_most = grind (arith, nat_tests);
  shortened_most = grind (arith, nat_tests);
}

-- and so do lawful descriptors
pub sound_descriptors : (d : Descriptors) → are_descriptors d ≡ true → AreSound d
sound_descriptors d h =
    let unsolicited = both _ _ h in
    let long = both _ _ unsolicited.0 in
    let short = both _ _ long.0 in
    record {
      symbols_positive = (within 1 4096 d.symbols short.0).0;
      symbols_most = (within 1 4096 d.symbols short.0).1;
      short = sound_profile d.short short.1;
      long = sound_profile d.long long.1;
      unsolicited = sound_profile d.unsolicited unsolicited.1;
    }

-- what is known of bursts whose fields are lawful
pub sound_bursts : (b : Bursts) → has_bytes_per_slot b ≡ true → has_overhead b ≡ true → has_descriptors b ≡ true
    → HasBursts b
sound_bursts (Uniform bytes_per_slot overhead) bytes spent described = record {
  bytes_positive = (within 1 1024 bytes_per_slot bytes).0;
  bytes_most = (within 1 1024 bytes_per_slot bytes).1;
  overhead_positive = (within 1 64 overhead spent).0;
  overhead_most = (within 1 64 overhead spent).1;
}
sound_bursts (Described d) bytes spent described = sound_descriptors d described

-- bursts whose fields are lawful are lawful
pub lawful_bursts : (b : Bursts) → has_bytes_per_slot b ≡ true → has_overhead b ≡ true → has_descriptors b ≡ true
    → are_bursts b ≡ true
lawful_bursts (Uniform bytes_per_slot overhead) bytes spent described = grind (arith, nat_tests)
lawful_bursts (Described d) bytes spent described = described

-- what is known of bursts none of whose fields is wrong
pub bursts_of : (c : Config) → first_wrong_of c burst_fields ≡ None → HasBursts c.bursts
bursts_of c h =
    let (ticks, (bytes, (overhead, (described, rest)))) = are_lawful c burst_fields h in
    sound_bursts c.bursts bytes overhead described

-- a lawful configuration keeps to its bounds
pub bounds_of : (c : Config) → IsLawful c → HasBounds c
bounds_of c h =
    let (ticks, (bytes, (overhead, (described, of_frame)))) = each_lawful c h in
    let (frame, (cycle, (requests, (polls, (lead, (short, of_grants)))))) = of_frame in
    let (quantum, (cap, of_history)) = of_grants in
    let (receivers, (calls, (start, of_backoffs))) = of_history in
    let (ranging_start, (ranging_end, (data_start, (data_end, of_channel)))) = of_backoffs in
    let (phy, (flows, (pending, (periodic, (open_idle, (settle, end)))))) = of_channel in
    record {
      ticks_positive = omega (arith, ticks_within c.ticks ticks);
      ticks_most = (ticks_within c.ticks ticks).1;
      bursts = sound_bursts c.bursts bytes overhead described;
      frame_least = (within 16 1024 c.frame frame).0;
      frame_most = (within 16 1024 c.frame frame).1;
      cycle_positive = (within 1 64 c.cycle cycle).0;
      cycle_most = (within 1 64 c.cycle cycle).1;
      requests_positive = at_most _ _ (both _ _ requests).0;
      requests_fit = at_most _ _ (both _ _ requests).1;
      poll_positive = at_most _ _ (both _ _ polls).0;
      poll_fits = at_most _ _ (both _ _ polls).1;
      lead_most = at_most _ _ lead;
      short_most = at_most _ _ short;
      quantum_least = (within 64 1522 c.quantum (both _ _ quantum).0).0;
      quantum_most = (within 64 1522 c.quantum (both _ _ quantum).0).1;
      quantum_fits = at_most _ _ (both _ _ quantum).1;
      cap_least = (within c.quantum MAX_ASK c.grant_cap cap).0;
      cap_most = (within c.quantum MAX_ASK c.grant_cap cap).1;
      receivers_positive = (within 1 16 c.receivers receivers).0;
      receivers_most = (within 1 16 c.receivers receivers).1;
      calls_positive = (within 1 16777216 c.calls calls).0;
      calls_most = (within 1 16777216 c.calls calls).1;
      start_aligned = equal _ _ (both _ _ start).0;
      start_most = at_most _ _ (both _ _ start).1;
      ranging_start_most = at_most _ _ ranging_start;
      ranging_end_most = at_most _ _ ranging_end;
      data_start_most = at_most _ _ data_start;
      data_end_most = at_most _ _ data_end;
      phy_most = at_most _ _ phy;
      flows_positive = (within 1 8191 c.flows flows).0;
      flows_most = (within 1 8191 c.flows flows).1;
      pending_positive = (within 1 125 c.pending pending).0;
      pending_most = (within 1 125 c.pending pending).1;
      periodic_most = at_most _ _ periodic;
      open_idle_most = at_most _ _ open_idle;
      settle_most = at_most _ _ settle;
    }
