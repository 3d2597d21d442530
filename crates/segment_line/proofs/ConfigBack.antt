-- A configuration is read as it is written: what stands there of it stands for it again.
use Rattle.std.proofs.Common.{◌≡◌, ◌⊎◌, ℕ, ◌<◌, ◌^◌, true, List, None, Some, inl, inr}
use Rattle.std.proofs.Common.{refl, sym, ap, arith}
use Rattle.std.specs.Prelude.{codes}
use Rattle.std.proofs.lemmas.Bool.{cases_Bool}
use Rattle.std.proofs.lemmas.Bool.Decides.{nat_tests}
use Rattle.serde_json.specs.Data.{Data, object, no_members, member}
use Rattle.serde_json.specs.Find.{get_member}
use Rattle.minislots.specs.declared.bursts.Bursts.{Bursts}
use Rattle.minislots.specs.declared.bursts.Bursts.TheVariants.{Uniform, Described}
use Rattle.minislots.specs.declared.bursts.Descriptors.{Descriptors}
use Rattle.minislots.specs.declared.bursts.Profile.{Profile}
use Rattle.minislots.specs.declared.config.Config.{Config}
use Rattle.json_fields.specs.Fields.{number_at, u8_at, u32_at, u64_at, slots_of, sizes_of}
use Rattle.json_fields.specs.Fields.{counts_of, windows_of, u8_or, profile_of, profile_at, descriptors_of, uniform_of}
use Rattle.json_fields.specs.Fields.{bursts_of, u32_or, limits_of, idles_of, config_of}
use Rattle.history_writing.specs.Json.{count}
use Rattle.history_writing.specs.HistoryText.{is_same_profile, profile_data, unsolicited_member, descriptors_data}
use Rattle.history_writing.specs.HistoryText.{members_with, config_data}
use Rattle.history_writing.specs.Fits.{ProfileFits, BurstsFit, ConfigFits}
use Rattle.state_text.proofs.FlowText.{below-fits, or_none, or_missing-data}
use Rattle.segment_line.proofs.ConfigPlaces.{found_there, Has, has}

-- burst descriptors with the same numbers are the same
same_profile : (p q : Profile) → is_same_profile p q ≡ true → p ≡ q
same_profile p q same =
    let bits : p.bits ≡ q.bits = grind (arith, nat_tests) in
    let guard : p.guard ≡ q.guard = grind (arith, nat_tests) in
    let information : p.information ≡ q.information = grind (arith, nat_tests) in
    let parity : p.parity ≡ q.parity = grind (arith, nat_tests) in
    let preamble : p.preamble ≡ q.preamble = grind (arith, nat_tests) in
    let shortened : p.shortened ≡ q.shortened = grind (arith, nat_tests) in
    λ i. record {
      preamble = preamble i;
      guard = guard i;
      bits = bits i;
      parity = parity i;
      information = information i;
      shortened = shortened i;
    }

-- the descriptor of unsolicited grants is that of long ones, or it stands there
pub unsolicited_stands : (d : Descriptors) → ((unsolicited_member d ≡ no_members) × (d.long ≡ d.unsolicited))
    ⊎ (unsolicited_member d ≡ member (codes "unsolicited") (profile_data d.unsolicited) no_members)
unfolding unsolicited_member
unsolicited_stands d = elim (cases_Bool (is_same_profile d.unsolicited d.long)) [
  | inl same ↦ inl (rw same refl, sym (same_profile d.unsolicited d.long same))
  | inr other ↦ inr (rw other refl)
]

-- a burst descriptor is read back
profile_of-data : (p : Profile) → ProfileFits p → profile_of (profile_data p) ≡ Some p
unfolding profile_of u32_at number_at profile_data
profile_of-data p fits =
    rw (below-fits (2 ^ 32) p.preamble fits.preamble) (rw (below-fits (2 ^ 32) p.guard fits.guard) (
    rw (below-fits (2 ^ 32) p.bits fits.bits) (rw (below-fits (2 ^ 32) p.parity fits.parity) (
    rw (below-fits (2 ^ 32) p.information fits.information) (
    rw (below-fits (2 ^ 32) p.shortened fits.shortened) refl)))))

-- burst descriptors are read back
descriptors_of-data : (d : Descriptors) → BurstsFit (Described d) → descriptors_of (descriptors_data d) ≡ Some d
unfolding descriptors_of profile_at u32_at number_at descriptors_data
descriptors_of-data d fits =
    rw (below-fits (2 ^ 32) d.symbols fits.0) (
    rw (profile_of-data d.short fits.1) (rw (profile_of-data d.long fits.2) (elim (unsolicited_stands d) [
      | inl as_long ↦ rw as_long.0 (ap (λ (p : Profile). Some (record d { unsolicited = p })) as_long.1)
      | inr stands ↦ rw stands (rw (profile_of-data d.unsolicited fits.3) refl)
    ])))

-- a number that always stands is found
found : (c : Config) (b : Bursts) (key : List ℕ) (n : ℕ) → Has c key (Some (count n))
    → number_at key (object (members_with c b)) ≡ Some n
unfolding number_at
found c b key n there = rw (has c b key (Some (count n)) there) refl

found_byte : (c : Config) (b : Bursts) (key : List ℕ) (n : ℕ) → Has c key (Some (count n)) → n < 2 ^ 8
    → u8_at key (object (members_with c b)) ≡ Some n
unfolding u8_at
found_byte c b key n there fits = rw (found c b key n there) (below-fits (2 ^ 8) n fits)

found_word : (c : Config) (b : Bursts) (key : List ℕ) (n : ℕ) → Has c key (Some (count n)) → n < 2 ^ 32
    → u32_at key (object (members_with c b)) ≡ Some n
unfolding u32_at
found_word c b key n there fits = rw (found c b key n there) (below-fits (2 ^ 32) n fits)

found_long : (c : Config) (b : Bursts) (key : List ℕ) (n : ℕ) → Has c key (Some (count n)) → n < 2 ^ 64
    → u64_at key (object (members_with c b)) ≡ Some n
unfolding u64_at
found_long c b key n there fits = rw (found c b key n there) (below-fits (2 ^ 64) n fits)

-- bursts are read back
bursts_of-data : (c : Config) (bursts : Bursts) → BurstsFit bursts
    → bursts_of (object (members_with c bursts)) ≡ Some bursts
unfolding bursts_of uniform_of u32_at number_at
bursts_of-data c (Uniform bytes_per_slot overhead) fits =
    let none : get_member (codes "bursts") (members_with c (Uniform bytes_per_slot overhead)) ≡ None =
    found_there c (Uniform bytes_per_slot overhead) (codes "bursts") in
    let spent : get_member (codes "overhead") (members_with c (Uniform bytes_per_slot overhead))
    ≡ Some (count overhead) = found_there c (Uniform bytes_per_slot overhead) (codes "overhead") in
    rw (none, spent) (
    rw (below-fits (2 ^ 32) bytes_per_slot fits.0) (rw (below-fits (2 ^ 32) overhead fits.1) refl))
bursts_of-data c (Described d) fits = rw (descriptors_of-data d fits) refl

byte_or-data : (c : Config) (b : Bursts) (missing : ℕ) (key : List ℕ) (n : ℕ) → n < 2 ^ 8
    → Has c key (or_none missing n) → u8_or missing key (object (members_with c b)) ≡ Some n
unfolding u8_or u8_at
byte_or-data c b missing key n fits there =
    or_missing-data (2 ^ 8) missing key n (object (members_with c b)) fits (has c b key (or_none missing n) there)

word_or-data : (c : Config) (b : Bursts) (missing : ℕ) (key : List ℕ) (n : ℕ) → n < 2 ^ 32
    → Has c key (or_none missing n) → u32_or missing key (object (members_with c b)) ≡ Some n
unfolding u32_or u32_at
word_or-data c b missing key n fits there =
    or_missing-data (2 ^ 32) missing key n (object (members_with c b)) fits (has c b key (or_none missing n) there)

-- what stands there beside the bursts is that of the configuration
abbrev HasOthers : Config → Data → Type 0
HasOthers c d = (slots_of d ≡ Some (c.ticks, c.frame, c.cycle))
    × (sizes_of d ≡ Some (c.req_slots, c.poll_slots, c.lead, c.short_max, c.quantum, c.grant_cap))
    × (counts_of d ≡ Some (c.receivers, c.calls, c.start, c.channel, c.ucd_count))
    × (windows_of (codes "ranging_start") (codes "ranging_end") d ≡ Some (c.ranging_start, c.ranging_end))
    × (windows_of (codes "data_start") (codes "data_end") d ≡ Some (c.data_start, c.data_end))
    × (u8_or 0 (codes "phy") d ≡ Some c.phy)

has_others : (c : Config) (b : Bursts) → ConfigFits c → HasOthers c (object (members_with c b))
unfolding slots_of sizes_of counts_of windows_of u8_or
has_others c b fits =
    let byte = found_byte c b in
    let word = found_word c b in
    let phy = has c b (codes "phy") (Some (count c.phy)) ((λ m n. refl), λ d. refl) in (
      rw (word (codes "ticks") c.ticks ((λ m n. refl), λ d. refl) fits.ticks) (
          rw (word (codes "frame") c.frame ((λ m n. refl), λ d. refl) fits.frame) (
          rw (word (codes "cycle") c.cycle ((λ m n. refl), λ d. refl) fits.cycle) refl)),
      rw (word (codes "req_slots") c.req_slots ((λ m n. refl), λ d. refl) fits.req_slots) (
          rw (word (codes "poll_slots") c.poll_slots ((λ m n. refl), λ d. refl) fits.poll_slots) (
          rw (word (codes "lead") c.lead ((λ m n. refl), λ d. refl) fits.lead) (
          rw (word (codes "short_max") c.short_max ((λ m n. refl), λ d. refl) fits.short_max) (
          rw (word (codes "quantum") c.quantum ((λ m n. refl), λ d. refl) fits.quantum) (
          rw (word (codes "grant_cap") c.grant_cap ((λ m n. refl), λ d. refl) fits.grant_cap) refl))))),
      rw (byte (codes "receivers") c.receivers ((λ m n. refl), λ d. refl) fits.receivers) (
          rw (word (codes "calls") c.calls ((λ m n. refl), λ d. refl) fits.calls) (
          rw (found_long c b (codes "start") c.start ((λ m n. refl), λ d. refl) fits.start) (
          rw (byte (codes "channel") c.channel ((λ m n. refl), λ d. refl) fits.channel) (
          rw (byte (codes "ucd_count") c.ucd_count ((λ m n. refl), λ d. refl) fits.ucd_count) refl)))),
      rw (byte (codes "ranging_start") c.ranging_start ((λ m n. refl), λ d. refl) fits.ranging_start) (
          rw (byte (codes "ranging_end") c.ranging_end ((λ m n. refl), λ d. refl) fits.ranging_end) refl),
      rw (byte (codes "data_start") c.data_start ((λ m n. refl), λ d. refl) fits.data_start) (
          rw (byte (codes "data_end") c.data_end ((λ m n. refl), λ d. refl) fits.data_end) refl),
      rw (phy, byte (codes "phy") c.phy ((λ m n. refl), λ d. refl) fits.phy) refl,
    )

-- the limits are read back
limits_of-data : (c : Config) (b : Bursts) → ConfigFits c
    → limits_of (object (members_with c b)) ≡ Some (c.flows, c.pending, c.periodic)
unfolding limits_of
limits_of-data c b fits =
    let word = word_or-data c b in
    rw (word 64 (codes "flows") c.flows fits.flows ((λ m n. refl), λ d. refl)) (
    rw (word 64 (codes "pending") c.pending fits.pending ((λ m n. refl), λ d. refl)) (
    rw (word 40 (codes "periodic") c.periodic fits.periodic ((λ m n. refl), λ d. refl)) refl))

-- and so are open idles and settling
idles_of-data : (c : Config) (b : Bursts) → ConfigFits c
    → idles_of (object (members_with c b)) ≡ Some (c.open_idle, c.settle)
unfolding idles_of
idles_of-data c b fits =
    rw (byte_or-data c b 0 (codes "open_idle") c.open_idle fits.open_idle ((λ m n. refl), λ d. refl)) (
    rw (word_or-data c b 0 (codes "settle") c.settle fits.settle ((λ m n. refl), λ d. refl)) refl)

-- a configuration is read back
pub config_of-data : (c : Config) → ConfigFits c → config_of (config_data c) ≡ Some c
unfolding config_of config_data
config_of-data c fits =
    let others = has_others c c.bursts fits in
    rw others.0 (rw (bursts_of-data c c.bursts fits.bursts) (
    rw others.1 (rw others.2 (rw others.3 (rw others.4 (rw others.5 (rw (limits_of-data c c.bursts fits) (
    rw (idles_of-data c c.bursts fits) refl))))))))
