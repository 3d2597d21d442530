-- The readers of a configuration and of burst descriptors take the objects of their forms and no others, and the least
-- and the greatest lawful numbers of a descriptor are those of its form.
use Rattle.std.proofs.Common.{◌≡◌, [], true, false, is_some, Bool, Option, Some, None, refl}
use Rattle.serde_json.specs.Data.{Data, null}
use Rattle.minislots.specs.Bursts.{is_profile, are_descriptors}
use Rattle.json_fields.specs.declared.forms.Sort.{Sort}
use Rattle.json_fields.specs.declared.forms.TheConstants.{CONFIGS, BURSTS, PROFILES}
use Rattle.json_fields.specs.Fields.{config_of, slots_of, sizes_of, counts_of, windows_of, u8_or, u8_at, u16_at, u32_at}
use Rattle.json_fields.specs.Fields.{u64_at, number_at, profile_of, profile_at, descriptors_of, uniform_of, bursts_of}
use Rattle.json_fields.specs.Fields.{limits_of, idles_of, u32_or}
use Rattle.json_fields.proofs.FormRows.{taken, least, worked_on, takes_forms, have_bounds}

-- a descriptor, and descriptors, with all members
abbrev profile : Sort → Data
profile sort = worked_on (taken [] (λ sort. null)) PROFILES

abbrev bursts : Sort → Data
bursts sort = worked_on (taken [] profile) BURSTS

profiles : takes_forms (λ d. is_some (profile_of d)) (λ sort. null) PROFILES ≡ true
unfolding profile_of u32_at number_at
profiles = refl

descriptors : takes_forms (λ d. is_some (descriptors_of d)) profile BURSTS ≡ true
unfolding descriptors_of profile_at profile_of u32_at number_at
descriptors = refl

-- with burst descriptors nobody reads the bytes of a minislot and the overhead, without them both are there
configurations : takes_forms (λ d. is_some (config_of d)) bursts CONFIGS ≡ true
unfolding config_of slots_of bursts_of uniform_of descriptors_of profile_at profile_of sizes_of counts_of windows_of
    limits_of idles_of u8_or u32_or u8_at u16_at u32_at u64_at number_at
configurations = refl

-- whether what is read is lawful
abbrev holds_of : {X : Type 0} → (X → Bool) → Option X → Bool
holds_of is_lawful None = false
holds_of is_lawful (Some x) = is_lawful x

lawful_profiles : have_bounds (λ d. holds_of is_profile (profile_of d)) (λ sort. null) PROFILES ≡ true
unfolding profile_of u32_at number_at
lawful_profiles = refl

lawful_descriptors : have_bounds (λ d. holds_of are_descriptors (descriptors_of d))
    (λ sort. worked_on (least (λ sort. null)) PROFILES) BURSTS ≡ true
unfolding descriptors_of profile_at profile_of u32_at number_at
lawful_descriptors = refl
