-- Worked objects: the bursts that each stands for.
use Rattle.std.proofs.Common.{◌≡◌, codes, Some, None, refl}
use Rattle.serde_json.specs.Data.{Data, null, number, unsigned, object, Members, no_members, member, put}
use Rattle.minislots.specs.declared.bursts.Bursts.TheVariants.{Uniform, Described}
use Rattle.minislots.specs.declared.bursts.Profile.{Profile}
use Rattle.json_fields.specs.Fields.{u32_at, number_at, profile_of, profile_at, descriptors_of, uniform_of, bursts_of}

-- the burst descriptors of short and of long grants, and of unsolicited ones
abbrev short : Profile
short = record { preamble = 32; guard = 22; bits = 6; parity = 6; information = 76; shortened = 1 }

abbrev long : Profile
long = record { preamble = 32; guard = 22; bits = 6; parity = 9; information = 232; shortened = 1 }

abbrev unsolicited : Profile
unsolicited = record { preamble = 16; guard = 8; bits = 4; parity = 5; information = 78; shortened = 0 }

-- the members of one
abbrev members : Profile → Members
members p =
    member (codes "bits") (number (unsigned p.bits)) (member (codes "guard") (number (unsigned p.guard)) (
    member (codes "information") (number (unsigned p.information)) (
    member (codes "parity") (number (unsigned p.parity)) (
    member (codes "preamble") (number (unsigned p.preamble)) (
    member (codes "shortened") (number (unsigned p.shortened)) no_members)))))

-- minislots of 64 symbols with those of short and of long grants, and these members
abbrev descriptors : Members → Data
descriptors more = object (
    put (codes "symbols") (number (unsigned 64)) (put (codes "short") (object (members short)) (
    put (codes "long") (object (members long)) more)))

a_descriptor : profile_of (object (members unsolicited)) ≡ Some unsolicited
unfolding profile_of u32_at number_at
a_descriptor = refl

a_descriptor_without_guard_time :
    profile_of (object (member (codes "bits") (number (unsigned 6)) no_members)) ≡ None
unfolding profile_of u32_at number_at
a_descriptor_without_guard_time = refl

a_guard_time_of_33_bits : profile_of (object (put (codes "guard") (number (unsigned 4294967296)) (members long))) ≡ None
unfolding profile_of u32_at number_at
a_guard_time_of_33_bits = refl

three_descriptors :
    descriptors_of (descriptors (member (codes "unsolicited") (object (members unsolicited)) no_members))
    ≡ Some (record { symbols = 64; short = short; long = long; unsolicited = unsolicited })
unfolding descriptors_of profile_at profile_of u32_at number_at
three_descriptors = refl

-- where that of unsolicited grants is missing, it is the one of long grants
two_descriptors : descriptors_of (descriptors no_members)
    ≡ Some (record { symbols = 64; short = short; long = long; unsolicited = long })
unfolding descriptors_of profile_at profile_of u32_at number_at
two_descriptors = refl

-- and is not missing where it is null
unsolicited_grants_of_null : descriptors_of (descriptors (member (codes "unsolicited") null no_members)) ≡ None
unfolding descriptors_of profile_at profile_of u32_at number_at
unsolicited_grants_of_null = refl

-- the bytes of a minislot and the overhead, and these members
abbrev uniform : Members → Data
uniform more = object (
    put (codes "bytes_per_slot") (number (unsigned 16)) (put (codes "overhead") (number (unsigned 2)) more))

without_descriptors : bursts_of (uniform no_members) ≡ Some (Uniform 16 2)
unfolding bursts_of uniform_of u32_at number_at
without_descriptors = refl

-- nobody reads them beside descriptors
beside_descriptors : bursts_of (uniform (member (codes "bursts") (descriptors no_members) no_members))
    ≡ Some (Described (record { symbols = 64; short = short; long = long; unsolicited = long }))
unfolding bursts_of descriptors_of profile_at profile_of u32_at number_at
beside_descriptors = refl

-- also where they are no numbers
beside_no_numbers :
    bursts_of (object (member (codes "bursts") (descriptors no_members) (member (codes "overhead") null no_members)))
    ≡ Some (Described (record { symbols = 64; short = short; long = long; unsolicited = long }))
unfolding bursts_of descriptors_of profile_at profile_of u32_at number_at
beside_no_numbers = refl

-- descriptors that are null stand all the same
bursts_of_null : bursts_of (uniform (member (codes "bursts") null no_members)) ≡ None
unfolding bursts_of descriptors_of u32_at number_at
bursts_of_null = refl

-- and so do some that have no descriptor of short grants
bursts_without_short_grants : bursts_of (uniform (member (codes "bursts") (object (
    member (codes "long") (object (members long)) (member (codes "symbols") (number (unsigned 64)) no_members)))
    no_members)) ≡ None
unfolding bursts_of descriptors_of profile_at u32_at number_at
bursts_without_short_grants = refl
