-- What the fields of a JSON object stand for: numbers that fit their type, texts, burst descriptors, a configuration.
use Rattle.std.specs.Prelude.{ℕ, ◌^◌, nat_lt, if◌then◌else◌, List, codes, Option, Some, None, option_and_then}
use Rattle.serde_json.specs.Data.{Data}
use Rattle.serde_json.specs.Find.{get, as_number, as_u64, as_str}
use Rattle.minislots.specs.declared.bursts.Bursts.{Bursts}
use Rattle.minislots.specs.declared.bursts.Bursts.TheVariants.{Uniform, Described}
use Rattle.minislots.specs.declared.bursts.Descriptors.{Descriptors}
use Rattle.minislots.specs.declared.bursts.Profile.{Profile}
use Rattle.minislots.specs.declared.config.Config.{Config}

infixl 10 ◌>>=◌
abbrev pub ◌>>=◌ : {A B : Type 0} → Option A → (A → Option B) → Option B
m >>= f = option_and_then f m

-- a whole number below the limit
abbrev pub below : ℕ → ℕ → Option ℕ
below limit n = if nat_lt n limit then Some n else None

-- the whole number under this key: none that is negative, or written with a fraction or an exponent
unfoldable pub number_at : List ℕ → Data → Option ℕ
number_at key d = do
  found ← get key d
  number ← as_number found
  as_u64 number

-- the number under this key, where it fits 8 bits
unfoldable pub u8_at : List ℕ → Data → Option ℕ
u8_at key d = do
  n ← number_at key d
  below (2 ^ 8) n

-- the number under this key, where it fits 16 bits
unfoldable pub u16_at : List ℕ → Data → Option ℕ
u16_at key d = do
  n ← number_at key d
  below (2 ^ 16) n

-- the number under this key, where it fits 32 bits
unfoldable pub u32_at : List ℕ → Data → Option ℕ
u32_at key d = do
  n ← number_at key d
  below (2 ^ 32) n

-- the number under this key, where it fits 64 bits
unfoldable pub u64_at : List ℕ → Data → Option ℕ
u64_at key d = do
  n ← number_at key d
  below (2 ^ 64) n

-- the text under this key
unfoldable pub text_at : List ℕ → Data → Option (List ℕ)
text_at key d = do
  found ← get key d
  as_str found

-- the minislots, and the frames that they make
unfoldable pub slots_of : Data → Option (ℕ × ℕ × ℕ)
slots_of d = do
  ticks ← u32_at (codes "ticks") d
  frame ← u32_at (codes "frame") d
  cycle ← u32_at (codes "cycle") d
  Some (ticks, frame, cycle)

-- the sizes of regions and grants, and the time ahead
unfoldable pub sizes_of : Data → Option (ℕ × ℕ × ℕ × ℕ × ℕ × ℕ)
sizes_of d = do
  req_slots ← u32_at (codes "req_slots") d
  poll_slots ← u32_at (codes "poll_slots") d
  lead ← u32_at (codes "lead") d
  short_max ← u32_at (codes "short_max") d
  quantum ← u32_at (codes "quantum") d
  grant_cap ← u32_at (codes "grant_cap") d
  Some (req_slots, poll_slots, lead, short_max, quantum, grant_cap)

-- the receivers, the calls, the first minislot, the channel and the UCD count
unfoldable pub counts_of : Data → Option (ℕ × ℕ × ℕ × ℕ × ℕ)
counts_of d = do
  receivers ← u8_at (codes "receivers") d
  calls ← u32_at (codes "calls") d
  start ← u64_at (codes "start") d
  channel ← u8_at (codes "channel") d
  ucd_count ← u8_at (codes "ucd_count") d
  Some (receivers, calls, start, channel, ucd_count)

-- the first and the last backoff window, under these keys
unfoldable pub windows_of : List ℕ → List ℕ → Data → Option (ℕ × ℕ)
windows_of first last d = do
  start ← u8_at first d
  end ← u8_at last d
  Some (start, end)

-- what a key that may be missing stands for: this number where it is
abbrev pub or_number : ℕ → Option Data → Option ℕ → Option ℕ
or_number missing None there = Some missing
or_number missing (Some found) there = there

-- the number under a key that may be missing, where it fits 8 bits
unfoldable pub u8_or : ℕ → List ℕ → Data → Option ℕ
u8_or missing key d = or_number missing (get key d) (u8_at key d)

-- the same, where it fits 32 bits
unfoldable pub u32_or : ℕ → List ℕ → Data → Option ℕ
u32_or missing key d = or_number missing (get key d) (u32_at key d)

-- the most live flows, pending grants of a MAP, and grants and polls of an interval: 64, 64 and 40 where they are
-- missing
unfoldable pub limits_of : Data → Option (ℕ × ℕ × ℕ)
limits_of d = do
  flows ← u32_or 64 (codes "flows") d
  pending ← u32_or 64 (codes "pending") d
  periodic ← u32_or 40 (codes "periodic") d
  Some (flows, pending, periodic)

-- whether idles are open to requests, and the minislots for which a new UCD settles: 0 where they are missing
unfoldable pub idles_of : Data → Option (ℕ × ℕ)
idles_of d = do
  open_idle ← u8_or 0 (codes "open_idle") d
  settle ← u32_or 0 (codes "settle") d
  Some (open_idle, settle)

-- the burst descriptor that an object stands for
unfoldable pub profile_of : Data → Option Profile
profile_of d = do
  preamble ← u32_at (codes "preamble") d
  guard ← u32_at (codes "guard") d
  bits ← u32_at (codes "bits") d
  parity ← u32_at (codes "parity") d
  information ← u32_at (codes "information") d
  shortened ← u32_at (codes "shortened") d
  Some (record {
    preamble = preamble;
    guard = guard;
    bits = bits;
    parity = parity;
    information = information;
    shortened = shortened;
  })

-- the descriptor under this key
unfoldable pub profile_at : List ℕ → Data → Option Profile
profile_at key d = do
  found ← get key d
  profile_of found

-- what stands for a descriptor under a key that may be missing: this one where it is
abbrev pub or_profile : Profile → Option Data → Option Profile
or_profile missing None = Some missing
or_profile missing (Some found) = profile_of found

-- the descriptors that an object stands for: those of unsolicited grants are those of long ones where they are missing
unfoldable pub descriptors_of : Data → Option Descriptors
descriptors_of d = do
  symbols ← u32_at (codes "symbols") d
  short ← profile_at (codes "short") d
  long ← profile_at (codes "long") d
  unsolicited ← or_profile long (get (codes "unsolicited") d)
  Some (record { symbols = symbols; short = short; long = long; unsolicited = unsolicited })

-- bursts in which each minislot carries the same bytes
unfoldable pub uniform_of : Data → Option Bursts
uniform_of d = do
  bytes_per_slot ← u32_at (codes "bytes_per_slot") d
  overhead ← u32_at (codes "overhead") d
  Some (Uniform bytes_per_slot overhead)

-- what stands for the bursts of an object: the descriptors that it has, whatever else it has, or else the bytes and the
-- overhead
abbrev pub or_uniform : Option Data → Data → Option Bursts
or_uniform None d = uniform_of d
or_uniform (Some found) d = do
  descriptors ← descriptors_of found
  Some (Described descriptors)

-- the bursts of a configuration
unfoldable pub bursts_of : Data → Option Bursts
bursts_of d = or_uniform (get (codes "bursts") d) d

-- the configuration that an object stands for: it has every field but that of the physical layer, which is 0 where it
-- is missing, and those of `limits_of` and `idles_of`, and either of the two forms of its bursts
unfoldable pub config_of : Data → Option Config
config_of d = do
  slots ← slots_of d
  bursts ← bursts_of d
  sizes ← sizes_of d
  counts ← counts_of d
  ranging ← windows_of (codes "ranging_start") (codes "ranging_end") d
  backoff ← windows_of (codes "data_start") (codes "data_end") d
  phy ← u8_or 0 (codes "phy") d
  limits ← limits_of d
  idles ← idles_of d
  Some (record {
    ticks = slots.0;
    bursts = bursts;
    frame = slots.1;
    cycle = slots.2;
    req_slots = sizes.0;
    poll_slots = sizes.1;
    lead = sizes.2;
    short_max = sizes.3;
    quantum = sizes.4;
    grant_cap = sizes.5;
    receivers = counts.0;
    calls = counts.1;
    start = counts.2;
    ranging_start = ranging.0;
    ranging_end = ranging.1;
    data_start = backoff.0;
    data_end = backoff.1;
    channel = counts.3;
    ucd_count = counts.4;
    phy = phy;
    flows = limits.0;
    pending = limits.1;
    periodic = limits.2;
    open_idle = idles.0;
    settle = idles.1;
  })
