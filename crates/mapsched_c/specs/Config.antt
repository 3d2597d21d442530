-- A configuration in plain numbers, and what an opening answers.
use Rattle.std.specs.Prelude.{◌≡◌, ℕ, ◌+◌, ◌==◌, ◌⊎◌, [], Option, None, Some, MatchOption, if◌then◌else◌}
use Rattle.minislots.specs.declared.bursts.Bursts.{Bursts}
use Rattle.minislots.specs.declared.bursts.Bursts.TheVariants.{Uniform, Described}
use Rattle.minislots.specs.declared.config.Config.{Config}
use Rattle.minislots.specs.Config.{first_wrong}
use Rattle.sched_history.specs.Machine.{Machine}
use Rattle.text_stream.specs.Fault.{field_number}
use Rattle.mapsched_c.specs.declared.config.PlainConfig.{PlainConfig}
use Rattle.mapsched_c.specs.declared.status.TheConstants.{OK, FULL, OUT_OF_MEMORY, BAD_CONFIG}
use Rattle.mapsched_c.specs.Bursts.{descriptors_of}

-- how many minislots a burst takes by these numbers: what the descriptors say, where there are some
abbrev pub bursts_of : PlainConfig → Bursts
bursts_of c = if c.has_bursts == 0 then Uniform c.bytes_per_slot c.overhead else Described (descriptors_of c.bursts)

-- the number that stands, or the one of a missing field where it is 0
abbrev pub or_missing : ℕ → ℕ → ℕ
or_missing number missing = if number == 0 then missing else number

-- the most grants and polls of an interval by these numbers
abbrev pub periodic_of : PlainConfig → ℕ
periodic_of c = if c.has_periodic == 0 then 40 else c.periodic

-- the configuration of these numbers
abbrev pub config_of : PlainConfig → Config
config_of c = record {
  ticks = c.ticks;
  bursts = bursts_of c;
  frame = c.frame;
  cycle = c.cycle;
  req_slots = c.req_slots;
  poll_slots = c.poll_slots;
  lead = c.lead;
  short_max = c.short_max;
  quantum = c.quantum;
  grant_cap = c.grant_cap;
  receivers = c.receivers;
  calls = c.calls;
  start = c.start;
  ranging_start = c.ranging_start;
  ranging_end = c.ranging_end;
  data_start = c.data_start;
  data_end = c.data_end;
  channel = c.channel;
  ucd_count = c.ucd_count;
  phy = c.phy;
  flows = or_missing c.flows 64;
  pending = or_missing c.pending 64;
  periodic = periodic_of c;
  open_idle = c.open_idle;
  settle = c.settle;
}

-- the status is that of the configuration: lawful, or its first wrong field
abbrev pub ChecksConfig : Config → ℕ → Type 0
ChecksConfig c status = MatchOption (first_wrong c) (status ≡ OK) (λ fault. status ≡ BAD_CONFIG + field_number fault)

-- a lawful configuration makes a scheduler without entries, or memory ran out and there is none
abbrev pub OpensLawful : Option Machine → Config → ℕ → Type 0
OpensLawful new c status =
    ((status ≡ OK) × (new ≡ Some (record { config = c; history = []; handed = 0 })))
    ⊎ ((status ≡ OUT_OF_MEMORY) × (new ≡ None))

-- what an opening answers, and what is in the handle then: a handle that is full, and a wrong configuration, change
-- nothing
abbrev pub Opens : Option Machine → Option Machine → Config → ℕ → Type 0
Opens (Some m) new c status = (status ≡ FULL) × (new ≡ Some m)
Opens None new c status = MatchOption (first_wrong c) (OpensLawful new c status)
    (λ fault. (status ≡ BAD_CONFIG + field_number fault) × (new ≡ None))
