-- The channel of the worked examples: minislots of 25 microseconds and 16 bytes, frames of 40 minislots.
use Rattle.std.proofs.Common.{refl}
use Rattle.minislots.specs.declared.bursts.Bursts.TheVariants.{Uniform}
use Rattle.minislots.specs.declared.config.Config.{Config}
use Rattle.minislots.specs.Bursts.{HasBursts}
use Rattle.minislots.specs.Config.{first_wrong, IsLawful}
use Rattle.minislots.proofs.Bounds.{bounds_of}

-- the configuration of the worked examples
abbrev pub base : Config
base = record {
  ticks = 4;
  bursts = Uniform 16 2;
  frame = 40;
  cycle = 20;
  req_slots = 4;
  poll_slots = 2;
  lead = 40;
  short_max = 8;
  quantum = 64;
  grant_cap = 2000;
  receivers = 1;
  calls = 1000;
  start = 800;
  ranging_start = 0;
  ranging_end = 0;
  data_start = 0;
  data_end = 0;
  channel = 3;
  ucd_count = 1;
  phy = 0;
  flows = 64;
  pending = 64;
  periodic = 40;
  open_idle = 0;
  settle = 0;
}

-- it is lawful
pub the_base_is_lawful : IsLawful base
unfolding first_wrong
the_base_is_lawful = refl

-- its bursts are lawful
pub the_base_has_bursts : HasBursts base.bursts
the_base_has_bursts = (bounds_of base the_base_is_lawful).bursts
