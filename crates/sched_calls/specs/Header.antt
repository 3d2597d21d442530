-- The header of a MAP.
use Rattle.minislots.specs.declared.config.Config.{Config}
use Rattle.sched_calls.specs.declared.opportunity.Header.{Header}

-- the header of a configuration
abbrev pub header_of : Config → Header
header_of c = record {
  ucd_count = c.ucd_count;
  ranging_start = c.ranging_start;
  ranging_end = c.ranging_end;
  data_start = c.data_start;
  data_end = c.data_end;
}
