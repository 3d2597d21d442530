-- What is left where nothing was called.
use Rattle.std.specs.Prelude.{[], map, None}
use Rattle.minislots.specs.declared.config.Config.{Config}
use Rattle.periodic.specs.Placement.{count_from}
use Rattle.sched_calls.specs.Header.{header_of}
use Rattle.sched_history.specs.Situation.{Situation}

-- no entries, flows or Reserves; the configuration's start, header and UCD count, and each receiver at the start
abbrev pub opening : Config → Situation
opening c = record {
  entries = 0;
  flows = [];
  placed = [];
  next = c.start;
  progress = map (λ receiver. c.start) (count_from 0 c.receivers);
  reserves = [];
  header = header_of c;
  settling = record { count = c.ucd_count; change = None };
  ack = c.start;
}
