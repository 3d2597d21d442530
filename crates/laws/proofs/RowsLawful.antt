-- The laws speak of something: the worked history of two MAPs is one that a scheduler may have.
use Rattle.std.proofs.Common.{[], ◌∷◌, arith}
use Rattle.std.specs.List.{AllByRecursion}
use Rattle.sched_calls.proofs.Base.{base, the_base_is_lawful}
use Rattle.sched_history.proofs.rows.TwoMaps.{built, admitted, asked, granted, two_maps_of_one_flow}
use Rattle.history_writing.specs.Fits.{ConfigFits}
use Rattle.laws.specs.LawfulHistory.{IsLawfulHistory, IsCallOfTypes}

base_fits : ConfigFits base
base_fits = record {
  ticks = omega arith;
  bursts = (omega arith, omega arith);
  frame = omega arith;
  cycle = omega arith;
  req_slots = omega arith;
  poll_slots = omega arith;
  lead = omega arith;
  short_max = omega arith;
  quantum = omega arith;
  grant_cap = omega arith;
  receivers = omega arith;
  calls = omega arith;
  start = omega arith;
  ranging_start = omega arith;
  ranging_end = omega arith;
  data_start = omega arith;
  data_end = omega arith;
  channel = omega arith;
  ucd_count = omega arith;
  phy = omega arith;
  flows = omega arith;
  pending = omega arith;
  periodic = omega arith;
  open_idle = omega arith;
  settle = omega arith;
}

-- it is legal under a lawful configuration
two_maps_may_be_had : IsLawfulHistory base (built ∷ admitted ∷ asked ∷ granted ∷ [])
two_maps_may_be_had =
    record { config_fits = base_fits; lawful = the_base_is_lawful; legal = two_maps_of_one_flow; few = omega arith }

-- and the numbers of its calls fit
two_maps_are_of_types : AllByRecursion IsCallOfTypes (built ∷ admitted ∷ asked ∷ granted ∷ [])
two_maps_are_of_types = (
  record { seat = omega arith; ticket = omega arith; call = omega arith },
  (
    record {
      seat = omega arith;
      ticket = omega arith;
      call = (omega arith, (omega arith, omega arith, omega arith, omega arith, omega arith, omega arith));
    },
    (
      record {
        seat = omega arith;
        ticket = omega arith;
        call = (omega arith, omega arith, omega arith, omega arith);
      },
      (record { seat = omega arith; ticket = omega arith; call = omega arith }, tt),
    ),
  ),
)
