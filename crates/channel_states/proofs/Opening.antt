-- The state in which a channel opens is possible.
use Rattle.std.proofs.Common.{◌≡◌, refl, ap, ℕ, zero, suc, ◌+◌, ◌≤◌, [], None, length, map, arith}
use Rattle.std.specs.List.{AllByRecursion}
use Rattle.minislots.specs.declared.config.Config.{Config}
use Rattle.minislots.specs.Config.{IsLawful, HasBounds}
use Rattle.minislots.proofs.Bounds.{bounds_of}
use Rattle.sched_calls.specs.declared.state.ChannelState.{ChannelState}
use Rattle.sched_calls.specs.Header.{header_of}
use Rattle.periodic.specs.Placement.{count_from}
use Rattle.channel_states.specs.Possible.{IsPossible}

-- the state before the first entry: no receiver has handed in anything, no MAP was built, and no flow is live
abbrev pub opening_state : Config → ChannelState
opening_state c = record {
  entries = 0;
  next = c.start;
  progress = map (λ receiver. c.start) (count_from 0 c.receivers);
  ack = c.start;
  header = header_of c;
  ucd_count = c.ucd_count;
  change = None;
  flows = [];
  reserves = [];
}

-- it has its progress for each receiver
as-many : (first n start : ℕ) → length (map (λ receiver. start) (count_from first n)) ≡ n
as-many first zero start = refl
as-many first (suc n) start = ap suc (as-many (first + 1) n start)

-- which is the start of the channel
each-start : (P : ℕ → Type 0) (first n start : ℕ) → P start
    → AllByRecursion P (map (λ receiver. start) (count_from first n))
each-start P first zero start here = tt
each-start P first (suc n) start here = (here, each-start P (first + 1) n start here)

-- a lawful channel opens in a possible state
pub opening-possible : (c : Config) → IsLawful c → IsPossible c (opening_state c)
opening-possible c lawful =
    let bounds : HasBounds c = bounds_of c lawful in
    record {
      entries = omega arith;
      times = record {
        receivers = as-many 0 c.receivers c.start;
        ack_least = omega arith;
        acknowledged = each-start (λ slot. c.start ≤ slot) 0 c.receivers c.start (omega arith);
        described = each-start (λ slot. slot ≤ c.start) 0 c.receivers c.start (omega arith);
        next_most = omega (arith, bounds.start_most);
        next_aligned = bounds.start_aligned;
      };
      header = record {
        ranging_start = bounds.ranging_start_most;
        ranging_end = bounds.ranging_end_most;
        data_start = bounds.data_start_most;
        data_end = bounds.data_end_most;
      };
      change = tt;
      sids = tt;
      limits = record { flows_most = omega arith; grants_most = omega arith };
      flows = tt;
      places = λ place within. record { apart = tt; few = omega arith };
      shown = omega arith;
      reserves = record { few = omega arith; each = tt; in_order = tt };
    }
