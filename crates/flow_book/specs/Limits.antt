-- What the ceilings of a flow leave to it: its maximum sustained rate with its burst, and its peak rate; and what is
-- left of its reservation.
use Rattle.std.specs.Prelude.{◌≡◌, ℕ, ◌≤◌, true, false, if◌then◌else◌}
use Rattle.minislots.specs.declared.config.Config.{Config}
use Rattle.sched_calls.specs.FlowSpec.{rate_of, burst_of, peak_of, reserved_of, reserved_burst_of}
use Rattle.sched_calls.specs.declared.spec.TheConstants.{PEAK_BURST}
use Rattle.flow_book.specs.declared.limits.Limits.{Limits}
use Rattle.flow_book.specs.Flows.{LiveFlow, HaveStartedBy, AreMadeBy}
use Rattle.flow_book.specs.Bucket.{StandsFor, IsSettled, HasOneMore, StaysSettled, most_of}
use Rattle.flow_book.specs.Bucket.{reserves}

-- no charge that the buckets stand for is later than this minislot
pub record HasBegunBy (slot : ℕ) (l : Limits) : Type 0 where
  pub sustained : l.sustained.since ≤ slot
  pub peak : l.peak.since ≤ slot
  pub reserved : l.reserved.since ≤ slot

-- the most bytes, up to a limit, that both ceilings leave at a minislot
abbrev pub most_in : Limits → ℕ → ℕ → ℕ
most_in l slot limit = most_of l.sustained slot (most_of l.peak slot limit)

-- the most bytes, up to a limit, of a grant to one that wants so many at least: of a reserved grant no more than the
-- reservation leaves
abbrev pub most_with : Limits → ℕ → ℕ → ℕ → ℕ
most_with l slot wanted limit =
    most_in l slot (if reserves l.reserved slot wanted then most_of l.reserved slot limit else limit)

-- What is charged to a flow is made where its data grants have started
pub record ChargesAtGrants (f : LiveFlow) : Type 0 where
  pub sustained : (slot : ℕ) → HaveStartedBy slot f.grants → AreMadeBy slot f.sustained
  pub peak : (slot : ℕ) → HaveStartedBy slot f.grants → AreMadeBy slot f.peak
  pub reserved : (slot : ℕ) → HaveStartedBy slot f.grants → AreMadeBy slot f.reserved

-- each bucket stands for what is charged to its ceiling, or to the reservation
pub record AreLimitsOf (c : Config) (f : LiveFlow) (l : Limits) : Type 0 where
  pub sustained : StandsFor c (rate_of f.spec) (burst_of f.spec) l.sustained f.sustained
  pub peak : StandsFor c (peak_of f.spec) PEAK_BURST l.peak f.peak
  pub reserved : StandsFor c (reserved_of f.spec) (reserved_burst_of f.spec) l.reserved f.reserved

-- and is settled by them
pub record AreSettled (f : LiveFlow) (l : Limits) : Type 0 where
  pub sustained : IsSettled l.sustained f.sustained
  pub peak : IsSettled l.peak f.peak
  pub reserved : IsSettled l.reserved f.reserved

-- Each of the new buckets stands for one grant more to one that wants so many bytes at least, that of the reservation
-- for a reserved one
pub record HaveOneMore (old new : Limits) (slot wanted bytes : ℕ) : Type 0 where
  pub sustained : HasOneMore old.sustained new.sustained slot bytes
  pub peak : HasOneMore old.peak new.peak slot bytes
  pub reserved : reserves old.reserved slot wanted ≡ true → HasOneMore old.reserved new.reserved slot bytes
  pub same : reserves old.reserved slot wanted ≡ false → new.reserved ≡ old.reserved

-- and is settled by it
pub record StaySettled (old new : Limits) (slot wanted bytes : ℕ) : Type 0 where
  pub sustained : StaysSettled old.sustained new.sustained slot bytes
  pub peak : StaysSettled old.peak new.peak slot bytes
  pub reserved : reserves old.reserved slot wanted ≡ true → StaysSettled old.reserved new.reserved slot bytes
  pub same : reserves old.reserved slot wanted ≡ false → new.reserved ≡ old.reserved
