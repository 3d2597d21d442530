-- What flows that wait have beside their maximum sustained rate: each with a peak rate or a reservation has a tier.
use Rattle.std.specs.Prelude.{◌≡◌, ◌≢◌, ℕ, ◌==◌, min, List, slice_get, Option, None, Some, option_map}
use Rattle.std.specs.Prelude.{if◌then◌else◌}
use Rattle.std.specs.Option.{option_map_or}
use Rattle.flow_book.specs.declared.flow.Flow.{Flow}
use Rattle.flow_book.specs.declared.limits.Limits.{Limits}
use Rattle.flow_book.specs.declared.waiting.Waiting.{Waiting}
use Rattle.flow_book.specs.declared.tiers.Tier.{Tier}
use Rattle.flow_book.specs.declared.tiers.TheConstants.{NO_TIER}
use Rattle.flow_book.specs.Bucket.{BucketView, reserves}
use Rattle.minislots.specs.declared.config.Config.{Config}
use Rattle.sched_calls.specs.FlowSpec.{rank_of, takes_requests}
use Rattle.flow_book.specs.Entry.{turn_in, is_plain}

-- the bucket of a rate of 0
abbrev pub unlimited : BucketView
unlimited = record { per_slot = 0; full = 0; level = 0; since = 0 }

-- a bucket that never has anything
abbrev pub closed : BucketView
closed = record { per_slot = 1; full = 0; level = 0; since = 0 }

-- what its ceilings leave to a flow in the queue, and its reservation: nothing where it takes no requests, so that it is
-- never served
abbrev pub queue_limits : Flow → Limits
queue_limits f = record f.limits { sustained = if takes_requests f.spec then f.limits.sustained else closed }

-- what its ceilings leave to one that has this tier, and its reservation
abbrev pub limits_by : Tier → BucketView → Limits
limits_by t sustained = record { sustained = sustained; peak = t.peak; reserved = t.reserved }

-- what the peak rate leaves to one that waits
abbrev pub peak_in : List Tier → Waiting → BucketView
peak_in tiers w = option_map_or (λ t. t.peak) (slice_get tiers w.tier) unlimited

-- what is left of its reservation
abbrev pub reserved_in : List Tier → Waiting → BucketView
reserved_in tiers w = option_map_or (λ t. t.reserved) (slice_get tiers w.tier) unlimited

-- what its ceilings leave to it, and its reservation
abbrev pub limits_in : List Tier → Waiting → Limits
limits_in tiers w = record { sustained = w.sustained; peak = peak_in tiers w; reserved = reserved_in tiers w }

-- its rank where it is not under its reservation
abbrev pub rank_in : List Tier → Waiting → ℕ
rank_in tiers w = option_map_or (λ t. t.rank) (slice_get tiers w.tier) 0

-- its turn at a minislot: with a reservation in the rank of a polled flow where that leaves what it wants at least, and
-- else in its own
abbrev pub turn_at : Config → List Tier → ℕ → Waiting → ℕ
turn_at c tiers start w = if (reserved_in tiers w).per_slot == 0 then w.turn else turn_in
    (if reserves (reserved_in tiers w) start (min w.wants c.quantum) then 8 else rank_in tiers w) w.turn

-- the tier of the flow at a place: none where it has neither a peak rate nor a reservation
abbrev pub tier_of : ℕ → Flow → Option Tier
tier_of place f = if is_plain f then None
    else Some (record { place = place; rank = rank_of f.spec; peak = f.limits.peak; reserved = f.limits.reserved })

-- one that waits has the tier of the flow at its place
abbrev pub HasTier : List Flow → List Tier → Waiting → Type 0
HasTier items tiers w = (f : Flow) → slice_get items w.place ≡ Some f → slice_get tiers w.tier ≡ tier_of w.place f

-- of two that wait one differs from the other in the number of its tier alone, and has one where that has one
pub record IsRenumbered (v w : Waiting) : Type 0 where
  pub turn : w.turn ≡ v.turn
  pub wants : w.wants ≡ v.wants
  pub place : w.place ≡ v.place
  pub sustained : w.sustained ≡ v.sustained
  pub tier : (w.tier == NO_TIER) ≡ (v.tier == NO_TIER)

-- of the tiers that of one is changed alone, to what its peak rate and its reservation leave
pub record IsSpent (tiers after : List Tier) (w new : Waiting) : Type 0 where
  pub same : new.tier ≡ w.tier
  pub own : slice_get after w.tier
      ≡ option_map {U = Tier} (λ t. record t { peak = peak_in after new; reserved = reserved_in after new }) (slice_get tiers w.tier)
  pub rest : (k : ℕ) → k ≢ w.tier → slice_get after k ≡ slice_get tiers k
