-- Spots of a frame that may stand together, one more of them, and flows with what they take.
use Rattle.std.proofs.Common.{◌≡◌, refl, ℕ, ◌+◌, ◌≤◌, List, [], ◌∷◌, ◌++◌, Option, None, Some, length, arith}
use Rattle.std.proofs.Common.{length-append}
use Rattle.std.specs.List.{AllByRecursion}
use Rattle.minislots.specs.declared.config.Config.{Config}
use Rattle.sched_calls.specs.declared.state.FlowState.{FlowState}
use Rattle.periodic.specs.declared.placement.Spot.{Spot}
use Rattle.periodic.specs.Placement.{Placed, spots_in}
use Rattle.periodic.specs.Table.{IsApart}
use Rattle.periodic.proofs.Joined.{apart-append, apart-left, apart-between, all-weaker}
use Rattle.channel_states.specs.PossiblePlaces.{MayStandTogether}
use Rattle.periodic.specs.Carried.{placed_of, placed_in}
use Rattle.channel_states.specs.Taken.{spots_where, taken_by}

-- a front of spots that may stand together may
pub together-front : (xs ys : List Spot) → MayStandTogether (xs ++ ys) → MayStandTogether xs
together-front xs ys all =
    record { apart = apart-left xs ys all.apart; few = omega (arith, all.few, length-append xs ys) }

-- one more may, where there is room and it is apart from each
pub together-more : (xs : List Spot) (s : Spot) → MayStandTogether xs → length xs + 1 ≤ 40
    → AllByRecursion (λ t. IsApart t s) xs → MayStandTogether (xs ++ s ∷ [])
together-more xs s all room free = record {
  apart = apart-append xs (s ∷ []) all.apart (tt, tt)
      (all-weaker (λ t. IsApart t s) (λ t. AllByRecursion (IsApart t) (s ∷ [])) (λ t apart. (apart, tt)) xs free);
  few = omega (arith, room, length-append xs (s ∷ []));
}

-- and where it may it is apart from each
pub together-apart : (xs : List Spot) (s : Spot) → MayStandTogether (xs ++ s ∷ [])
    → AllByRecursion (λ t. IsApart t s) xs
together-apart xs s all =
    all-weaker (λ t. AllByRecursion (IsApart t) (s ∷ [])) (λ t. IsApart t s) (λ t both. both.0) xs
    (apart-between xs (s ∷ []) all.apart)

-- and there was room
pub together-room : (xs : List Spot) (s : Spot) → MayStandTogether (xs ++ s ∷ []) → length xs + 1 ≤ 40
together-room xs s all = omega (arith, all.few, length-append xs (s ∷ []))

spots-more : (c : Config) (place : ℕ) (at : Option Placed) (f : FlowState) (flows : List FlowState) → placed_of c f ≡ at
    → spots_in c place (placed_in c (f ∷ flows)) ≡ spots_where c place at ++ spots_in c place (placed_in c flows)
spots-more c place None f flows is = rw is refl
spots-more c place (Some p) f flows is = rw is refl

-- what flows take is what the first takes, and then what the others do
pub spots-first : (c : Config) (place : ℕ) (f : FlowState) (flows : List FlowState)
    → spots_in c place (placed_in c (f ∷ flows)) ≡ taken_by c place f ++ spots_in c place (placed_in c flows)
spots-first c place f flows = spots-more c place (placed_of c f) f flows refl
