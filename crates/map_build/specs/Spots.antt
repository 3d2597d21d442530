-- What polls and unsolicited grants take of one frame, and the flows of one channel.
use Rattle.std.specs.Prelude.{◌≡◌, ℕ, ◌+◌, ◌<◌, ◌≤◌, List, length, map, filter}
use Rattle.std.specs.List.{AllByRecursion}
use Rattle.minislots.specs.declared.config.Config.{Config}
use Rattle.sched_calls.specs.FlowSpec.{is_periodic}
use Rattle.flow_book.specs.Book.{Ascend}
use Rattle.flow_book.specs.Flows.{LiveFlow}
use Rattle.periodic.specs.declared.TheConstants.{MAX_SPOTS}
use Rattle.periodic.specs.declared.placement.Spot.{Spot}
use Rattle.periodic.specs.Placement.{Placed}
use Rattle.periodic.specs.Table.{FollowInTurn}

-- the spot has some minislots of the frame, behind the request region
pub record IsInFrame (c : Config) (s : Spot) : Type 0 where
  pub some_slots : 0 < s.slots
  pub after_requests : c.req_slots ≤ s.offset
  pub within : s.offset + s.slots ≤ c.frame

-- The spots are those that one frame may have, in the order of their offsets
pub record AreInFrame (c : Config) (spots : List Spot) : Type 0 where
  pub few : length spots ≤ MAX_SPOTS
  pub each : AllByRecursion (IsInFrame c) spots
  pub in_turn : FollowInTurn spots

-- an SID that a flow may have
abbrev pub IsFlowSid : ℕ → Type 0
IsFlowSid sid = (1 ≤ sid) × (sid ≤ 8191)

-- each spot is of a flow
abbrev pub HaveFlowSids : List Spot → Type 0
HaveFlowSids spots = AllByRecursion (λ s. IsFlowSid s.sid) spots

-- The flows are those that one channel may have
pub record AreOfChannel (flows : List LiveFlow) : Type 0 where
  pub ascend : Ascend flows
  pub sids : AllByRecursion (λ f. IsFlowSid f.sid) flows

-- The placed flows are the periodic ones among these, in their order
pub record ArePeriodicOf (flows : List LiveFlow) (placed : List Placed) : Type 0 where
  pub sids : map (λ p. p.sid) placed ≡ map (λ f. f.sid) (filter (λ f. is_periodic f.spec) flows)
  pub specs : map (λ p. p.spec) placed ≡ map (λ f. f.spec) (filter (λ f. is_periodic f.spec) flows)
