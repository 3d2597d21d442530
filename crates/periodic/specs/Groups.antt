-- The placed flows in groups of one interval and one phase, and in order of SID.
use Rattle.std.specs.Prelude.{◌≡◌, ℕ, ◌+◌, ◌*◌, ◌<◌, List, [], ◌∷◌, ◌++◌, map, length, get_or}
use Rattle.std.specs.List.{AllByRecursion, flat_map}
use Rattle.std.specs.Vec.{vec_len, vec_capacity}
use Rattle.minislots.specs.declared.config.Config.{Config}
use Rattle.periodic.specs.declared.bits.Bits.{Bits}
use Rattle.periodic.specs.declared.group.Group.{Group}
use Rattle.periodic.specs.declared.spots.PlacedFlow.{PlacedFlow}
use Rattle.periodic.specs.Placement.{Placed}
use Rattle.periodic.specs.Table.{placed_grants, with_placed, AreSound}
use Rattle.periodic.specs.Rows.{AreRowsOf, AreBounds}
use Rattle.periodic.specs.Counts.{AreCounts}
use Rattle.periodic.specs.Fields.{placed_of, IsSoundFlow}

-- the flows of the groups, one group after the other
abbrev pub flows_in : List Group → List PlacedFlow
flows_in groups = flat_map (λ g. g.flows.items) groups

-- these flows in order of SID
abbrev pub in_order : List Placed → List Placed
in_order [] = []
in_order (f ∷ flows) = with_placed f (in_order flows)

-- the placed flows of the groups, in order of SID
abbrev pub placed_in : List Group → List Placed
placed_in groups = in_order (map placed_of (flows_in groups))

-- the place in the cycle of the frame of this number among those of a flow's phase
abbrev pub own_place : PlacedFlow → ℕ → ℕ
own_place f number = number * f.interval + f.phase

-- A flow that is soundly placed, its interval being so many frames and its phase this one of them
pub record IsSoundMember (c : Config) (frames frame : ℕ) (f : PlacedFlow) : Type 0 where
  pub flow : IsSoundFlow c f
  pub interval : f.interval ≡ frames
  pub phase : f.phase ≡ frame

-- Some frames are the interval of a group, and its flows are of that interval and of its phase
pub record IsSoundGroup (c : Config) (g : Group) : Type 0 where
  pub some : 0 < g.interval
  pub each : AllByRecursion (IsSoundMember c g.interval g.phase) g.flows.items

-- each of these groups is so
abbrev pub AreSoundGroups : Config → List Group → Type 0
AreSoundGroups c groups = AllByRecursion (IsSoundGroup c) groups

-- each of these groups has a flow
abbrev pub HaveFlows : List Group → Type 0
HaveFlows groups = AllByRecursion (λ g. 0 < length g.flows.items) groups

-- Of two lists of flows one has the others and this flow among them
pub record HasOneMore (f : PlacedFlow) (others flows : List PlacedFlow) : Type 0 where
  pub before : List PlacedFlow
  pub after : List PlacedFlow
  pub less : others ≡ before ++ after
  pub more : flows ≡ before ++ f ∷ after

-- The group at the place has the interval of so many frames, and the phase of this one of them
pub record IsGroupAt (groups : List Group) (frames frame place : ℕ) : Type 0 where
  pub within : place < length groups
  pub interval : (d : Group) → (get_or groups place d).interval ≡ frames
  pub phase : (d : Group) → (get_or groups place d).phase ≡ frame

-- It has room for a flow more
pub record HasRoomAt (groups : List Group) (frames frame place : ℕ) : Type 0 where
  pub stands : IsGroupAt groups frames frame place
  pub room : (d : Group) → vec_len (get_or groups place d).flows < vec_capacity (get_or groups place d).flows

-- The flow of this SID stands in the group at the first place, at the second
pub record IsFlowAt (groups : List Group) (sid : ℕ) (at : ℕ × ℕ) : Type 0 where
  pub group : at.0 < length groups
  pub within : (d : Group) → at.1 < length (get_or groups at.0 d).flows.items
  pub here : (d : Group) (f : PlacedFlow) → (get_or (get_or groups at.0 d).flows.items at.1 f).sid ≡ sid

-- What is true of the fields of every table
pub record AreSoundFields (c : Config) (groups : List Group) (rows : List Bits) (most counts : List ℕ)
    (grants len : ℕ) : Type 0 where
  pub sound : AreSound c (placed_in groups)
  pub each : AreSoundGroups c groups
  pub filled : HaveFlows groups
  pub told : AreRowsOf c (placed_in groups) rows
  pub bounded : AreBounds c rows most
  pub counted : AreCounts c (placed_in groups) counts
  pub summed : grants ≡ placed_grants (placed_in groups)
  pub long : len ≡ length (placed_in groups)
