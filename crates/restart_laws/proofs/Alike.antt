-- Flows, tables and situations of one state.
use Rattle.std.specs.Prelude.{◌≡◌, ℕ, ◌≤◌, List, [], ◌∷◌}
use Rattle.std.specs.List.{AllByRecursion}
use Rattle.minislots.specs.declared.config.Config.{Config}
use Rattle.sched_calls.specs.FlowSpec.{rate_of, burst_of, peak_of, reserved_of, reserved_burst_of}
use Rattle.sched_calls.specs.declared.spec.TheConstants.{PEAK_BURST}
use Rattle.flow_book.specs.Flows.{LiveFlow, AreMadeBy, HaveStartedBy, granted}
use Rattle.flow_book.specs.Book.{Ascend}
use Rattle.flow_book.specs.Ceiling.{KeepsCeiling}
use Rattle.flow_book.specs.Choice.{last_slot}
use Rattle.flow_book.specs.FlowState.{flow_state}
use Rattle.periodic.specs.Placement.{Placed, phase_of, offset_of}
use Rattle.sched_history.specs.Situation.{Situation}

-- A flow of which nothing is later than a minislot: its charges are made by its last grant and keep their rates, it was
-- granted no more than it asked, and nothing is charged to it where it has no grant
pub record IsSteadyFlow (c : Config) (slot : ℕ) (f : LiveFlow) : Type 0 where
  pub started : HaveStartedBy slot f.grants
  pub last : last_slot f.grants ≤ slot
  pub sustained_by : AreMadeBy (last_slot f.grants) f.sustained
  pub peak_by : AreMadeBy (last_slot f.grants) f.peak
  pub reserved_by : AreMadeBy (last_slot f.grants) f.reserved
  pub sustained : KeepsCeiling c (rate_of f.spec) (burst_of f.spec) f.sustained
  pub peak : KeepsCeiling c (peak_of f.spec) PEAK_BURST f.peak
  pub reserved : KeepsCeiling c (reserved_of f.spec) (reserved_burst_of f.spec) f.reserved
  pub within : granted f ≤ f.asked
  pub unspent : f.grants ≡ [] → (f.sustained ≡ []) × (f.peak ≡ []) × (f.reserved ≡ [])

-- two flows have one state
abbrev pub AlikeFlow : Config → LiveFlow → LiveFlow → Type 0
AlikeFlow c f g = flow_state c f ≡ flow_state c g

-- so have the flows of two lists, pair by pair
abbrev pub AlikeFlows : Config → List LiveFlow → List LiveFlow → Type 0
AlikeFlows c [] [] = Unit {0}
AlikeFlows c [] (g ∷ gs) = ⊥
AlikeFlows c (f ∷ fs) [] = ⊥
AlikeFlows c (f ∷ fs) (g ∷ gs) = AlikeFlow c f g × AlikeFlows c fs gs

-- Two placed flows differ in their reference at most
pub record AlikePlaced (c : Config) (p q : Placed) : Type 0 where
  pub sid : p.sid ≡ q.sid
  pub spec : p.spec ≡ q.spec
  pub starts : p.placement.starts ≡ q.placement.starts
  pub phase : phase_of c p.spec p.placement ≡ phase_of c q.spec q.placement
  pub offset : offset_of c p.placement ≡ offset_of c q.placement
  pub rests : p.rests ≡ q.rests

-- so do those of two tables, pair by pair
abbrev pub AlikeTables : Config → List Placed → List Placed → Type 0
AlikeTables c [] [] = Unit {0}
AlikeTables c [] (q ∷ qs) = ⊥
AlikeTables c (p ∷ ps) [] = ⊥
AlikeTables c (p ∷ ps) (q ∷ qs) = AlikePlaced c p q × AlikeTables c ps qs

-- A situation whose flows are in order, with nothing later than the next frame's start
pub record IsSteady (c : Config) (x : Situation) : Type 0 where
  pub ascending : Ascend x.flows
  pub flows : AllByRecursion (IsSteadyFlow c x.next) x.flows

-- Two situations have one state
pub record IsAlike (c : Config) (x y : Situation) : Type 0 where
  pub entries : x.entries ≡ y.entries
  pub flows : AlikeFlows c x.flows y.flows
  pub placed : AlikeTables c x.placed y.placed
  pub next : x.next ≡ y.next
  pub progress : x.progress ≡ y.progress
  pub reserves : x.reserves ≡ y.reserves
  pub header : x.header ≡ y.header
  pub settling : x.settling ≡ y.settling
  pub ack : x.ack ≡ y.ack
