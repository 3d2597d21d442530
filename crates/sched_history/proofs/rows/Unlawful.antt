-- Worked examples of entries that may not stand in a history.
use Rattle.std.proofs.Common.{◌≡◌, ℕ, [], ◌∷◌, refl, ap, ◌∙◌, arith}
use Rattle.std.specs.Prelude.{slice_index}
use Rattle.sched_calls.proofs.Base.{base, the_base_has_bursts}
use Rattle.sched_calls.specs.declared.frame_map.FrameMap.{FrameMap}
use Rattle.sched_calls.specs.Header.{header_of}
use Rattle.map_build.specs.Plan.{demand_at}
use Rattle.map_build.proofs.Apart.{BeginApart-nil}
use Rattle.map_build.proofs.OneMap.{one_map}
use Rattle.sched_calls.proofs.BaseMaps.{first_map}
use Rattle.map_build.proofs.RowsMaps.{a_frame_without_flows}
use Rattle.sched_calls.specs.declared.amount.Amount.TheVariants.{Bytes}
use Rattle.sched_calls.specs.declared.call.Call.TheVariants.{Ask, Build}
use Rattle.sched_calls.specs.declared.reply.Reply.TheVariants.{Built, Refused}
use Rattle.sched_calls.specs.declared.reply.Refusal.TheVariants.{Ahead, Late}
use Rattle.sched_history.specs.Life.{sids}
use Rattle.sched_history.specs.History.{IsStep}
use Rattle.sched_history.proofs.lives.LiveFlows.{flows_of-none, table_of-none}
use Rattle.sched_history.proofs.rows.NextMap.{lawful-from_IsNextMap}
use Rattle.sched_history.proofs.rows.TwoMaps.{built, admitted}

-- the first MAP with 5 bytes for its idle
abbrev counted_idle : FrameMap
counted_idle = record first_map { bytes = 0 ∷ 5 ∷ 0 ∷ [] }

-- the first MAP with its acknowledge time a minislot late
abbrev late_ack : FrameMap
late_ack = record first_map { ack = 801 }

-- at the start no MAP but that of an idle frame may be built
pub the_first_map_is_one : (m : FrameMap) → IsStep base [] (Build 760) (Built m) → m ≡ first_map
the_first_map_is_one m (other, next, e) =
    let same : m ≡ other = cc in
    same ∙ one_map base (demand_at [] [] [] 800) the_base_has_bursts BeginApart-nil (header_of base) 800 other first_map
    (lawful-from_IsNextMap base [] [] [] other (flows_of-none base [] (λ sid. refl)) (table_of-none []
    (λ sid. refl)) refl next)
    a_frame_without_flows

-- bytes of an idle may not stand in a history
pub bytes_of_an_idle_are_no_step : IsStep base [] (Build 760) (Built counted_idle) → ⊥
bytes_of_an_idle_are_no_step step =
    omega (arith, ap (λ m. slice_index m.bytes 1) (the_first_map_is_one counted_idle step))

-- nor may another acknowledge time
pub another_acknowledge_time_is_no_step : IsStep base [] (Build 760) (Built late_ack) → ⊥
another_acknowledge_time_is_no_step step = omega (arith, ap (λ m. m.ack) (the_first_map_is_one late_ack step))

-- a call that no test refuses may not be refused
pub a_refusal_without_cause_is_no_step : IsStep base (built ∷ admitted ∷ []) (Ask 0 17 (Bytes 100) 801) (Refused
    (Ahead 840))
    → ⊥
unfolding sids
a_refusal_without_cause_is_no_step step = cc

-- nor with another number than the test's
pub a_refusal_with_another_number_is_no_step : IsStep base (built ∷ []) (Build 801) (Refused (Late 800)) → ⊥
a_refusal_with_another_number_is_no_step step = let same : ◌≡◌ {A = ℕ} 800 840 = cc in omega arith

-- a call that is refused may not be accepted
pub a_late_build_is_no_step : (m : FrameMap) → IsStep base (built ∷ []) (Build 801) (Built m) → ⊥
a_late_build_is_no_step m step = cc
