-- A worked history of one flow under a peak rate: two grants by the room, one by the peak, and a frame without.
use Rattle.std.proofs.Common.{◌≡◌, ◌≢◌, ℕ, List, [], ◌∷◌, ◌++◌, None, refl, sym, lit≤}
use Rattle.std.proofs.lemmas.Bool.{ne_eqb}
use Rattle.sched_calls.specs.declared.spec.FlowSpec.{FlowSpec}
use Rattle.sched_calls.specs.declared.spec.FlowSpec.TheVariants.{BestEffort}
use Rattle.sched_calls.specs.FlowSpec.{first_fault}
use Rattle.sched_calls.proofs.Base.{base}
use Rattle.flow_book.proofs.RowsCeiling.{three as third_grants}
use Rattle.map_build.proofs.RowsFirstGrant.{first_grant}
use Rattle.map_build.proofs.RowsCeiling.{second_grant, waiting_map}
use Rattle.map_build.proofs.RowsPeak.{under_peak, one as first_grants, two as second_grants, peak_map}
use Rattle.map_build.proofs.RowsPeak.{a_first_grant_under_a_peak_fills_the_room}
use Rattle.map_build.proofs.RowsPeak.{a_second_grant_under_a_peak_fills_the_room}
use Rattle.map_build.proofs.RowsPeak.{a_frame_with_a_grant_at_the_peak, a_frame_that_idles_at_the_peak}
use Rattle.sched_calls.specs.declared.amount.Amount.TheVariants.{Bytes}
use Rattle.sched_calls.specs.declared.call.Call.TheVariants.{Admit, Ask, Build, Status}
use Rattle.sched_calls.specs.declared.reply.Reply.TheVariants.{Admitted, Taken, Built, Flow}
use Rattle.sched_calls.specs.declared.reply.Entry.{Entry}
use Rattle.sched_history.specs.Life.{Life, life_of, sids}
use Rattle.sched_history.specs.History.{IsStep, IsLegal}
use Rattle.sched_history.proofs.lives.LiveFlows.{flows_of-none, flows_of-one, table_of-unplaced_one}
use Rattle.sched_history.proofs.rows.NextMap.{IsNextMap-from_lawful}
use Rattle.sched_history.proofs.rows.TwoMaps.{entry, built, the_first_map_may_follow_nothing}

-- no ceiling, and a peak rate of 64000 bits in a second
abbrev spec : FlowSpec
spec = BestEffort 3 0 0 64000 0 0

-- its request
abbrev request : Entry
request = entry 2 (Ask 0 17 (Bytes 3000) 801) Taken

-- the history up to the request, and then these entries
abbrev asked : List Entry → List Entry
asked rest = built ∷ entry 1 (Admit 17 spec) (Admitted None) ∷ request ∷ rest

-- the MAPs of its grants
abbrev one : List Entry
one = entry 3 (Build 800) (Built first_grant) ∷ []

abbrev two : List Entry
two = one ++ entry 4 (Build 840) (Built second_grant) ∷ []

abbrev three : List Entry
three = two ++ entry 5 (Build 880) (Built peak_map) ∷ []

abbrev four : List Entry
four = three ++ entry 6 (Build 920) (Built waiting_map) ∷ []

-- its life
abbrev life : List Entry → Life
life rest = record { admission = record { spec = spec; placement = None }; since = request ∷ rest }

-- no other SID has a life at any time
others : (sid : ℕ) → sid ≢ 17 → (life_of sid (asked []) ≡ None) × (life_of sid (asked one) ≡ None)
    × (life_of sid (asked two) ≡ None) × (life_of sid (asked three) ≡ None)
others sid other = rw (ne_eqb 17 sid (λ e. other (sym e))) (refl, refl, refl, refl)

-- the flow is admitted
admits : IsStep base (built ∷ []) (Admit 17 spec) (Admitted None)
unfolding first_fault
admits = rw (flows_of-none base (built ∷ []) (λ sid. refl)) refl

-- 544 bytes fill the first frame
grants_first : IsStep base (asked []) (Build 800) (Built first_grant)
grants_first = (
  first_grant,
  IsNextMap-from_lawful base (asked []) (under_peak [] ∷ []) [] first_grant
      (flows_of-one base (asked []) 17 (life []) (lit≤ tt) (lit≤ tt) refl (λ sid other. (others sid other).0))
      (table_of-unplaced_one (asked []) 17 (life []) refl refl (λ sid other. (others sid other).0)) refl
      a_first_grant_under_a_peak_fills_the_room,
  refl,
)

-- and the second
grants_second : IsStep base (asked one) (Build 840) (Built second_grant)
grants_second = (
  second_grant,
  IsNextMap-from_lawful base (asked one) (under_peak first_grants ∷ []) [] second_grant
      (flows_of-one base (asked one) 17 (life one) (lit≤ tt) (lit≤ tt) refl (λ sid other. (others sid other).1))
      (table_of-unplaced_one (asked one) 17 (life one) refl refl (λ sid other. (others sid other).1)) refl
      a_second_grant_under_a_peak_fills_the_room,
  refl,
)

-- in the third the peak leaves 450
grants_third : IsStep base (asked two) (Build 880) (Built peak_map)
grants_third = (
  peak_map,
  IsNextMap-from_lawful base (asked two) (under_peak second_grants ∷ []) [] peak_map
      (flows_of-one base (asked two) 17 (life two) (lit≤ tt) (lit≤ tt) refl (λ sid other. (others sid other).2))
      (table_of-unplaced_one (asked two) 17 (life two) refl refl (λ sid other. (others sid other).2)) refl
      a_frame_with_a_grant_at_the_peak,
  refl,
)

-- in the fourth less than the quantum
grants_nothing : IsStep base (asked three) (Build 920) (Built waiting_map)
grants_nothing = (
  waiting_map,
  IsNextMap-from_lawful base (asked three) (under_peak (third_grants 450) ∷ []) [] waiting_map
      (flows_of-one base (asked three) 17 (life three) (lit≤ tt) (lit≤ tt) refl (λ sid other. (others sid other).3))
      (table_of-unplaced_one (asked three) 17 (life three) refl refl (λ sid other. (others sid other).3)) refl
      a_frame_that_idles_at_the_peak,
  refl,
)

-- the history is legal, and has granted 1538 bytes
pub four_maps_under_a_peak : IsLegal base (asked (four ++ entry 7 (Status 17) (Flow 3000 1538 1462) ∷ []))
unfolding sids
four_maps_under_a_peak = (
  the_first_map_may_follow_nothing,
  (admits, (refl, (grants_first, (grants_second, (grants_third, (grants_nothing, (refl, tt))))))),
)
