-- A worked history of two flows of one priority that take turns.
use Rattle.std.proofs.Common.{◌≡◌, ◌≢◌, ℕ, List, [], ◌∷◌, ◌++◌, None, refl, sym, lit<, lit≤}
use Rattle.std.proofs.lemmas.Bool.{ne_eqb}
use Rattle.sched_calls.specs.declared.spec.FlowSpec.TheVariants.{BestEffort}
use Rattle.sched_calls.specs.FlowSpec.{first_fault}
use Rattle.sched_calls.proofs.Base.{base}
use Rattle.map_build.proofs.RowsContention.{both_pending, two_flows_take_turns}
use Rattle.map_build.proofs.RowsTurns.{lower, higher, grant_at, second_turn, third_turn}
use Rattle.map_build.proofs.RowsTurns.{the_flow_without_a_grant_is_served, the_flow_with_the_earlier_grant_is_served}
use Rattle.sched_calls.specs.declared.amount.Amount.TheVariants.{Bytes}
use Rattle.sched_calls.specs.declared.call.Call.TheVariants.{Admit, Ask, Build}
use Rattle.sched_calls.specs.declared.reply.Reply.TheVariants.{Admitted, Taken, Built}
use Rattle.sched_calls.specs.declared.reply.Entry.{Entry}
use Rattle.sched_history.specs.Life.{Life, life_of, sids}
use Rattle.sched_history.specs.History.{IsStep, IsLegal}
use Rattle.sched_history.proofs.lives.LiveFlows.{flows_of-none, flows_of-one, flows_of-two, table_of-unplaced_two}
use Rattle.sched_history.proofs.rows.NextMap.{IsNextMap-from_lawful}
use Rattle.sched_history.proofs.rows.TwoMaps.{entry, built, the_first_map_may_follow_nothing}

-- two admissions
abbrev first : Entry
first = entry 1 (Admit 20 (BestEffort 3 0 0 0 0 0)) (Admitted None)

abbrev second : Entry
second = entry 2 (Admit 21 (BestEffort 3 0 0 0 0 0)) (Admitted None)

-- and two requests
abbrev asks : List Entry
asks = entry 3 (Ask 0 20 (Bytes 1000) 801) Taken ∷ entry 4 (Ask 0 21 (Bytes 1000) 801) Taken ∷ []

-- the history up to them, and then these entries
abbrev asked : List Entry → List Entry
asked rest = built ∷ first ∷ second ∷ (asks ++ rest)

-- the MAPs of two turns
abbrev turn : Entry
turn = entry 5 (Build 800) (Built both_pending)

abbrev other_turn : Entry
other_turn = entry 6 (Build 840) (Built second_turn)

-- the two lives
abbrev lower_life : List Entry → Life
lower_life rest =
    record { admission = record { spec = BestEffort 3 0 0 0 0 0; placement = None }; since = second ∷ (asks ++ rest) }

abbrev higher_life : List Entry → Life
higher_life rest = record {
  admission = record { spec = BestEffort 3 0 0 0 0 0; placement = None };
  since = asks ++
      rest;
}

-- no third SID has a life at any time
third : (sid : ℕ) → sid ≢ 20 → sid ≢ 21 → (life_of sid (asked []) ≡ None) × (life_of sid (asked (turn ∷ [])) ≡ None)
    × (life_of sid (asked (turn ∷ other_turn ∷ [])) ≡ None)
third sid not_lower not_higher =
    rw (ne_eqb 20 sid (λ e. not_lower (sym e)), ne_eqb 21 sid (λ e. not_higher (sym e))) (refl, refl, refl)

-- the flows are admitted
admits : IsStep base (built ∷ []) (Admit 20 (BestEffort 3 0 0 0 0 0)) (Admitted None)
unfolding first_fault
admits = rw (flows_of-none base (built ∷ []) (λ sid. refl)) refl

admits_another : IsStep base (built ∷ first ∷ []) (Admit 21 (BestEffort 3 0 0 0 0 0)) (Admitted None)
unfolding first_fault
admits_another =
    rw (flows_of-one base (built ∷ first ∷ []) 20
    (record { admission = record { spec = BestEffort 3 0 0 0 0 0; placement = None }; since = [] }) (lit≤ tt)
    (lit≤ tt) refl
    (λ sid other. rw (ne_eqb 20 sid (λ e. other (sym e))))) refl

-- the lower SID is served
serves_lower : IsStep base (asked []) (Build 800) (Built both_pending)
serves_lower = (
  both_pending,
  IsNextMap-from_lawful base (asked []) (lower [] ∷ higher [] ∷ []) [] both_pending
      (flows_of-two base (asked []) 20 21 (lower_life []) (higher_life []) (lit≤ tt) (lit< tt) (lit≤ tt) refl refl
      (λ sid l h. (third sid l h).0))
      (table_of-unplaced_two (asked []) 20 21 (lower_life []) (higher_life []) refl refl refl refl
      (λ sid l h. (third sid l h).0)) refl
      two_flows_take_turns,
  refl,
)

-- then the other
serves_other : IsStep base (asked (turn ∷ [])) (Build 840) (Built second_turn)
serves_other = (
  second_turn,
  IsNextMap-from_lawful base (asked (turn ∷ [])) (lower (grant_at 844) ∷ higher [] ∷ []) [] second_turn
      (flows_of-two base (asked (turn ∷ [])) 20 21 (lower_life (turn ∷ [])) (higher_life (turn ∷ [])) (lit≤ tt)
      (lit< tt)
      (lit≤ tt) refl refl (λ sid l h. (third sid l h).1))
      (table_of-unplaced_two (asked (turn ∷ [])) 20 21 (lower_life (turn ∷ []))
      (higher_life (turn ∷ [])) refl refl refl refl (λ sid l h. (third sid l h).1)) refl
      the_flow_without_a_grant_is_served,
  refl,
)

-- then the first again
serves_again : IsStep base (asked (turn ∷ other_turn ∷ [])) (Build 880) (Built third_turn)
serves_again = (
  third_turn,
  IsNextMap-from_lawful base (asked (turn ∷ other_turn ∷ []))
      (lower (grant_at 844) ∷ higher (grant_at 884) ∷ []) [] third_turn
      (flows_of-two base (asked (turn ∷ other_turn ∷ [])) 20 21 (lower_life (turn ∷ other_turn ∷ []))
      (higher_life (turn ∷ other_turn ∷ [])) (lit≤ tt) (lit< tt) (lit≤ tt) refl refl (λ sid l h. (third sid l h).2))
      (table_of-unplaced_two (asked (turn ∷ other_turn ∷ [])) 20 21 (lower_life (turn ∷ other_turn ∷ []))
      (higher_life (turn ∷ other_turn ∷ [])) refl refl refl refl (λ sid l h. (third sid l h).2)) refl
      the_flow_with_the_earlier_grant_is_served,
  refl,
)

-- the history is legal
pub three_maps_of_two_flows : IsLegal base (asked (turn ∷ other_turn ∷ entry 7 (Build 880) (Built third_turn) ∷ []))
unfolding sids
three_maps_of_two_flows = (
  the_first_map_may_follow_nothing,
  (admits, (admits_another, (refl, (refl, (serves_lower, (serves_other, (serves_again, tt))))))),
)
