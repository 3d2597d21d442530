-- Worked histories of unsolicited flows and the MAPs of their grants.
use Rattle.std.proofs.Common.{◌≡◌, ◌≢◌, ℕ, false, List, [], ◌∷◌, None, Some, refl, sym, inl, lit<, lit≤}
use Rattle.std.proofs.lemmas.Bool.{ne_eqb}
use Rattle.sched_calls.specs.FlowSpec.{first_fault}
use Rattle.sched_calls.proofs.Base.{base}
use Rattle.periodic.specs.Placement.{Placed}
use Rattle.periodic.proofs.RowsPlacement.{voice, placement, first_placed, second_placed}
use Rattle.periodic.proofs.RowsGrants.{double_voice, two_grants_of_a_frame_stand_one_behind_the_other}
use Rattle.periodic.proofs.RowsPlacement.{the_first_flow_stands_behind_the_requests}
use Rattle.periodic.proofs.RowsPlacement.{the_second_flow_stands_behind_the_first}
use Rattle.map_build.proofs.RowsUnsolicited.{voices, unsolicited_map, a_frame_with_unsolicited_grants}
use Rattle.map_build.proofs.RowsUnsolicited.{double_voices, double_map, a_frame_with_two_grants_of_a_flow}
use Rattle.sched_calls.specs.declared.call.Call.TheVariants.{Admit, Build, Status}
use Rattle.sched_calls.specs.declared.reply.Reply.TheVariants.{Admitted, Built, Flow}
use Rattle.sched_calls.specs.declared.reply.Entry.{Entry}
use Rattle.sched_history.specs.Life.{Life, life_of, sids}
use Rattle.sched_history.specs.History.{IsStep, IsLegal}
use Rattle.sched_history.proofs.lives.LiveFlows.{flows_of-none, flows_of-one, flows_of-two}
use Rattle.sched_history.proofs.lives.LiveFlows.{table_of-none, table_of-one, table_of-two}
use Rattle.sched_history.proofs.rows.NextMap.{IsNextMap-from_lawful}
use Rattle.sched_history.proofs.rows.TwoMaps.{entry}

-- the two admissions
abbrev first : Entry
first = entry 0 (Admit 5 voice) (Admitted (Some (placement 804 (4 ∷ 4 ∷ []))))

abbrev second : Entry
second = entry 1 (Admit 6 voice) (Admitted (Some (placement 804 (19 ∷ 19 ∷ []))))

-- the lives that they begin
abbrev first_life : List Entry → Life
first_life since =
    record { admission = record { spec = voice; placement = Some (placement 804 (4 ∷ 4 ∷ [])) }; since = since }

abbrev second_life : Life
second_life =
    record { admission = record { spec = voice; placement = Some (placement 804 (19 ∷ 19 ∷ [])) }; since = [] }

-- after the first no other SID has a life
others : (sid : ℕ) → sid ≢ 5 → life_of sid (first ∷ []) ≡ None
others sid other = rw (ne_eqb 5 sid (λ e. other (sym e)))

-- after the second no third has
others_of_both : (sid : ℕ) → sid ≢ 5 → sid ≢ 6 → life_of sid (first ∷ second ∷ []) ≡ None
others_of_both sid not_first not_second =
    rw (ne_eqb 5 sid (λ e. not_first (sym e)), ne_eqb 6 sid (λ e. not_second (sym e)))

-- the first flow is admitted behind the request region
pub an_unsolicited_flow_is_admitted : IsStep base [] (Admit 5 voice) (Admitted (Some (placement 804 (4 ∷ 4 ∷ []))))
unfolding first_fault
an_unsolicited_flow_is_admitted = rw (flows_of-none base [] (λ sid. refl))
    (inl (
      placement 804 (4 ∷ 4 ∷ []),
      (rw (table_of-none [] (λ sid. refl)) the_first_flow_stands_behind_the_requests),
      refl,
    ))

-- the second behind the first
pub a_second_unsolicited_flow_is_admitted : IsStep base (first ∷ []) (Admit 6 voice)
    (Admitted (Some (placement 804 (19 ∷ 19 ∷ []))))
unfolding first_fault
a_second_unsolicited_flow_is_admitted = rw (flows_of-one base (first ∷ []) 5 (first_life []) (lit≤ tt)
    (lit≤ tt) refl others)
    (inl (
      placement 804 (19 ∷ 19 ∷ []),
      (rw (table_of-one (first ∷ []) 5 (first_life []) first_placed (lit≤ tt) (lit≤ tt) refl refl others)
          the_second_flow_stands_behind_the_first),
      refl,
    ))

-- the MAP has a grant of each
pub the_map_of_two_unsolicited_flows_may_follow : IsStep base (first ∷ second ∷ []) (Build 760) (Built unsolicited_map)
the_map_of_two_unsolicited_flows_may_follow = (
  unsolicited_map,
  IsNextMap-from_lawful base (first ∷ second ∷ []) voices (first_placed ∷ second_placed ∷ []) unsolicited_map
      (flows_of-two base (first ∷ second ∷ []) 5 6 (first_life (second ∷ [])) second_life (lit≤ tt) (lit< tt)
      (lit≤ tt) refl refl others_of_both)
      (table_of-two (first ∷ second ∷ []) 5 6 (first_life (second ∷ [])) second_life first_placed second_placed
      (lit≤ tt) (lit< tt) (lit≤ tt) refl refl refl refl others_of_both) refl
      a_frame_with_unsolicited_grants,
  refl,
)

-- the history is legal
pub two_unsolicited_flows_and_their_map : IsLegal base
    (first ∷ second ∷ entry 2 (Build 760) (Built unsolicited_map) ∷ [])
two_unsolicited_flows_and_their_map = (
  an_unsolicited_flow_is_admitted,
  (a_second_unsolicited_flow_is_admitted, (the_map_of_two_unsolicited_flows_may_follow, tt)),
)

-- the status of an unsolicited flow shows zeros
pub an_unsolicited_flow_shows_zeros : IsStep base (first ∷ second ∷ entry 2 (Build 760) (Built unsolicited_map) ∷ [])
    (Status 5) (Flow 0 0 0)
unfolding sids
an_unsolicited_flow_shows_zeros = refl

-- a flow with two grants in each interval, where it stands, its admission and its life
abbrev double_placed : Placed
double_placed = record {
  sid = 5;
  spec = double_voice;
  placement = placement 804 (4 ∷ 19 ∷ 4 ∷ 19 ∷ []);
  rests = false;
}

abbrev double : Entry
double = entry 0 (Admit 5 double_voice) (Admitted (Some (placement 804 (4 ∷ 19 ∷ 4 ∷ 19 ∷ []))))

abbrev double_life : Life
double_life = record {
  admission = record { spec = double_voice; placement = Some (placement 804 (4 ∷ 19 ∷ 4 ∷ 19 ∷ [])) };
  since = [];
}

-- no other SID has one
others_of_double : (sid : ℕ) → sid ≢ 5 → life_of sid (double ∷ []) ≡ None
others_of_double sid other = rw (ne_eqb 5 sid (λ e. other (sym e)))

-- it is admitted with the starts of both grants in each of its frames
pub a_flow_with_two_grants_is_admitted : IsStep base [] (Admit 5 double_voice)
    (Admitted (Some (placement 804 (4 ∷ 19 ∷ 4 ∷ 19 ∷ []))))
unfolding first_fault
a_flow_with_two_grants_is_admitted = rw (flows_of-none base [] (λ sid. refl))
    (inl (
      placement 804 (4 ∷ 19 ∷ 4 ∷ 19 ∷ []),
      (rw (table_of-none [] (λ sid. refl)) two_grants_of_a_frame_stand_one_behind_the_other),
      refl,
    ))

-- the MAP has both
pub the_map_of_a_flow_with_two_grants_may_follow : IsStep base (double ∷ []) (Build 760) (Built double_map)
the_map_of_a_flow_with_two_grants_may_follow = (
  double_map,
  IsNextMap-from_lawful base (double ∷ []) double_voices (double_placed ∷ []) double_map
      (flows_of-one base (double ∷ []) 5 double_life (lit≤ tt) (lit≤ tt) refl others_of_double)
      (table_of-one (double ∷ []) 5 double_life double_placed (lit≤ tt) (lit≤ tt) refl refl others_of_double) refl
      a_frame_with_two_grants_of_a_flow,
  refl,
)
