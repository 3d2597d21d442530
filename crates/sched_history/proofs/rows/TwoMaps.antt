-- A worked history: a MAP without flows, an admission, a request, and the MAP that grants it.
use Rattle.std.proofs.Common.{◌≡◌, ◌≢◌, ℕ, [], ◌∷◌, None, refl, sym, lit≤}
use Rattle.std.proofs.lemmas.Bool.{ne_eqb}
use Rattle.sched_calls.specs.declared.spec.FlowSpec.TheVariants.{BestEffort}
use Rattle.sched_calls.specs.FlowSpec.{first_fault}
use Rattle.sched_calls.proofs.Base.{base}
use Rattle.sched_calls.proofs.BaseMaps.{first_map}
use Rattle.map_build.proofs.RowsMaps.{second_map, small, a_frame_without_flows, a_frame_with_one_grant}
use Rattle.sched_calls.specs.declared.call.Call.{Call}
use Rattle.sched_calls.specs.declared.amount.Amount.TheVariants.{Bytes}
use Rattle.sched_calls.specs.declared.call.Call.TheVariants.{Admit, Ask, Build}
use Rattle.sched_calls.specs.declared.reply.Reply.{Reply}
use Rattle.sched_calls.specs.declared.reply.Reply.TheVariants.{Admitted, Taken, Built}
use Rattle.sched_calls.specs.declared.reply.Entry.{Entry}
use Rattle.sched_history.specs.Life.{Life, life_of, sids}
use Rattle.sched_history.specs.History.{IsStep, IsLegal}
use Rattle.sched_history.proofs.lives.LiveFlows.{flows_of-none, flows_of-one, table_of-none, table_of-unplaced_one}
use Rattle.sched_history.proofs.rows.NextMap.{IsNextMap-from_lawful}

-- a call of seat 0 with its ticket
abbrev pub entry : ℕ → Call → Reply → Entry
entry ticket call reply = record { stamp = record { seat = 0; ticket = ticket }; call = call; reply = reply }

-- the entries: the first MAP, the admission, the request, and the second MAP
abbrev pub built : Entry
built = entry 0 (Build 760) (Built first_map)

-- SID 17 is admitted
abbrev pub admitted : Entry
admitted = entry 1 (Admit 17 (BestEffort 3 0 0 0 0 0)) (Admitted None)

-- it asks for 100 bytes
abbrev pub asked : Entry
asked = entry 2 (Ask 0 17 (Bytes 100) 801) Taken

-- the second build, with the grant
abbrev pub granted : Entry
granted = entry 3 (Build 800) (Built second_map)

-- at the start the MAP of an idle frame may be built
pub the_first_map_may_follow_nothing : IsStep base [] (Build 760) (Built first_map)
the_first_map_may_follow_nothing = (
  first_map,
  IsNextMap-from_lawful base [] [] [] first_map (flows_of-none base [] (λ sid. refl))
      (table_of-none [] (λ sid. refl)) refl a_frame_without_flows,
  refl,
)

-- then a flow may be admitted
a_flow_may_be_admitted : IsStep base (built ∷ []) (Admit 17 (BestEffort 3 0 0 0 0 0)) (Admitted None)
unfolding first_fault
a_flow_may_be_admitted = rw (flows_of-none base (built ∷ []) (λ sid. refl)) refl

-- then it may ask for 100 bytes
a_flow_may_ask : IsStep base (built ∷ admitted ∷ []) (Ask 0 17 (Bytes 100) 801) Taken
unfolding sids
a_flow_may_ask = refl

-- its life by then
abbrev life : Life
life = record { admission = record { spec = BestEffort 3 0 0 0 0 0; placement = None }; since = asked ∷ [] }

-- no other SID has a life
others : (sid : ℕ) → sid ≢ 17 → life_of sid (built ∷ admitted ∷ asked ∷ []) ≡ None
others sid other = rw (ne_eqb 17 sid (λ e. other (sym e)))

-- then the MAP with its grant may be built
the_second_map_may_follow : IsStep base (built ∷ admitted ∷ asked ∷ []) (Build 800) (Built second_map)
the_second_map_may_follow = (
  second_map,
  IsNextMap-from_lawful base (built ∷ admitted ∷ asked ∷ []) (small ∷ []) [] second_map
      (flows_of-one base (built ∷ admitted ∷ asked ∷ []) 17 life (lit≤ tt) (lit≤ tt) refl others)
      (table_of-unplaced_one (built ∷ admitted ∷ asked ∷ []) 17 life refl refl others) refl
      a_frame_with_one_grant,
  refl,
)

-- the whole history is legal
pub two_maps_of_one_flow : IsLegal base (built ∷ admitted ∷ asked ∷ granted ∷ [])
two_maps_of_one_flow =
    (the_first_map_may_follow_nothing, (a_flow_may_be_admitted, (a_flow_may_ask, (the_second_map_may_follow, tt))))
