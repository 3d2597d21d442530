-- A worked history of two lives of one SID, and of what a status answers.
use Rattle.std.proofs.Common.{◌≡◌, ◌≢◌, ℕ, List, [], ◌∷◌, ◌++◌, None, refl, sym, inl, inr, lit≤}
use Rattle.std.proofs.lemmas.Bool.{cases_eq, ne_eqb}
use Rattle.sched_calls.specs.declared.spec.FlowSpec.{FlowSpec}
use Rattle.sched_calls.specs.declared.spec.FlowSpec.TheVariants.{BestEffort}
use Rattle.sched_calls.specs.FlowSpec.{first_fault}
use Rattle.sched_calls.proofs.Base.{base}
use Rattle.map_build.proofs.RowsFirstGrant.{fresh, first_grant, whole_grant, a_first_grant_fills_the_room}
use Rattle.map_build.proofs.RowsFirstGrant.{a_first_grant_of_all_that_was_asked}
use Rattle.sched_calls.specs.declared.amount.Amount.TheVariants.{Bytes}
use Rattle.sched_calls.specs.declared.call.Call.TheVariants.{Admit, Remove, Ask, Build, Status}
use Rattle.sched_calls.specs.declared.reply.Reply.TheVariants.{Admitted, Removed, Taken, Built, Flow}
use Rattle.sched_calls.specs.declared.reply.Entry.{Entry}
use Rattle.sched_history.specs.Life.{Life, life_of, sids}
use Rattle.sched_history.specs.History.{IsStep, IsLegal}
use Rattle.sched_history.proofs.lives.LiveFlows.{flows_of-none, flows_of-one, table_of-unplaced_one}
use Rattle.sched_history.proofs.rows.NextMap.{IsNextMap-from_lawful}
use Rattle.sched_history.proofs.rows.TwoMaps.{entry, built, the_first_map_may_follow_nothing}

-- 64000 bits in a second, and bursts of 600 bytes
abbrev spec : FlowSpec
spec = BestEffort 3 64000 600 0 0 0

-- the first life: an admission and a request
abbrev begun : List Entry
begun = built ∷ entry 1 (Admit 17 spec) (Admitted None) ∷ entry 2 (Ask 0 17 (Bytes 3000) 801) Taken ∷ []

-- its grant, and its end
abbrev ended : List Entry
ended = begun ++ entry 3 (Build 800) (Built first_grant) ∷ entry 4 (Remove 17) Removed ∷ []

-- the second life: an admission and a request
abbrev begun_again : List Entry
begun_again =
    ended ++ entry 5 (Admit 17 spec) (Admitted None) ∷ entry 6 (Status 17) (Flow 0 0 0) ∷ entry 7
    (Ask 0 17 (Bytes 544) 841) Taken ∷ []

-- while it begins no other SID has a life
others : (sid : ℕ) → sid ≢ 17 → life_of sid begun ≡ None
others sid other = rw (ne_eqb 17 sid (λ e. other (sym e)))

-- after its end none has
none : (sid : ℕ) → life_of sid ended ≡ None
none sid = elim (cases_eq 17 sid) [ inl e ↦ rw (← e) | inr other ↦ rw (ne_eqb 17 sid other) ]

-- while the second begins no other has
others_again : (sid : ℕ) → sid ≢ 17 → life_of sid begun_again ≡ None
others_again sid other = rw (ne_eqb 17 sid (λ e. other (sym e)))

-- the two lives
abbrev first_life : Life
first_life =
    record {
      admission = record { spec = spec; placement = None };
      since = entry 2 (Ask 0 17
          (Bytes 3000) 801) Taken ∷ [];
    }

abbrev second_life : Life
second_life =
    record {
      admission = record { spec = spec; placement = None };
      since =
          entry 6 (Status 17) (Flow 0 0 0) ∷ entry 7 (Ask 0 17 (Bytes 544) 841) Taken ∷ [];
    }

-- the flow may be admitted
admits : IsStep base (built ∷ []) (Admit 17 spec) (Admitted None)
unfolding first_fault
admits = rw (flows_of-none base (built ∷ []) (λ sid. refl)) refl

-- its first grant fills the room
grants : IsStep base begun (Build 800) (Built first_grant)
grants = (
  first_grant,
  IsNextMap-from_lawful base begun (fresh 600 3000 801 ∷ []) [] first_grant
      (flows_of-one base begun 17 first_life (lit≤ tt) (lit≤ tt) refl others)
      (table_of-unplaced_one begun 17 first_life refl refl others) refl (a_first_grant_fills_the_room 600 (lit≤ tt)),
  refl,
)

-- the SID may be admitted again
admits_again : IsStep base ended (Admit 17 spec) (Admitted None)
unfolding first_fault
admits_again = rw (flows_of-none base ended none) refl

-- a new life begins with nothing asked and nothing granted
pub a_new_life_begins_at_nothing : IsStep base (ended ++ entry 5 (Admit 17 spec) (Admitted None) ∷ []) (Status 17)
    (Flow 0 0 0)
unfolding sids
a_new_life_begins_at_nothing = refl

-- its first grant has a whole burst before it, whatever the old life took
grants_again : IsStep base begun_again (Build 840) (Built whole_grant)
grants_again = (
  whole_grant,
  IsNextMap-from_lawful base begun_again (fresh 600 544 841 ∷ []) [] whole_grant
      (flows_of-one base begun_again 17 second_life (lit≤ tt) (lit≤ tt) refl others_again)
      (table_of-unplaced_one begun_again 17 second_life refl refl others_again) refl
      a_first_grant_of_all_that_was_asked,
  refl,
)

-- the history of both lives is legal
pub a_new_life_forgets_the_old : IsLegal base (begun_again ++ entry 8 (Build 840) (Built whole_grant) ∷ [])
unfolding sids
a_new_life_forgets_the_old = (
  the_first_map_may_follow_nothing,
  (admits, (refl, (grants, (refl, (admits_again, (a_new_life_begins_at_nothing, (refl, (grants_again, tt)))))))),
)
