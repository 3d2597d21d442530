-- Worked lives of a flow that changes: each of its two ceilings has periods of its own.
use Rattle.std.proofs.Common.{◌≡◌, ℕ, List, [], ◌∷◌, ◌++◌, None, refl}
use Rattle.sched_calls.specs.declared.spec.FlowSpec.{FlowSpec}
use Rattle.sched_calls.specs.declared.spec.FlowSpec.TheVariants.{BestEffort}
use Rattle.sched_calls.proofs.Base.{base}
use Rattle.flow_book.specs.declared.flow.Grant.{Grant}
use Rattle.flow_book.specs.Flows.{LiveFlow, charges_of}
use Rattle.flow_book.proofs.RowsCeiling.{grant}
use Rattle.map_build.proofs.RowsFirstGrant.{first_grant}
use Rattle.map_build.proofs.RowsCeiling.{second_grant}
use Rattle.map_build.proofs.RowsPeak.{two as second_grants}
use Rattle.sched_calls.specs.declared.amount.Amount.TheVariants.{Bytes}
use Rattle.sched_calls.specs.declared.call.Call.TheVariants.{Ask, Build, Change}
use Rattle.sched_calls.specs.declared.reply.Reply.TheVariants.{Taken, Built, Changed}
use Rattle.sched_calls.specs.declared.reply.Entry.{Entry}
use Rattle.sched_history.specs.Life.{flow_in_life}
use Rattle.sched_history.proofs.rows.TwoMaps.{entry}

-- a change of the flow to these parameters
abbrev changed : ℕ → FlowSpec → Entry
changed ticket spec = entry ticket (Change 17 spec) (Changed None)

-- the flow that is admitted with a ceiling and a peak rate, asks, is granted 544 bytes, is changed so, and is granted
-- as many again
abbrev flow_with : List Entry → LiveFlow
flow_with changes = flow_in_life base 17 (record {
  admission = record { spec = BestEffort 3 64000 1600 64000 0 0; placement = None };
  since = entry 2 (Ask 0 17 (Bytes 3000) 801) Taken ∷ entry 3 (Build 800) (Built first_grant) ∷ (changes
      ++ entry 6 (Build 840) (Built second_grant) ∷ []);
})

-- its second grant alone
abbrev second : List Grant
second = grant 884 544 ∷ []

-- a change of the peak rate alone begins a period of that, and leaves the other
pub another_peak_begins_its_period :
    ((flow_with (changed 4 (BestEffort 3 64000 1600 128000 0 0) ∷ [])).peak ≡ charges_of second)
    × ((flow_with (changed 4 (BestEffort 3 64000 1600 128000 0 0) ∷ [])).sustained ≡ charges_of second_grants)
another_peak_begins_its_period = (refl, refl)

-- a change of the rate alone, or of the burst, the other way round
pub another_rate_leaves_the_peak :
    ((flow_with (changed 4 (BestEffort 3 128000 1600 64000 0 0) ∷ [])).peak ≡ charges_of second_grants)
    × ((flow_with (changed 4 (BestEffort 3 128000 1600 64000 0 0) ∷ [])).sustained ≡ charges_of second)
another_rate_leaves_the_peak = (refl, refl)

pub another_burst_leaves_the_peak :
    ((flow_with (changed 4 (BestEffort 3 64000 2000 64000 0 0) ∷ [])).peak ≡ charges_of second_grants)
    × ((flow_with (changed 4 (BestEffort 3 64000 2000 64000 0 0) ∷ [])).sustained ≡ charges_of second)
another_burst_leaves_the_peak = (refl, refl)

-- a change of the priority leaves both, and one of both begins both
pub another_priority_leaves_both :
    ((flow_with (changed 4 (BestEffort 5 64000 1600 64000 0 0) ∷ [])).peak ≡ charges_of second_grants)
    × ((flow_with (changed 4 (BestEffort 5 64000 1600 64000 0 0) ∷ [])).sustained ≡ charges_of second_grants)
another_priority_leaves_both = (refl, refl)

pub others_of_both_begin_both :
    ((flow_with (changed 4 (BestEffort 3 128000 1600 128000 0 0) ∷ [])).peak ≡ charges_of second)
    × ((flow_with (changed 4 (BestEffort 3 128000 1600 128000 0 0) ∷ [])).sustained ≡ charges_of second)
others_of_both_begin_both = (refl, refl)

-- a peak rate that is changed and then as before begins a period all the same
pub a_peak_as_before_begins_a_period :
    ((flow_with (changed 4 (BestEffort 3 64000 1600 0 0 0) ∷ changed 5 (BestEffort 3 64000 1600 64000 0 0) ∷ [])).peak
    ≡ charges_of second)
    × ((flow_with (changed 4 (BestEffort 3 64000 1600 0 0 0) ∷ changed 5 (BestEffort 3 64000 1600 64000 0 0) ∷ [])).sustained
    ≡ charges_of second_grants)
a_peak_as_before_begins_a_period = (refl, refl)
