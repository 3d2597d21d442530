-- How the logic stores the live flows of a book, which stand in proofs alone, and what is read of them.
use Rattle.std.specs.Prelude.{◌≡◌, ℕ, List, [], slice_get, refl}
use Rattle.std.specs.Option.{option_map_or}
use Rattle.std.specs.Coded.{Coded, code_by, coded×, coded_ℕ, coded_list}
use Rattle.sched_calls.specs.declared.spec.FlowSpec.{FlowSpec}
use Rattle.sched_calls.specs.contracts.spec.FlowSpec as spec
use Rattle.flow_book.specs.declared.batches.Batches.{Batches}
use Rattle.flow_book.specs.declared.flow.Grant.{Grant}
use Rattle.flow_book.specs.declared.granted.GrantList.{GrantList}
use Rattle.flow_book.specs.contracts.batches.Batches as batches
use Rattle.flow_book.specs.Granted.{grants_code, charges_code}
use Rattle.flow_book.specs.Flows.{LiveFlow, Charge}

-- a live flow is stored as its fields
abbrev pub flows_code : Coded (List LiveFlow)
flows_code =
    coded_list
    (code_by (ℕ × (FlowSpec × (ℕ × (Batches × (List Grant × (List Charge × (List Charge × List Charge)))))))
    (coded× coded_ℕ
    (coded× spec.the_row.coded (coded× coded_ℕ (coded× batches.the_row.coded (coded× grants_code
    (coded× charges_code (coded× charges_code charges_code)))))))
    (λ f. (
      f.sid,
      (f.spec, (f.asked, (f.batches, (f.grants, (f.sustained, (f.peak, f.reserved)))))),
    ))
    (λ p. record {
      sid = p.0;
      spec = p.1.0;
      asked = p.1.1.0;
      batches = p.1.1.1.0;
      grants = p.1.1.1.1.0;
      sustained = p.1.1.1.1.1.0;
      peak = p.1.1.1.1.1.1.0;
      reserved = p.1.1.1.1.1.1.1;
    })
    (λ _. refl))

-- what is read of the flow at this place, and nothing where there is no flow
abbrev pub list_at : {A : Type 0} → (LiveFlow → List A) → ℕ → List LiveFlow → List A
list_at list place flows = option_map_or list (slice_get flows place) []

-- these are the grants of the flow at this place, and what they charge
abbrev pub AreGrantsAt : ℕ → List LiveFlow → GrantList → Type 0
AreGrantsAt place flows grants = (grants.items ≡ list_at (λ f. f.grants) place flows)
    × (grants.sustained ≡ list_at (λ f. f.sustained) place flows)
    × (grants.peak ≡ list_at (λ f. f.peak) place flows)
    × (grants.reserved ≡ list_at (λ f. f.reserved) place flows)
