-- How the logic stores the data grants of a flow and what they charge, which stand in proofs alone.
use Rattle.std.specs.Prelude.{ℕ, List, refl}
use Rattle.std.specs.Coded.{Coded, code_by, coded×, coded_ℕ, coded_list}
use Rattle.flow_book.specs.declared.flow.Grant.{Grant}
use Rattle.flow_book.specs.Flows.{Charge}

-- a data grant is stored as its start and its bytes
abbrev pub grants_code : Coded (List Grant)
grants_code =
    coded_list
    (code_by (ℕ × ℕ) (coded× coded_ℕ coded_ℕ) (λ g. (g.start, g.bytes)) (λ p. record { start = p.0; bytes = p.1 })
    (λ _. refl))

-- a charge as its start and its tokens
abbrev pub charges_code : Coded (List Charge)
charges_code =
    coded_list
    (code_by (ℕ × ℕ) (coded× coded_ℕ coded_ℕ) (λ g. (g.start, g.tokens)) (λ p. record { start = p.0; tokens = p.1 })
    (λ _. refl))
