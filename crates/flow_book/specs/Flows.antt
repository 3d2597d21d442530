-- The live flows, each with what it asked and was granted.
use Rattle.std.specs.Prelude.{ℕ, ◌-◌, ◌*◌, ◌≤◌, ◌==◌, List, [], ◌∷◌, ◌++◌, sum_by, find, map, Option}
use Rattle.std.specs.List.{AllByRecursion}
use Rattle.sched_calls.specs.declared.spec.FlowSpec.{FlowSpec}
use Rattle.flow_book.specs.declared.batches.Batches.{Batches}
use Rattle.flow_book.specs.declared.flow.Grant.{Grant}

-- a charge to a token bucket: the minislot at which it is made, and the tokens that it takes, of which 1280000 are a
-- byte
pub record Charge : Type 0 where
  pub start : ℕ
  pub tokens : ℕ

-- what a data grant charges: its bytes, where it starts
abbrev pub charge_of : Grant → Charge
charge_of g = record { start = g.start; tokens = 1280000 * g.bytes }

-- what some data grants charge
abbrev pub charges_of : List Grant → List Charge
charges_of grants = map charge_of grants

-- some charges with one more behind them: that of a data grant of so many bytes at this minislot
abbrev pub and_grant : List Charge → ℕ → ℕ → List Charge
and_grant charges slot bytes = charges ++ charge_of (record { start = slot; bytes = bytes }) ∷ []

-- a live flow: its SID and parameters, the bytes that it asked, the batches of its requests and its data grants in
-- order; and in order too what is charged to its ceiling, to its peak rate and to its reservation, each in the present
-- period of that
pub record LiveFlow : Type 0 where
  pub sid : ℕ
  pub spec : FlowSpec
  pub asked : ℕ
  pub batches : Batches
  pub grants : List Grant
  pub sustained : List Charge
  pub peak : List Charge
  pub reserved : List Charge

-- the bytes of some grants
abbrev pub bytes_of : List Grant → ℕ
bytes_of grants = sum_by (λ g. g.bytes) grants

-- the bytes granted to a flow
abbrev pub granted : LiveFlow → ℕ
granted f = bytes_of f.grants

-- the bytes that a flow asked and was not granted
abbrev pub outstanding : LiveFlow → ℕ
outstanding f = f.asked - granted f

-- the tokens of some charges
abbrev pub tokens_of : List Charge → ℕ
tokens_of charges = sum_by (λ g. g.tokens) charges

-- each of the grants starts at or before this minislot
abbrev pub HaveStartedBy : ℕ → List Grant → Type 0
HaveStartedBy slot grants = AllByRecursion (λ g. g.start ≤ slot) grants

-- each of the charges is made at or before this minislot
abbrev pub AreMadeBy : ℕ → List Charge → Type 0
AreMadeBy slot charges = AllByRecursion (λ g. g.start ≤ slot) charges

-- the live flow with this SID
abbrev pub flow_of : ℕ → List LiveFlow → Option LiveFlow
flow_of sid flows = find (λ f. f.sid == sid) flows
