-- What a MAP adds to what is told of lives.
use Rattle.std.specs.Prelude.{◌≡◌, ℕ, ◌+◌, ◌*◌, ◌<◌, ◌≤◌, ◌^◌, List, ◌++◌, length, map, slice_index_or, None}
use Rattle.minislots.specs.declared.config.Config.{Config}
use Rattle.flow_book.specs.declared.flow.Grant.{Grant}
use Rattle.sched_calls.specs.declared.spec.FlowSpec.{FlowSpec}
use Rattle.sched_report.specs.declared.life.LifeTally.{LifeTally}
use Rattle.sched_report.specs.Delays.{Claim}
use Rattle.sched_report.specs.Served.{IsServiceOf, with_grants}
use Rattle.sched_report.specs.Told.{MayGrantAll}

-- A life has data grants more, and so many bytes of unsolicited grants, of which there are no more than so many, where
-- it goes on, and else it is as it was
pub record HasMore (c : Config) (grants : List Grant) (most unsolicited : ℕ) (old new : LifeTally) : Type 0 where
  pub sid : new.sid ≡ old.sid
  pub spec : new.spec ≡ old.spec
  pub beginning : new.beginning ≡ old.beginning
  pub to : new.to ≡ old.to
  pub ended : (old.to ≡ None → ⊥) → new ≡ old
  pub service : old.to ≡ None → (claims : List Claim) (bytes : ℕ) (before : List Grant)
      → IsServiceOf c old.service claims bytes before
      → IsServiceOf c new.service (map (with_grants grants) claims) bytes (before ++ grants)
  pub counted : old.to ≡ None → new.unsolicited ≡ old.unsolicited + unsolicited
  pub few : new.unsolicited ≤ old.unsolicited + 2 ^ 32 * most

-- each life has more: the data grants to its SID, and the unsolicited grants to its parameters and its SID
abbrev pub HaveMore : Config → (ℕ → List Grant) → ℕ → (FlowSpec → ℕ → ℕ) → List LifeTally → List LifeTally → Type 0
HaveMore c grants most unsolicited old new = (k : ℕ) (t : LifeTally) → k < length old
    → HasMore c (grants (slice_index_or old k t).sid) most
    (unsolicited (slice_index_or old k t).spec (slice_index_or old k t).sid)
    (slice_index_or old k t) (slice_index_or new k t)

-- the data grants to its SID may be counted in each life that goes on
abbrev pub MayGrantEach : Config → (ℕ → List Grant) → List LifeTally → Type 0
MayGrantEach c grants ts = (k : ℕ) (t : LifeTally) → k < length ts → (slice_index_or ts k t).to ≡ None
    → MayGrantAll c (slice_index_or ts k t).service (grants (slice_index_or ts k t).sid)

-- so many unsolicited grants, of as many bytes as a flow may have, may be counted in each life that goes on
abbrev pub MayCountEach : ℕ → List LifeTally → Type 0
MayCountEach more ts = (k : ℕ) (t : LifeTally) → k < length ts → (slice_index_or ts k t).to ≡ None
    → (slice_index_or ts k t).unsolicited + 2 ^ 32 * more ≤ 2 ^ 100
