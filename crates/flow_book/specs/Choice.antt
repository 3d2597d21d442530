-- Which flow a data grant goes to, and how many bytes it has.
use Rattle.std.specs.Prelude.{◌≡◌, ℕ, ◌<◌, ◌≤◌, min, Bool, true, false, ◌&&◌, ◌||◌, nat_lt, ◌==◌, ◌⊎◌, List, [], ◌∷◌}
use Rattle.std.specs.Prelude.{Contains, Option, None, Some, IsSomeAnd, unwrap_or}
use Rattle.std.specs.List.{AllByRecursion}
use Rattle.minislots.specs.declared.config.Config.{Config}
use Rattle.minislots.specs.Units.{slots_for}
use Rattle.sched_calls.specs.FlowSpec.{takes_requests, rate_of, burst_of, peak_of, reserved_of, reserved_burst_of}
use Rattle.sched_calls.specs.declared.spec.TheConstants.{PEAK_BURST}
use Rattle.flow_book.specs.declared.flow.Grant.{Grant}
use Rattle.flow_book.specs.Flows.{LiveFlow, outstanding, and_grant, HaveStartedBy, flow_of}
use Rattle.flow_book.specs.Ceiling.{KeepsCeiling}
use Rattle.flow_book.specs.Reserved.{is_under, rank_at}

-- The flow keeps its ceiling, and that of its peak rate, with one grant more, and where it is under its reservation it
-- keeps that too
pub record KeepsWith (c : Config) (f : LiveFlow) (start bytes : ℕ) : Type 0 where
  pub sustained : KeepsCeiling c (rate_of f.spec) (burst_of f.spec)
      (and_grant f.sustained start bytes)
  pub peak : KeepsCeiling c (peak_of f.spec) PEAK_BURST
      (and_grant f.peak start bytes)
  pub reserved : is_under c start f ≡ true → KeepsCeiling c (reserved_of f.spec) (reserved_burst_of f.spec)
      (and_grant f.reserved start bytes)

-- a grant of so many bytes at this minislot keeps the flow's ceilings, and fits the room
pub record MayTake (c : Config) (f : LiveFlow) (start room bytes : ℕ) : Type 0 where
  pub ceiling : KeepsWith c f start bytes
  pub fits : slots_for c bytes ≤ room

-- so many bytes may be granted: some of those outstanding, at most the cap, within ceilings and room
pub record MayGrant (c : Config) (f : LiveFlow) (start room bytes : ℕ) : Type 0 where
  pub positive : 0 < bytes
  pub asked : bytes ≤ outstanding f
  pub capped : bytes ≤ c.grant_cap
  pub taken : MayTake c f start room bytes

-- the most bytes that may be granted
pub record IsAmount (c : Config) (f : LiveFlow) (start room bytes : ℕ) : Type 0 where
  pub allowed : MayGrant c f start room bytes
  pub greatest : (more : ℕ) → MayGrant c f start room more → more ≤ bytes

-- the amount, or 0 where no bytes may be granted
pub record IsMost (c : Config) (f : LiveFlow) (start room bytes : ℕ) : Type 0 where
  pub amount : 0 < bytes → IsAmount c f start room bytes
  pub none : bytes ≡ 0 → (more : ℕ) → MayGrant c f start room more → ⊥

-- the flow may be served: it has bytes outstanding, of which it may take the quantum, or all where they are fewer
pub record IsEligible (c : Config) (start room : ℕ) (f : LiveFlow) : Type 0 where
  pub serves : takes_requests f.spec ≡ true
  pub waits : 0 < outstanding f
  pub takes : MayTake c f start room (min (outstanding f) c.quantum)

-- no flow may be served
abbrev pub NoneEligible : Config → List LiveFlow → ℕ → ℕ → Type 0
NoneEligible c flows start room = AllByRecursion (λ f. IsEligible c start room f → ⊥) flows

-- the minislot at which the last of some grants starts: none where there is no grant
abbrev pub last_start : List Grant → Option ℕ
last_start [] = None
last_start (g ∷ []) = Some g.start
last_start (g ∷ next ∷ grants) = last_start (next ∷ grants)

-- the same minislot, or 0 where there is no grant
abbrev pub last_slot : List Grant → ℕ
last_slot grants = unwrap_or (last_start grants) 0

-- whether the first of two flows had its last grant earlier than the second: the start of each one's last grant, or
-- none where it had no grant yet, which counts as earlier than any start
abbrev pub is_earlier : Option ℕ → Option ℕ → Bool
is_earlier None None = false
is_earlier None (Some n) = true
is_earlier (Some m) None = false
is_earlier (Some m) (Some n) = nat_lt m n

-- whether neither had its last grant earlier: both at the same minislot, or both had no grant yet
abbrev pub is_as_early : Option ℕ → Option ℕ → Bool
is_as_early None None = true
is_as_early None (Some n) = false
is_as_early (Some m) None = false
is_as_early (Some m) (Some n) = m == n

-- whether f is served before g at a minislot: by rank from the highest, then by the last grant's start, then by SID
abbrev pub is_before : Config → ℕ → LiveFlow → LiveFlow → Bool
is_before c start f g = nat_lt (rank_at c start g) (rank_at c start f)
    || (rank_at c start f == rank_at c start g && (is_earlier (last_start f.grants) (last_start g.grants)
    || (is_as_early (last_start f.grants) (last_start g.grants) && nat_lt f.sid g.sid)))

-- f is the eligible flow that is served first: each other eligible one comes after it
pub record IsNext (c : Config) (flows : List LiveFlow) (start room : ℕ) (f : LiveFlow) : Type 0 where
  pub live : Contains flows f
  pub eligible : IsEligible c start room f
  pub first : AllByRecursion (λ g. IsEligible c start room g → (g ≡ f) ⊎ (is_before c start f g ≡ true)) flows

-- the flow that is served first among these, or none may be served
abbrev pub IsNextOf : Config → ℕ → ℕ → List LiveFlow → Option LiveFlow → Type 0
IsNextOf c start room flows None = NoneEligible c flows start room
IsNextOf c start room flows (Some f) = IsNext c flows start room f

-- what may be served next: the flow with this SID, or none
abbrev pub IsNextSid : Config → ℕ → ℕ → List LiveFlow → Option ℕ → Type 0
IsNextSid c start room flows None = NoneEligible c flows start room
IsNextSid c start room flows (Some sid) = IsSomeAnd (flow_of sid flows) (IsNext c flows start room)

-- each grant of the flow starts at or before this minislot
abbrev pub HasStartedBy : ℕ → LiveFlow → Type 0
HasStartedBy start f = HaveStartedBy start f.grants
