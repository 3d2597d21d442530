-- What is kept of the requests and grants of one life.
use Rattle.std.specs.Prelude.{◌≡◌, ℕ, ◌+◌, ◌^◌, ◌<◌, ◌≤◌, ◌⊎◌, true, false, List, [], ◌∷◌, ◌++◌, length, map}
use Rattle.std.specs.Prelude.{vec_len, vec_capacity, if◌then◌else◌}
use Rattle.std.specs.List.{AllByRecursion}
use Rattle.std.specs.VecDeque.{deque_len, deque_capacity}
use Rattle.minislots.specs.declared.config.Config.{Config}
use Rattle.minislots.specs.Config.{IsLawful}
use Rattle.flow_book.specs.declared.flow.Grant.{Grant}
use Rattle.flow_book.specs.Flows.{bytes_of}
use Rattle.sched_calls.specs.declared.reply.Entry.{Entry}
use Rattle.sched_history.specs.Life.{asked_in, grants_since}
use Rattle.sched_report.specs.declared.service.Request.{Request}
use Rattle.sched_report.specs.declared.service.Service.{Service}
use Rattle.sched_report.specs.declared.service.Waiting.{Waiting}
use Rattle.sched_report.specs.Delays.{Claim, delays_of, replaced_of, AreDelays}
use Rattle.sched_report.specs.Requests.{claims_in}
use Rattle.sched_report.specs.Steps.{AreStepsOf}

-- a request that waits, where these are the data grants of its flow
abbrev pub waits_with : List Grant → Waiting → Claim
waits_with grants w = record { upto = w.upto; heard = w.heard; grants = grants; superseded = false }

-- a request where its flow has more data grants: a superseded one does not see them
abbrev pub with_grants : List Grant → Claim → Claim
with_grants more m = if m.superseded then m else record m { grants = m.grants ++ more }

-- a request that one after it supersedes
abbrev pub as_superseded : Claim → Claim
as_superseded m = record m { superseded = true }

-- These data grants serve a request: nothing supersedes it, it sees all of them, and their bytes reach it
pub record IsServedBy (grants : List Grant) (m : Claim) : Type 0 where
  pub stays : m.superseded ≡ false
  pub sees : m.grants ≡ grants
  pub some : 0 < m.upto
  pub within : m.upto ≤ bytes_of grants

-- no data grant after these changes what is told of a request: it was superseded, or they serve it
abbrev pub IsSettled : List Grant → Claim → Type 0
IsSettled grants m = (m.superseded ≡ true) ⊎ IsServedBy grants m

-- each of these requests was asked after the one before it, between so many bytes and so many
abbrev pub AreAscending : ℕ → ℕ → List Waiting → Type 0
AreAscending from last [] = Unit {0}
AreAscending from last (w ∷ ws) = (from ≤ w.upto) × (w.upto ≤ last) × AreAscending w.upto last ws

-- The numbers are those of the requests of a flow that asked so many bytes, and of its data grants; the last requests
-- wait: the granted bytes reach none of them. There is room for a step more of each that waits
pub record IsServiceOf (c : Config) (s : Service) (claims : List Claim) (bytes : ℕ) (grants : List Grant) : Type 0 where
  pub asks : s.asks ≡ length claims
  pub asked : s.asked ≡ bytes
  pub granted : s.granted ≡ bytes_of grants
  pub within : s.granted ≤ s.asked
  pub delays : AreDelays s.delays (delays_of c claims)
  pub replaced : s.replaced ≡ replaced_of c claims
  pub settled : List Claim
  pub split : claims ≡ settled ++ map (waits_with grants) s.waiting.items
  pub are_settled : AllByRecursion (IsSettled grants) settled
  pub unreached : AllByRecursion (λ w. s.granted < w.upto) s.waiting.items
  pub ascending : AreAscending 0 s.asked s.waiting.items
  pub steps : AreStepsOf s.spread.steps.items (delays_of c claims)
  pub room : vec_len s.spread.steps + deque_len s.waiting ≤ vec_capacity s.spread.steps

-- The numbers are those of a flow of this SID with these entries of its life, of which so many came before what is told
abbrev pub IsServiceAfter : Config → Service → ℕ → ℕ → List Entry → Type 0
IsServiceAfter c s sid passed es = IsServiceOf c s (claims_in c sid passed es) (asked_in c sid es) (grants_since sid es)

-- there is room for one request more, and for its step
abbrev pub HasRoom : Service → Type 0
HasRoom s = (deque_len s.waiting < deque_capacity s.waiting)
    × (vec_len s.spread.steps + deque_len s.waiting < vec_capacity s.spread.steps)

-- A request may be counted: it asks for bytes, and there are few enough
pub record MayAsk (c : Config) (s : Service) (r : Request) : Type 0 where
  pub claims : List Claim
  pub bytes : ℕ
  pub grants : List Grant
  pub is : IsServiceOf c s claims bytes grants
  pub some : 0 < r.bytes
  pub few : length claims < 2 ^ 44
  pub fits : bytes + r.bytes < 2 ^ 64

-- A data grant may be counted: its bytes were asked, and it starts in reach
pub record MayGrant (c : Config) (s : Service) (g : Grant) : Type 0 where
  pub claims : List Claim
  pub bytes : ℕ
  pub grants : List Grant
  pub is : IsServiceOf c s claims bytes grants
  pub lawful : IsLawful c
  pub few : length claims ≤ 2 ^ 44
  pub fits : bytes < 2 ^ 64
  pub within : bytes_of grants + g.bytes ≤ bytes
  pub reach : g.start < 2 ^ 63

-- An entry of the life of a flow of this SID may be counted behind these
pub record MayCount (c : Config) (sid : ℕ) (before : List Entry) (e : Entry) : Type 0 where
  pub few : length before < 2 ^ 44
  pub fits : asked_in c sid (before ++ e ∷ []) < 2 ^ 64

-- the first of those that wait is not reached by so many bytes
abbrev pub IsWaitingBehind : ℕ → List Waiting → Type 0
IsWaitingBehind granted [] = Unit {0}
IsWaitingBehind granted (w ∷ ws) = granted < w.upto

-- one waits, and it is reached
abbrev pub IsReachedFirst : ℕ → List Waiting → Type 0
IsReachedFirst granted [] = ⊥
IsReachedFirst granted (w ∷ ws) = w.upto ≤ granted
