-- The acknowledge times and pending grants of the MAPs of every legal history.
use Rattle.std.specs.Prelude.{◌≡◌, ℕ, ◌<◌, ◌≤◌, List, [], ◌∷◌, ◌++◌, Contains, count_by, None, Some}
use Rattle.std.specs.List.{AllByRecursion}
use Rattle.minislots.specs.declared.config.Config.{Config}
use Rattle.map_codec.specs.declared.element.Element.{Element}
use Rattle.flow_book.specs.Flows.{LiveFlow, granted}
use Rattle.flow_book.specs.Shown.{waits}
use Rattle.sched_calls.specs.declared.frame_map.FrameMap.{FrameMap}
use Rattle.map_build.specs.FrameMap.{null_element, pending_of}
use Rattle.sched_calls.specs.declared.call.Call.{Call}
use Rattle.sched_calls.specs.declared.call.Call.TheVariants.{Ask, Replace}
use Rattle.sched_calls.specs.declared.reply.Reply.{Reply}
use Rattle.sched_calls.specs.declared.reply.Reply.TheVariants.{Taken, Built}
use Rattle.sched_calls.specs.declared.reply.Entry.{Entry}
use Rattle.sched_history.specs.Latest.{latest}
use Rattle.sched_history.specs.Life.{Life, life_of, replaced_by, asked_in, flow_in_life, flows_of}
use Rattle.sched_history.specs.Time.{ack_after}
use Rattle.sched_history.specs.History.{IsLegal}
use Rattle.sched_history.specs.Facts.{maps_of}

-- this holds of the minislot in which a request was heard, where an entry is an accepted one of this SID
abbrev pub HoldsWhereHeard : ℕ → (ℕ → Type 0) → Call → Reply → Type 0
HoldsWhereHeard sid P (Ask receiver other amount heard) Taken = other ≡ sid → P heard
HoldsWhereHeard sid P (Replace receiver other amount heard) Taken = other ≡ sid → P heard
HoldsWhereHeard sid P call reply = Unit {0}

-- P holds of each member with the ones before it and the ones after it, the first of the list coming after these
abbrev pub EachBetween : {X : Type 0} → (List X → X → List X → Type 0) → List X → List X → Type 0
EachBetween P before [] = Unit {0}
EachBetween P before (x ∷ xs) = P before x xs × EachBetween P (before ++ x ∷ []) xs

-- no accepted request of this SID in these entries leaves its bytes in the place of those before
abbrev pub IsUnreplaced : Config → ℕ → List Entry → Type 0
IsUnreplaced c sid entries = latest (λ e. replaced_by c sid e.call e.reply) entries ≡ None

-- it holds of each accepted request in the entries of a life that waits with so many bytes granted: no request after it
-- replaced it, and the bytes asked up to it, its own among them, are more
abbrev pub HoldsOfEachWaiting : Config → ℕ → ℕ → (ℕ → Type 0) → List Entry → Type 0
HoldsOfEachWaiting c sid served P entries = EachBetween
    (λ before e after. IsUnreplaced c sid after → served < asked_in c sid (before ++ e ∷ [])
    → HoldsWhereHeard sid P e.call e.reply) [] entries

-- A MAP has a pending grant of this flow, behind its Null
pub record HasPending (c : Config) (m : FrameMap) (f : LiveFlow) : Type 0 where
  pub front : List Element
  pub behind : List Element
  pub whole : m.wire.elements ≡ front ++ null_element c ∷ behind
  pub pending : Contains behind (pending_of c f)

-- each request of a life that waits and was heard before the MAP's acknowledge time is of a flow with a pending grant
-- in the MAP
abbrev pub ShowsRequests : Config → FrameMap → ℕ → Life → Type 0
ShowsRequests c m sid life =
    HoldsOfEachWaiting c sid (granted (flow_in_life c sid life))
    (λ heard. heard < m.ack → HasPending c m (flow_in_life c sid life)) life.since

-- What holds of a MAP that was built after these entries, where these with it come after
pub record KeepsWaiting (c : Config) (before after : List Entry) (m : FrameMap) : Type 0 where
  pub within_progress : m.ack ≤ ack_after c before
  pub not_held_back : count_by waits (flows_of c after) ≤ c.pending → m.ack ≡ ack_after c before
  pub never_falls : AllByRecursion (λ earlier. earlier.ack ≤ m.ack) (maps_of before)
  pub none_lost : (sid : ℕ) (life : Life) → life_of sid after ≡ Some life → ShowsRequests c m sid life

-- so it is of every MAP of every legal history
abbrev pub IsEveryWait : Type 0
IsEveryWait = (c : Config) (h : List Entry) (e : Entry) (m : FrameMap) → IsLegal c (h ++ e ∷ []) → e.reply ≡ Built m
    → KeepsWaiting c h (h ++ e ∷ []) m
