-- Which reply may follow a history, and which histories are legal.
use Rattle.std.specs.Prelude.{◌≡◌, ℕ, ◌+◌, ◌⊎◌, true, false, List, [], ◌∷◌, None}
use Rattle.std.specs.Prelude.{Some, MatchOption, IsSomeAnd, if◌then◌else◌}
use Rattle.minislots.specs.declared.config.Config.{Config}
use Rattle.sched_calls.specs.declared.spec.FlowSpec.{FlowSpec}
use Rattle.sched_calls.specs.declared.spec.FlowSpec.TheVariants.{Unsolicited, Polled, BestEffort}
use Rattle.sched_calls.specs.FlowSpec.{is_periodic, has_place_of, takes_requests}
use Rattle.flow_book.specs.Flows.{LiveFlow, flow_of, granted, outstanding}
use Rattle.sched_calls.specs.declared.placement.Placement.{Placement}
use Rattle.periodic.specs.Placement.{IsPlacement, NoPlacement, IsToldFrom}
use Rattle.periodic.specs.Table.{without}
use Rattle.sched_calls.specs.declared.frame_map.FrameMap.{FrameMap}
use Rattle.map_build.specs.EachAfter.{EachAfter}
use Rattle.map_build.specs.Plan.{Demand, demand_at}
use Rattle.map_build.specs.FrameMap.{IsLawfulMap}
use Rattle.sched_calls.specs.declared.call.Call.{Call}
use Rattle.sched_calls.specs.declared.call.Call.TheVariants.{Admit, Remove, Ask, Heard, Build, Skip, Status}
use Rattle.sched_calls.specs.declared.call.Call.TheVariants.{Reserve, Header, Replace, Change, Rest, Wake}
use Rattle.sched_calls.specs.declared.reply.Refusal.TheVariants.{NoPlace}
use Rattle.sched_calls.specs.declared.reply.Reply.{Reply}
use Rattle.sched_calls.specs.declared.reply.Reply.TheVariants as replies
use Rattle.sched_calls.specs.declared.reply.Entry.{Entry}
use Rattle.sched_history.specs.Life.{Admission}
use Rattle.sched_history.specs.Time.{least, IsFirstStart}
use Rattle.sched_history.specs.Reserves.{waiting_in}
use Rattle.sched_history.specs.Situation.{Situation, situation_of, given_of, settles_in, spots_next, after}
use Rattle.sched_history.specs.Refusal.{refusal_in}
pub use Rattle.sched_history.specs.Settling.{map_by}

-- a flow is admitted with a lawful placement, or refused where there is none
abbrev pub PlacesOrRefuses : Config → Situation → FlowSpec → Reply → Type 0
PlacesOrRefuses c s spec reply =
    ((p : Placement) × IsPlacement c s.placed spec s.next p × (reply ≡ replies.Admitted (Some p)))
    ⊎ (NoPlacement c s.placed spec s.next × (reply ≡ replies.Refused NoPlace))

-- an admission's answer: a best effort flow has no place
abbrev pub AnswersAdmit : Config → Situation → FlowSpec → Reply → Type 0
AnswersAdmit c s (Unsolicited size interval jitter grants) reply =
    PlacesOrRefuses c s (Unsolicited size interval jitter grants) reply
AnswersAdmit c s (Polled interval jitter rate burst peak) reply =
    PlacesOrRefuses c s (Polled interval jitter rate burst peak) reply
AnswersAdmit c s (BestEffort priority rate burst peak reserved reserved-burst) reply = reply ≡ replies.Admitted None

-- a flow is placed anew beside the others, its own placement taken out before, or refused where there is no place
abbrev pub PlacesAnew : Config → Situation → ℕ → FlowSpec → Reply → Type 0
PlacesAnew c s sid spec reply = ((p : Placement)
    × IsPlacement c (without sid s.placed) spec s.next p × (reply ≡ replies.Changed (Some p)))
    ⊎ (NoPlacement c (without sid s.placed) spec s.next × (reply ≡ replies.Refused NoPlace))

-- a flow keeps the placement that it was given, with these parameters
abbrev pub KeepsPlace : Config → Situation → Admission → FlowSpec → Reply → Type 0
KeepsPlace c s given spec reply = (p : Placement)
    × IsSomeAnd given.placement (λ stands. IsToldFrom c spec s.next stands p) × (reply ≡ replies.Changed (Some p))

-- a change's answer, of a flow that was given this: a periodic flow that leaves what places it keeps its placement, any
-- other is placed anew, and a best effort flow has no place
abbrev pub AnswersChange : Config → Situation → ℕ → Admission → FlowSpec → Reply → Type 0
AnswersChange c s sid given spec reply =
    ((has_place_of given.spec spec ≡ true) × KeepsPlace c s given spec reply)
    ⊎ (((has_place_of given.spec spec ≡ false) × (is_periodic spec ≡ true) × PlacesAnew c s sid spec reply)
    ⊎ ((is_periodic spec ≡ false) × (reply ≡ replies.Changed None)))

-- the bytes that a status answers for a live flow: zeros where it does not ask
abbrev pub flow_status : LiveFlow → Reply
flow_status f = if takes_requests f.spec then replies.Flow f.asked (granted f) (outstanding f) else replies.Flow 0 0 0

-- what the next frame has to serve, and whether its MAP settles
abbrev pub demand_in : Config → Situation → Demand
demand_in c s = record (demand_at s.flows (spots_next c s) (waiting_in s.reserves) s.next) { settles = settles_in c s }

-- the same after a history
abbrev pub demand_after : Config → List Entry → Demand
demand_after c h = demand_in c (situation_of c h)

-- the MAP is the lawful one of the next frame
abbrev pub IsNextMapIn : Config → Situation → FrameMap → Type 0
IsNextMapIn c s m = IsLawfulMap c (demand_in c s) s.header (least s.progress) m

-- so it is after a history
abbrev pub IsNextMap : Config → List Entry → FrameMap → Type 0
IsNextMap c h m = IsNextMapIn c (situation_of c h) m

-- the reply to a call that no test refuses
abbrev pub AnswersIn : Config → Situation → Call → Reply → Type 0
AnswersIn c s (Admit sid spec) reply = AnswersAdmit c s spec reply
AnswersIn c s (Remove sid) reply = reply ≡ replies.Removed
AnswersIn c s (Ask receiver sid amount heard) reply = reply ≡ replies.Taken
AnswersIn c s (Replace receiver sid amount heard) reply = reply ≡ replies.Taken
AnswersIn c s (Change sid spec) reply = MatchOption (given_of sid s) ⊥ (λ given. AnswersChange c s sid given spec reply)
AnswersIn c s (Rest sid) reply = reply ≡ replies.Noted
AnswersIn c s (Wake sid) reply = reply ≡ replies.Noted
AnswersIn c s (Heard receiver upto) reply = reply ≡ replies.Noted
AnswersIn c s (Build now) reply = (m : FrameMap) × IsNextMapIn c s m × (reply ≡ replies.Built m)
AnswersIn c s (Skip now) reply = (start : ℕ) × IsFirstStart c (now + c.lead) start × (reply ≡ replies.Skipped start)
AnswersIn c s (Status sid) reply = MatchOption (flow_of sid s.flows) ⊥ (λ f. reply ≡ flow_status f)
AnswersIn c s (Reserve usage slots) reply = reply ≡ replies.Reserved
AnswersIn c s (Header header) reply = reply ≡ replies.Noted

-- so it is after a history
abbrev pub Answers : Config → List Entry → Call → Reply → Type 0
Answers c h call reply = AnswersIn c (situation_of c h) call reply

-- the reply to a call may follow: the first refusal, or where there is none the answer
abbrev pub IsStepIn : Config → Situation → Call → Reply → Type 0
IsStepIn c s call reply =
    MatchOption (refusal_in c s call) (AnswersIn c s call reply) (λ refusal. reply ≡ replies.Refused refusal)

-- it may follow the history
abbrev pub IsStep : Config → List Entry → Call → Reply → Type 0
IsStep c h call reply = IsStepIn c (situation_of c h) call reply

-- each entry's reply may follow the entries before it
abbrev pub IsLegal : Config → List Entry → Type 0
IsLegal c h = EachAfter (λ before e. IsStep c before e.call e.reply) [] h

-- each entry's reply may follow what was left first, and the entries before it
abbrev pub IsLegalFrom : Config → Situation → List Entry → Type 0
IsLegalFrom c s [] = Unit {0}
IsLegalFrom c s (e ∷ es) = IsStepIn c s e.call e.reply × IsLegalFrom c (after c s e.call e.reply) es
