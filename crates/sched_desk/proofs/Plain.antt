-- Which calls build no MAP.
use Rattle.std.proofs.Common.{◌≡◌, ◌≢◌, ℕ, Bool, true, false, cond, List, Option, Some, None, MatchOption, refl, ap}
use Rattle.std.proofs.Common.{◌∙◌}
use Rattle.std.proofs.Common.{subst, ⊎_elim}
use Rattle.minislots.specs.declared.config.Config.{Config}
use Rattle.sched_calls.specs.declared.spec.FlowSpec.{FlowSpec}
use Rattle.sched_calls.specs.declared.spec.FlowSpec.TheVariants.{Unsolicited, Polled, BestEffort}
use Rattle.sched_calls.specs.FlowSpec.{takes_requests}
use Rattle.flow_book.specs.Flows.{LiveFlow, flow_of, granted, outstanding}
use Rattle.sched_calls.specs.declared.call.Call.{Call}
use Rattle.sched_calls.specs.declared.call.Call.TheVariants as calls
use Rattle.sched_calls.specs.declared.reply.Entry.{Entry}
use Rattle.sched_calls.specs.declared.reply.Refusal.{Refusal}
use Rattle.sched_calls.specs.declared.reply.Reply.{Reply}
use Rattle.sched_calls.specs.declared.reply.Reply.TheVariants as replies
use Rattle.sched_history.specs.History.{PlacesOrRefuses, AnswersAdmit, PlacesAnew, AnswersChange, flow_status, map_by}
use Rattle.sched_history.specs.History.{Answers}
use Rattle.sched_history.specs.Life.{Admission, flows_of}
use Rattle.sched_history.specs.Situation.{situation_of, given_of}
use Rattle.sched_history.specs.Refusal.{refusal_of}
use Rattle.sched_desk.specs.Build.{BuildsNoMap}

module _ (c : Config) (h : List Entry) where
  placed : (spec : FlowSpec) (reply : Reply) → PlacesOrRefuses c (situation_of c h) spec reply → map_by reply ≡ None
  placed spec reply answers = ⊎_elim (λ one. ap map_by one.2) (λ none_there. ap map_by none_there.1) answers

  admitted : (spec : FlowSpec) (reply : Reply) → AnswersAdmit c (situation_of c h) spec reply → map_by reply ≡ None
  admitted (Unsolicited size interval jitter grants) reply answers =
      placed (Unsolicited size interval jitter grants) reply answers
  admitted (Polled interval jitter rate burst peak) reply answers =
      placed (Polled interval jitter rate burst peak) reply answers
  admitted (BestEffort priority rate burst peak reserved reserved-burst) reply answers = ap map_by answers

  placed_anew : (sid : ℕ) (spec : FlowSpec) (reply : Reply) → PlacesAnew c (situation_of c h) sid spec reply
      → map_by reply ≡ None
  placed_anew sid spec reply answers =
      ⊎_elim (λ one. ap map_by one.2) (λ none_there. ap map_by none_there.1) answers

  given : (sid : ℕ) (a : Admission) (spec : FlowSpec) (reply : Reply)
      → AnswersChange c (situation_of c h) sid a spec reply
      → map_by reply ≡ None
  given sid a spec reply answers = ⊎_elim
      (λ kept. ap map_by kept.1.2)
      (λ moved. ⊎_elim (λ anew. placed_anew sid spec reply anew.2) (λ unplaced. ap map_by unplaced.1) moved)
      answers

  changed : (o : Option Admission) (sid : ℕ) (spec : FlowSpec) (reply : Reply)
      → MatchOption o ⊥ (λ a. AnswersChange c (situation_of c h) sid a spec reply) → map_by reply ≡ None
  changed None sid spec reply answers = absurd answers
  changed (Some a) sid spec reply answers = given sid a spec reply answers

  status : (f : LiveFlow) → map_by (flow_status f) ≡ None
  status f = by (takes_requests f.spec)
    where
      by : (asks : Bool)
          → map_by (cond asks (replies.Flow f.asked (granted f) (outstanding f)) (replies.Flow 0 0 0)) ≡ None
      by true = refl
      by false = refl

  shown : (o : Option LiveFlow) (reply : Reply) → MatchOption o ⊥ (λ f. reply ≡ flow_status f) → map_by reply ≡ None
  shown None reply answers = absurd answers
  shown (Some f) reply answers = ap map_by answers ∙ status f

  answered : (call : Call) → ((now : ℕ) → call ≢ calls.Build now) → (reply : Reply) → Answers c h call reply
      → map_by reply ≡ None
  answered (calls.Admit sid spec) other reply answers = admitted spec reply answers
  answered (calls.Remove sid) other reply answers = ap map_by answers
  answered (calls.Ask receiver sid amount heard) other reply answers = ap map_by answers
  answered (calls.Heard receiver upto) other reply answers = ap map_by answers
  answered (calls.Build now) other reply answers = absurd (other now refl)
  answered (calls.Skip now) other reply answers = ap map_by answers.2
  answered (calls.Status sid) other reply answers = shown (flow_of sid (flows_of c h)) reply answers
  answered (calls.Reserve usage slots) other reply answers = ap map_by answers
  answered (calls.Header header) other reply answers = ap map_by answers
  answered (calls.Replace receiver sid amount heard) other reply answers = ap map_by answers
  answered (calls.Change sid spec) other reply answers = changed (given_of sid
      (situation_of c h)) sid spec reply answers
  answered (calls.Rest sid) other reply answers = ap map_by answers
  answered (calls.Wake sid) other reply answers = ap map_by answers

  by_refusal : (o : Option Refusal) (call : Call) → ((now : ℕ) → call ≢ calls.Build now) → (reply : Reply)
      → MatchOption o (Answers c h call reply) (λ refusal. reply ≡ replies.Refused refusal) → map_by reply ≡ None
  by_refusal None call other reply step = answered call other reply step
  by_refusal (Some refusal) call other reply step = ap map_by step

  -- a call that is not a build
  pub BuildsNoMap-other : (call : Call) → ((now : ℕ) → call ≢ calls.Build now) → BuildsNoMap c h call
  BuildsNoMap-other call other reply step = by_refusal (refusal_of c h call) call other reply step

  -- a call that is refused
  pub BuildsNoMap-refused : (call : Call) (refusal : Refusal) → refusal_of c h call ≡ Some refusal
      → BuildsNoMap c h call
  BuildsNoMap-refused call refusal refused reply step =
      ap map_by
      (subst (λ o. MatchOption o (Answers c h call reply) (λ r. reply ≡ replies.Refused r)) refused step)
