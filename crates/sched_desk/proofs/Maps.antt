-- In a legal history each MAP that was built is the lawful one.
use Rattle.std.proofs.Common.{◌≡◌, ℕ, Bool, true, false, true≢false, cond, List, [], ◌∷◌, ◌++◌, Option, Some, None, sym}
use Rattle.std.proofs.Common.{ap, ◌∙◌, subst, ⊎_elim, refl}
use Rattle.std.specs.Option.{MatchOption}
use Rattle.std.proofs.lemmas.Option.{same_Some}
use Rattle.minislots.specs.declared.config.Config.{Config}
use Rattle.sched_calls.specs.declared.spec.FlowSpec.{FlowSpec}
use Rattle.sched_calls.specs.declared.spec.FlowSpec.TheVariants.{Unsolicited, Polled, BestEffort}
use Rattle.sched_calls.specs.FlowSpec.{takes_requests}
use Rattle.flow_book.specs.Flows.{LiveFlow, flow_of, granted, outstanding}
use Rattle.sched_calls.specs.declared.frame_map.FrameMap.{FrameMap}
use Rattle.map_build.specs.EachAfter.{EachAfter}
use Rattle.sched_calls.specs.declared.call.Call.{Call}
use Rattle.sched_calls.specs.declared.call.Call.TheVariants as calls
use Rattle.sched_calls.specs.declared.reply.Refusal.{Refusal}
use Rattle.sched_calls.specs.declared.reply.Reply.{Reply}
use Rattle.sched_calls.specs.declared.reply.Reply.TheVariants as replies
use Rattle.sched_calls.specs.declared.reply.Entry.{Entry}
use Rattle.sched_history.specs.Life.{Admission, flows_of}
use Rattle.sched_history.specs.Time.{is_built}
use Rattle.sched_history.specs.Situation.{situation_of, given_of}
use Rattle.sched_history.specs.Refusal.{refusal_of}
use Rattle.sched_history.specs.History.{PlacesOrRefuses, AnswersAdmit, PlacesAnew, AnswersChange, flow_status, map_by}
use Rattle.sched_history.specs.History.{IsNextMap, Answers, IsStep, IsLegal}
use Rattle.sched_desk.specs.Closed.{HasLawfulMaps}

module _ (c : Config) (h : List Entry) (m : FrameMap) where
  -- a MAP is no other reply
  not_built : (reply : Reply) → is_built reply ≡ false → replies.Built m ≡ reply → IsNextMap c h m
  not_built reply other is = absurd (true≢false (ap is_built is ∙ other))

  -- a status is no MAP
  status-not_built : (f : LiveFlow) → is_built (flow_status f) ≡ false
  status-not_built f = by (takes_requests f.spec)
    where
      by : (asks : Bool) → is_built (cond asks (replies.Flow f.asked (granted f) (outstanding f)) (replies.Flow 0 0 0))
          ≡ false
      by true = refl
      by false = refl

  -- nor is the answer to an admission
  placed : (spec : FlowSpec) → PlacesOrRefuses c (situation_of c h) spec (replies.Built m) → IsNextMap c h m
  placed spec answers = ⊎_elim
      (λ one. not_built (replies.Admitted (Some one.0)) refl one.2)
      (λ none_there. not_built (replies.Refused _) refl none_there.1)
      answers

  admitted : (spec : FlowSpec) → AnswersAdmit c (situation_of c h) spec (replies.Built m) → IsNextMap c h m
  admitted (Unsolicited size interval jitter grants) answers = placed (Unsolicited size interval jitter grants) answers
  admitted (Polled interval jitter rate burst peak) answers = placed (Polled interval jitter rate burst peak) answers
  admitted (BestEffort priority rate burst peak reserved reserved-burst) answers =
      not_built (replies.Admitted None) refl answers

  -- or to a change
  placed_anew : (sid : ℕ) (spec : FlowSpec) → PlacesAnew c (situation_of c h) sid spec (replies.Built m)
      → IsNextMap c h m
  placed_anew sid spec answers = ⊎_elim
      (λ one. not_built (replies.Changed (Some one.0)) refl one.2)
      (λ none_there. not_built (replies.Refused _) refl none_there.1)
      answers

  given : (sid : ℕ) (a : Admission) (spec : FlowSpec)
      → AnswersChange c (situation_of c h) sid a spec (replies.Built m) → IsNextMap c h m
  given sid a spec answers = ⊎_elim
      (λ kept. not_built (replies.Changed (Some kept.1.0)) refl kept.1.2)
      (λ moved. ⊎_elim
      (λ anew. placed_anew sid spec anew.2)
      (λ unplaced. not_built (replies.Changed None) refl unplaced.1)
      moved)
      answers

  changed : (o : Option Admission) (sid : ℕ) (spec : FlowSpec)
      → MatchOption o ⊥ (λ a. AnswersChange c (situation_of c h) sid a spec (replies.Built m)) → IsNextMap c h m
  changed None sid spec answers = absurd answers
  changed (Some a) sid spec answers = given sid a spec answers

  status : (o : Option LiveFlow) → MatchOption o ⊥ (λ f. replies.Built m ≡ flow_status f) → IsNextMap c h m
  status None answers = absurd answers
  status (Some f) answers = not_built (flow_status f) (status-not_built f) answers

  -- a MAP that is answered is the lawful one
  answered : (call : Call) → Answers c h call (replies.Built m) → IsNextMap c h m
  answered (calls.Admit sid spec) answers = admitted spec answers
  answered (calls.Remove sid) answers = not_built replies.Removed refl answers
  answered (calls.Ask receiver sid amount heard) answers = not_built replies.Taken refl answers
  answered (calls.Heard receiver upto) answers = not_built replies.Noted refl answers
  answered (calls.Build now) answers =
      subst (IsNextMap c h) (same_Some answers.0 m (ap map_by (sym answers.2))) answers.1
  answered (calls.Skip now) answers = not_built (replies.Skipped answers.0) refl answers.2
  answered (calls.Status sid) answers = status (flow_of sid (flows_of c h)) answers
  answered (calls.Reserve usage slots) answers = not_built replies.Reserved refl answers
  answered (calls.Header header) answers = not_built replies.Noted refl answers
  answered (calls.Replace receiver sid amount heard) answers = not_built replies.Taken refl answers
  answered (calls.Change sid spec) answers = changed (given_of sid (situation_of c h)) sid spec answers
  answered (calls.Rest sid) answers = not_built replies.Noted refl answers
  answered (calls.Wake sid) answers = not_built replies.Noted refl answers

  unrefused : (o : Option Refusal) (call : Call)
      → MatchOption o (Answers c h call (replies.Built m)) (λ r. replies.Built m ≡ replies.Refused r) → IsNextMap c h m
  unrefused None call step = answered call step
  unrefused (Some r) call step = not_built (replies.Refused r) refl step

  -- a MAP that may follow is the lawful one
  pub IsNextMap-from_step : (call : Call) (reply : Reply) → IsStep c h call reply → reply ≡ replies.Built m
      → IsNextMap c h m
  IsNextMap-from_step call reply step is = unrefused (refusal_of c h call) call (subst (IsStep c h call) is step)

-- so is each MAP of a legal history
pub HasLawfulMaps-legal : (c : Config) (h : List Entry) → IsLegal c h → HasLawfulMaps c h
HasLawfulMaps-legal c h legal = along [] h legal
  where
    along : (before after : List Entry) → EachAfter (λ p e. IsStep c p e.call e.reply) before after
        → EachAfter (λ p e. (m : FrameMap) → e.reply ≡ replies.Built m → IsNextMap c p m) before after
    along before [] each = tt
    along before (e ∷ es) each =
        (λ m is. IsNextMap-from_step c before m e.call e.reply each.0 is, along (before ++ e ∷ []) es each.1)
