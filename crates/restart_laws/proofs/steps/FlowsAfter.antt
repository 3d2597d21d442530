-- A step leaves flows that are alike alike, and steady at the start of the next frame.
use Rattle.std.proofs.Common.{◌≡◌, refl, sym, ap, subst, ℕ, ◌==◌, Bool, true, false, not, cond, arith}
use Rattle.std.proofs.Common.{List, Option, None, Some, inl, inr, if◌then◌else◌}
use Rattle.std.specs.Option.{MatchOption}
use Rattle.minislots.specs.declared.config.Config.{Config}
use Rattle.sched_calls.specs.Amount.{requested}
use Rattle.sched_calls.specs.declared.spec.FlowSpec.{FlowSpec}
use Rattle.sched_calls.specs.declared.spec.FlowSpec.TheVariants.{Unsolicited, Polled, BestEffort}
use Rattle.sched_calls.specs.FlowSpec.{takes_requests}
use Rattle.sched_calls.specs.declared.placement.Placement.{Placement}
use Rattle.sched_calls.proofs.Insertion.{all-put_in, ascends-put_in}
use Rattle.sched_calls.proofs.Removal.{all-filter, ascends-filter}
use Rattle.flow_book.specs.Flows.{LiveFlow, flow_of, granted, outstanding}
use Rattle.flow_book.specs.Book.{new_flow, with_flow, without, changed, with_asked, with_replaced, with_spec}
use Rattle.flow_book.proofs.Started.{all-changed}
use Rattle.sched_calls.specs.declared.call.Call.{Call}
use Rattle.sched_calls.specs.declared.call.Call.TheVariants as calls
use Rattle.sched_calls.specs.declared.reply.Refusal.{Refusal}
use Rattle.sched_calls.specs.declared.reply.Refusal.TheVariants.{NoPlace}
use Rattle.sched_calls.specs.declared.reply.Reply.{Reply}
use Rattle.sched_calls.specs.declared.reply.Reply.TheVariants as replies
use Rattle.sched_history.specs.Life.{Admission}
use Rattle.sched_history.specs.Situation.{Situation, given_of, flows_by, next_by}
use Rattle.sched_history.specs.Refusal.{is_live, refusal_in}
use Rattle.sched_history.specs.History.{PlacesOrRefuses, AnswersAdmit, PlacesAnew, AnswersChange, flow_status}
use Rattle.sched_history.specs.History.{AnswersIn}
use Rattle.sched_history.specs.History.{IsStepIn}
use Rattle.sched_history.proofs.state.Present.{dead-from_test}
use Rattle.sched_history.proofs.steps.Passed.{passed-admit, passed-skip}
use Rattle.restart_laws.proofs.Alike.{IsSteadyFlow, AlikeFlow, IsAlike}
use Rattle.restart_laws.proofs.flows.Fields.{sid-alike}
use Rattle.restart_laws.proofs.flows.Changes.{asked-steady, asked-alike, replaced-steady, replaced-alike}
use Rattle.restart_laws.proofs.flows.Changes.{spec-steady, spec-alike, new-steady}
use Rattle.restart_laws.proofs.maps.Lists.{map-alike, without-alike, with_flow-alike, ascend-changed}
use Rattle.restart_laws.proofs.maps.Choice.{AreAlikeAt, alike-later}
use Rattle.restart_laws.proofs.steps.Demands.{granted-alike}

module _ (c : Config) (slot : ℕ) (fs gs : List LiveFlow) (are : AreAlikeAt c slot fs gs) where
  -- with a flow more
  alike-with : (sid : ℕ) (spec : FlowSpec) → flow_of sid fs ≡ None
      → AreAlikeAt c slot (with_flow (new_flow sid spec) fs) (with_flow (new_flow sid spec) gs)
  alike-with sid spec fresh =
      let new : IsSteadyFlow c slot (new_flow sid spec) = new-steady c slot sid spec in
      record {
        same = with_flow-alike c (new_flow sid spec) (new_flow sid spec) refl fs gs are.same;
        up = ascends-put_in (λ f. f.sid) (new_flow sid spec) fs fresh are.up;
        own = all-put_in (λ f. f.sid) (IsSteadyFlow c slot) (new_flow sid spec) fs new are.own;
        others = all-put_in (λ f. f.sid) (IsSteadyFlow c slot) (new_flow sid spec) gs new are.others;
      }

  -- without one
  alike-without : (sid : ℕ) → AreAlikeAt c slot (without sid fs) (without sid gs)
  alike-without sid = record {
    same = without-alike c sid fs gs are.same;
    up = ascends-filter (λ f. f.sid) (λ f. not (f.sid == sid)) fs are.up;
    own = all-filter (IsSteadyFlow c slot) (λ f. not (f.sid == sid)) fs are.own;
    others = all-filter (IsSteadyFlow c slot) (λ f. not (f.sid == sid)) gs are.others;
  }

  -- with one changed
  alike-changed : (sid : ℕ) (k : LiveFlow → LiveFlow) → ((f : LiveFlow) → (k f).sid ≡ f.sid)
      → ((f : LiveFlow) → IsSteadyFlow c slot f → IsSteadyFlow c slot (k f))
      → ((f g : LiveFlow) → AlikeFlow c f g → AlikeFlow c (k f) (k g))
      → AreAlikeAt c slot (changed sid k fs) (changed sid k gs)
  alike-changed sid k keeps steady each = record {
    same = map-alike c (IsSteadyFlow c slot) (IsSteadyFlow c slot) turn turn
        (λ f g same sf sg. by-sid f g same (f.sid == sid) (g.sid == sid) (ap (λ n. n == sid) (sid-alike c f g same)))
        fs gs are.same are.own are.others;
    up = ascend-changed sid k keeps fs are.up;
    own = all-changed (IsSteadyFlow c slot) sid k fs steady are.own;
    others = all-changed (IsSteadyFlow c slot) sid k gs steady are.others;
  }
    where
      turn : LiveFlow → LiveFlow
      turn f = cond (f.sid == sid) (k f) f

      by-sid : (f g : LiveFlow) → AlikeFlow c f g → (a b : Bool) → a ≡ b → AlikeFlow c (cond a (k f) f) (cond b (k g) g)
      by-sid f g same true true is = each f g same
      by-sid f g same true false is = absurd (cc)
      by-sid f g same false true is = absurd (cc)
      by-sid f g same false false is = same

-- flows that a refused call leaves
refused-flows : (c : Config) (call : Call) (refusal : Refusal) (flows : List LiveFlow)
    → flows_by c call (replies.Refused refusal) flows ≡ flows
refused-flows c (calls.Admit sid spec) refusal flows = refl
refused-flows c call refusal flows = refl

module _ (c : Config) (x y : Situation) where
  -- after a call with this reply the flows are alike
  abbrev pub LeavesAlike : Call → Reply → Type 0
  LeavesAlike call reply =
      AreAlikeAt c (next_by c reply x.next) (flows_by c call reply x.flows) (flows_by c call reply y.flows)

  by-reply : (call : Call) (reply said : Reply) → reply ≡ said → LeavesAlike call said → LeavesAlike call reply
  by-reply call reply said is leaves = subst (LeavesAlike call) (sym is) leaves

  module _ (alike : IsAlike c x y) (are : AreAlikeAt c x.next x.flows y.flows) where
    refused : (call : Call) (refusal : Refusal) → LeavesAlike call (replies.Refused refusal)
    refused call refusal = rw (refused-flows c call refusal x.flows, refused-flows c call refusal y.flows) are

    module _ (sid : ℕ) (spec : FlowSpec) (fresh : is_live sid x.flows ≡ false) where
      admitted : (p : Option Placement) → LeavesAlike (calls.Admit sid spec) (replies.Admitted p)
      admitted p =
          alike-with c x.next x.flows y.flows are sid spec (dead-from_test (flow_of sid x.flows) fresh)

      placed : (reply : Reply) → PlacesOrRefuses c x spec reply → LeavesAlike (calls.Admit sid spec) reply
      placed reply (inl (p, lawful, is)) =
          by-reply (calls.Admit sid spec) reply (replies.Admitted (Some p)) is (admitted (Some p))
      placed reply (inr (never, is)) =
          by-reply (calls.Admit sid spec) reply (replies.Refused NoPlace) is (refused (calls.Admit sid spec) NoPlace)

    admits : (sid : ℕ) (spec : FlowSpec) (reply : Reply) → is_live sid x.flows ≡ false → AnswersAdmit c x spec reply
        → LeavesAlike (calls.Admit sid spec) reply
    admits sid (Unsolicited size interval jitter grants) reply fresh answers =
        placed sid (Unsolicited size interval jitter grants) fresh reply answers
    admits sid (Polled interval jitter rate burst peak) reply fresh answers =
        placed sid (Polled interval jitter rate burst peak) fresh reply answers
    admits sid (BestEffort priority rate burst peak reserved reserved-burst) reply fresh answers =
        let spec : FlowSpec = BestEffort priority rate burst peak reserved reserved-burst in
        by-reply (calls.Admit sid spec) reply (replies.Admitted None) answers (admitted sid spec fresh None)

    module _ (sid : ℕ) (spec : FlowSpec) where
      gave : (p : Option Placement) → LeavesAlike (calls.Change sid spec) (replies.Changed p)
      gave p =
          alike-changed c x.next x.flows y.flows are sid (with_spec spec) (λ f. refl) (spec-steady c spec x.next)
          (spec-alike c spec)

      anew : (reply : Reply) → PlacesAnew c x sid spec reply → LeavesAlike (calls.Change sid spec) reply
      anew reply (inl (p, lawful, is)) =
          by-reply (calls.Change sid spec) reply (replies.Changed (Some p)) is (gave (Some p))
      anew reply (inr (never, is)) =
          by-reply (calls.Change sid spec) reply (replies.Refused NoPlace) is (refused (calls.Change sid spec) NoPlace)

      gives : (given : Admission) (reply : Reply) → AnswersChange c x sid given spec reply
          → LeavesAlike (calls.Change sid spec) reply
      gives given reply (inl (same, (p, told, is))) =
          by-reply (calls.Change sid spec) reply (replies.Changed (Some p)) is (gave (Some p))
      gives given reply (inr (inl (other, periodic, answers))) = anew reply answers
      gives given reply (inr (inr (aperiodic, is))) =
          by-reply (calls.Change sid spec) reply (replies.Changed None) is (gave None)

      changes : (o : Option Admission) (reply : Reply)
          → MatchOption o ⊥ (λ given. AnswersChange c x sid given spec reply)
          → LeavesAlike (calls.Change sid spec) reply
      changes None reply answers = absurd answers
      changes (Some given) reply answers = gives given reply answers

    tells : (sid : ℕ) (b : Bool) (asked granted left : ℕ)
        → LeavesAlike (calls.Status sid) (if b then replies.Flow asked granted left else replies.Flow 0 0 0)
    tells sid true asked granted left = are
    tells sid false asked granted left = are

    told : (sid : ℕ) (o : Option LiveFlow) (reply : Reply) → MatchOption o ⊥ (λ f. reply ≡ flow_status f)
        → LeavesAlike (calls.Status sid) reply
    told sid None reply answers = absurd answers
    told sid (Some f) reply answers =
        by-reply (calls.Status sid) reply (flow_status f) answers
        (tells sid (takes_requests f.spec) f.asked (granted f) (outstanding f))

    answered : (call : Call) (reply : Reply) → refusal_in c x call ≡ None → AnswersIn c x call reply
        → LeavesAlike call reply
    answered (calls.Admit sid spec) reply none answers =
        admits sid spec reply (passed-admit c x sid spec none).fresh answers
    answered (calls.Remove sid) reply none answers =
        by-reply (calls.Remove sid) reply replies.Removed answers (alike-without c x.next x.flows y.flows are sid)
    answered (calls.Ask receiver sid amount heard) reply none answers =
        by-reply (calls.Ask receiver sid amount heard) reply replies.Taken answers
        (alike-changed c x.next x.flows y.flows are sid (with_asked (requested c amount) heard) (λ f. refl)
        (asked-steady c x.next (requested c amount) heard) (asked-alike c (requested c amount) heard))
    answered (calls.Replace receiver sid amount heard) reply none answers =
        by-reply (calls.Replace receiver sid amount heard) reply replies.Taken answers
        (alike-changed c x.next x.flows y.flows are sid (with_replaced (requested c amount) heard) (λ f. refl)
        (replaced-steady c x.next (requested c amount) heard) (replaced-alike c (requested c amount) heard))
    answered (calls.Change sid spec) reply none answers = changes sid spec (given_of sid x) reply answers
    answered (calls.Rest sid) reply none answers = by-reply (calls.Rest sid) reply replies.Noted answers are
    answered (calls.Wake sid) reply none answers = by-reply (calls.Wake sid) reply replies.Noted answers are
    answered (calls.Heard receiver upto) reply none answers =
        by-reply (calls.Heard receiver upto) reply replies.Noted answers are
    answered (calls.Build now) reply none answers =
        by-reply (calls.Build now) reply (replies.Built answers.0) answers.2
        (granted-alike c x y alike answers.0 are answers.1)
    answered (calls.Skip now) reply none answers =
        by-reply (calls.Skip now) reply (replies.Skipped answers.0) answers.2
        (alike-later c x.flows y.flows x.next answers.0
        (omega (arith, (passed-skip c x now none).late, answers.1.reached)) are)
    answered (calls.Status sid) reply none answers = told sid (flow_of sid x.flows) reply answers
    answered (calls.Reserve usage slots) reply none answers =
        by-reply (calls.Reserve usage slots) reply replies.Reserved answers are
    answered (calls.Header header) reply none answers = by-reply (calls.Header header) reply replies.Noted answers are

    by-refusal : (call : Call) (reply : Reply) (refusal : Option Refusal) → refusal_in c x call ≡ refusal
        → MatchOption refusal (AnswersIn c x call reply) (λ r. reply ≡ replies.Refused r) → LeavesAlike call reply
    by-refusal call reply None none step = answered call reply none step
    by-refusal call reply (Some r) first step = by-reply call reply (replies.Refused r) step (refused call r)

    -- a step leaves them alike
    pub leaves-alike : (call : Call) (reply : Reply) → IsStepIn c x call reply → LeavesAlike call reply
    leaves-alike call reply step = by-refusal call reply (refusal_in c x call) refl step
