-- Situations of one state refuse alike.
use Rattle.std.proofs.Common.{◌≡◌, refl, ap, ℕ, Bool, false, not}
use Rattle.std.proofs.Common.{Option, None, Some}
use Rattle.std.specs.Prelude.{is_some}
use Rattle.std.specs.Option.{option_map_or}
use Rattle.minislots.specs.declared.config.Config.{Config}
use Rattle.sched_calls.specs.declared.spec.FlowSpec.{FlowSpec}
use Rattle.sched_calls.specs.FlowSpec.{is_kind_of, grants_of, takes_requests}
use Rattle.flow_book.specs.Flows.{LiveFlow, flow_of}
use Rattle.flow_book.specs.Book.{without}
use Rattle.sched_calls.specs.declared.call.Call.{Call}
use Rattle.sched_calls.specs.declared.call.Call.TheVariants as calls
use Rattle.sched_history.specs.Situation.{Situation}
use Rattle.sched_history.specs.Refusal.{is_live, has_live, interval_grants, refusal_in, is_unsolicited}
use Rattle.sched_history.specs.Refusal.{is_short_of_poll}
use Rattle.restart_laws.proofs.Alike.{AlikeFlow, IsAlike}
use Rattle.restart_laws.proofs.flows.Fields.{spec-alike}
use Rattle.restart_laws.proofs.maps.Lists.{AlikeOption, length-alike, sum-alike, without-alike, flow_of-alike}

some-alike : (c : Config) (o p : Option LiveFlow) → AlikeOption c o p → is_some o ≡ is_some p
some-alike c None None same = refl
some-alike c None (Some g) same = absurd same
some-alike c (Some f) None same = absurd same
some-alike c (Some f) (Some g) same = refl

test-alike : (c : Config) (test : FlowSpec → Bool) (o p : Option LiveFlow) → AlikeOption c o p
    → option_map_or (λ f. test f.spec) o false ≡ option_map_or (λ f. test f.spec) p false
test-alike c test None None same = refl
test-alike c test None (Some g) same = absurd same
test-alike c test (Some f) None same = absurd same
test-alike c test (Some f) (Some g) same = ap test (spec-alike c f g same)

module _ (c : Config) (x y : Situation) (alike : IsAlike c x y) where
  -- the same SIDs are live
  pub live-alike : (sid : ℕ) → is_live sid x.flows ≡ is_live sid y.flows
  live-alike sid =
      some-alike c (flow_of sid x.flows) (flow_of sid y.flows) (flow_of-alike c sid x.flows y.flows alike.flows)

  -- with the same parameters
  pub has-alike : (test : FlowSpec → Bool) (sid : ℕ) → has_live test sid x.flows ≡ has_live test sid y.flows
  has-alike test sid =
      test-alike c test (flow_of sid x.flows) (flow_of sid y.flows) (flow_of-alike c sid x.flows y.flows alike.flows)

  own-grants : (f g : LiveFlow) → AlikeFlow c f g → grants_of f.spec ≡ grants_of g.spec
  own-grants f g same = ap grants_of (spec-alike c f g same)

  grants-alike : interval_grants x.flows ≡ interval_grants y.flows
  grants-alike = sum-alike c (λ f. grants_of f.spec) own-grants x.flows y.flows alike.flows

  others-alike : (sid : ℕ) → interval_grants (without sid x.flows) ≡ interval_grants (without sid y.flows)
  others-alike sid =
      sum-alike c (λ f. grants_of f.spec) own-grants (without sid x.flows) (without sid y.flows)
      (without-alike c sid x.flows y.flows alike.flows)

  -- a call is refused alike
  pub refusal-alike : (call : Call) → refusal_in c x call ≡ refusal_in c y call
  refusal-alike (calls.Admit sid spec) =
      rw (live-alike sid, length-alike c x.flows y.flows alike.flows, grants-alike) refl
  refusal-alike (calls.Remove sid) = rw (live-alike sid) refl
  refusal-alike (calls.Ask receiver sid amount heard) =
      rw (live-alike sid, has-alike (λ spec. not (takes_requests spec)) sid, alike.progress, alike.next) refl
  refusal-alike (calls.Replace receiver sid amount heard) =
      rw (live-alike sid, has-alike (λ spec. not (takes_requests spec)) sid, alike.progress, alike.next) refl
  refusal-alike (calls.Change sid spec) =
      rw (live-alike sid, has-alike (is_kind_of spec) sid, others-alike sid) refl
  refusal-alike (calls.Rest sid) =
      rw (live-alike sid, has-alike is_unsolicited sid, has-alike (is_short_of_poll c) sid) refl
  refusal-alike (calls.Wake sid) = rw (live-alike sid, has-alike is_unsolicited sid) refl
  refusal-alike (calls.Heard receiver upto) = rw (alike.progress, alike.next) refl
  refusal-alike (calls.Build now) = rw (alike.next) refl
  refusal-alike (calls.Skip now) = rw (alike.next) refl
  refusal-alike (calls.Reserve usage slots) = rw (alike.reserves) refl
  refusal-alike (calls.Header header) = refl
  refusal-alike (calls.Status sid) = rw (live-alike sid) refl
