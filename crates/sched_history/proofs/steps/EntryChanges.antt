-- What one legal entry changes: the live flows, and the start of the next frame.
use Rattle.std.proofs.Common.{◌≡◌, ℕ, ◌+◌, ◌%◌, ◌≤◌, ◌<◌, Bool, true, false, if◌then◌else◌, inl, inr, arith}
use Rattle.std.proofs.Common.{List, [], ◌∷◌, ◌++◌, Option, None, Some, refl, sym, subst}
use Rattle.std.specs.Option.{MatchOption}
use Rattle.minislots.specs.declared.config.Config.{Config}
use Rattle.minislots.specs.declared.stamp.Stamp.{Stamp}
use Rattle.minislots.specs.Config.{IsLawful, HasBounds}
use Rattle.minislots.proofs.Bounds.{bounds_of}
use Rattle.sched_calls.specs.declared.spec.FlowSpec.{FlowSpec}
use Rattle.sched_calls.specs.declared.spec.FlowSpec.TheVariants.{Unsolicited, Polled, BestEffort}
use Rattle.sched_calls.specs.FlowSpec.{takes_requests}
use Rattle.sched_calls.specs.Amount.{requested}
use Rattle.flow_book.specs.Flows.{LiveFlow, flow_of, granted, outstanding}
use Rattle.flow_book.specs.Book.{with_flow, without, changed, new_flow, with_asked, with_replaced, with_spec}
use Rattle.sched_calls.specs.declared.placement.Placement.{Placement}
use Rattle.sched_calls.specs.declared.frame_map.FrameMap.{FrameMap}
use Rattle.map_build.specs.Plan.{flows_after}
use Rattle.sched_calls.specs.declared.call.Call.{Call}
use Rattle.sched_calls.specs.declared.call.Call.TheVariants as calls
use Rattle.sched_calls.specs.declared.reply.Refusal.{Refusal}
use Rattle.sched_calls.specs.declared.reply.Refusal.TheVariants.{NoPlace}
use Rattle.sched_calls.specs.declared.reply.Reply.{Reply}
use Rattle.sched_calls.specs.declared.reply.Reply.TheVariants as replies
use Rattle.sched_calls.specs.declared.reply.Entry.{Entry}
use Rattle.sched_history.specs.Life.{Admission, flows_of}
use Rattle.sched_history.specs.Time.{skip_by, is_built, next_after, IsFirstStart}
use Rattle.sched_history.specs.Situation.{situation_of, given_of}
use Rattle.sched_history.specs.Refusal.{most_bytes, most_ahead, last_clock, refusal_of}
use Rattle.sched_history.specs.History.{PlacesOrRefuses, AnswersAdmit, PlacesAnew, AnswersChange, flow_status}
use Rattle.sched_history.specs.History.{IsNextMap, Answers, IsStep}
use Rattle.sched_history.proofs.lives.Finding.{good_sid}
use Rattle.sched_history.proofs.lives.Left.{life_of-dead}
use Rattle.sched_history.proofs.lives.FlowsAfter.{LeavesFlows, flows_of-quiet}
use Rattle.sched_history.proofs.flows.Refused.{flows_of-refused}
use Rattle.sched_history.proofs.flows.FlowCalls.{flows_of-ask, flows_of-remove}
use Rattle.sched_history.proofs.flows.ReplaceCall.{flows_of-replace}
use Rattle.sched_history.proofs.flows.ChangeCall.{flows_of-change}
use Rattle.sched_history.proofs.flows.Quiet.{quiet-heard, quiet-skip, quiet-status, quiet-reserve, quiet-header}
use Rattle.sched_history.proofs.flows.Quiet.{quiet-rest, quiet-wake}
use Rattle.sched_history.proofs.flows.Admissions.{flows_of-admit}
use Rattle.sched_history.proofs.flows.BuildCall.{flows_of-build_next}
use Rattle.sched_history.proofs.time.TimeAfter.{next_after-built, next_after-same, next_after-skipped}
use Rattle.sched_history.proofs.time.FirstStarts.{first_start-near}
use Rattle.sched_history.proofs.steps.Passed.{AdmitsFlow, ChangesFlow, passed-admit, passed-ask, passed-replace}
use Rattle.sched_history.proofs.steps.Passed.{passed-change, passed-build, passed-skip}

-- what an entry changes, from one history to the next
pub data EntryChange (c : Config) (h new : List Entry) : Type 0 where
  Nothing : flows_of c new ≡ flows_of c h → next_after c new ≡ next_after c h → EntryChange c h new
  Asked : (sid bytes heard : ℕ) → bytes ≤ most_bytes
      → flows_of c new ≡ changed sid (with_asked bytes heard) (flows_of c h) → next_after c new ≡ next_after c h
      → EntryChange c h new
  Replaced : (sid bytes heard : ℕ) → bytes ≤ most_bytes
      → flows_of c new ≡ changed sid (with_replaced bytes heard) (flows_of c h) → next_after c new ≡ next_after c h
      → EntryChange c h new
  Changed : (sid : ℕ) (spec : FlowSpec) → ChangesFlow c (situation_of c h) sid spec
      → flows_of c new ≡ changed sid (with_spec spec) (flows_of c h) → next_after c new ≡ next_after c h
      → EntryChange c h new
  Began : (sid : ℕ) (spec : FlowSpec) → AdmitsFlow c (situation_of c h) sid spec
      → flows_of c new ≡ with_flow (new_flow sid spec) (flows_of c h) → next_after c new ≡ next_after c h
      → EntryChange c h new
  Ended : (sid : ℕ) → flows_of c new ≡ without sid (flows_of c h) → next_after c new ≡ next_after c h
      → EntryChange c h new
  Described : (m : FrameMap) (map : IsNextMap c h m) → flows_of c new
      ≡ flows_after c (next_after c h) map.0 (flows_of c h)
      → next_after c new ≡ next_after c h + c.frame → next_after c h + c.frame ≤ last_clock + most_ahead
      → EntryChange c h new
  Skipped : (start : ℕ) → flows_of c new ≡ flows_of c h → next_after c new ≡ start → next_after c h ≤ start
      → start % c.frame ≡ 0 → start ≤ last_clock + most_ahead → EntryChange c h new

module _ (c : Config) (lawful : IsLawful c) (stamp : Stamp) (h : List Entry) where
  -- the entry of a call with its reply, and the history with it
  abbrev entry : Call → Reply → Entry
  entry call reply = record { stamp = stamp; call = call; reply = reply }

  abbrev after : Call → Reply → List Entry
  after call reply = h ++ entry call reply ∷ []

  -- a reply with neither a MAP nor a skip leaves the next frame
  same_next : (call : Call) (reply : Reply) → skip_by reply ≡ None → is_built reply ≡ false
      → next_after c (after call reply) ≡ next_after c h
  same_next call reply = next_after-same c h (entry call reply)

  refused : (call : Call) (refusal : Refusal) → EntryChange c h (after call (replies.Refused refusal))
  refused call refusal =
      Nothing (flows_of-refused c stamp h call refusal) (same_next call (replies.Refused refusal) refl refl)

  admitted : (sid : ℕ) (spec : FlowSpec) (place : Option Placement) → AdmitsFlow c (situation_of c h) sid spec
      → EntryChange c h (after (calls.Admit sid spec) (replies.Admitted place))
  admitted sid spec place may =
      let good = good_sid sid may.good in
      Began sid spec may (flows_of-admit stamp h sid spec place c (life_of-dead c h sid may.good may.fresh) good.0 good.1)
      (same_next (calls.Admit sid spec) (replies.Admitted place) refl refl)

  -- the change where the reply is this one
  by_reply : (call : Call) (reply said : Reply) → reply ≡ said → EntryChange c h (after call said)
      → EntryChange c h (after call reply)
  by_reply call reply said is change = subst (λ r. EntryChange c h (after call r)) (sym is) change

  placed : (sid : ℕ) (spec : FlowSpec) (reply : Reply) → AdmitsFlow c (situation_of c h) sid spec → PlacesOrRefuses c (situation_of c h) spec reply
      → EntryChange c h (after (calls.Admit sid spec) reply)
  placed sid spec reply may (inl (p, lawful, is)) =
      by_reply (calls.Admit sid spec) reply (replies.Admitted (Some p)) is (admitted sid spec (Some p) may)
  placed sid spec reply may (inr (never, is)) =
      by_reply (calls.Admit sid spec) reply (replies.Refused NoPlace) is (refused (calls.Admit sid spec) NoPlace)

  admits : (sid : ℕ) (spec : FlowSpec) (reply : Reply) → AdmitsFlow c (situation_of c h) sid spec → AnswersAdmit c (situation_of c h) spec reply
      → EntryChange c h (after (calls.Admit sid spec) reply)
  admits sid (Unsolicited size interval jitter grants) reply may answers =
      placed sid (Unsolicited size interval jitter grants) reply may answers
  admits sid (Polled interval jitter rate burst peak) reply may answers =
      placed sid (Polled interval jitter rate burst peak) reply may answers
  admits sid (BestEffort priority rate burst peak reserved reserved-burst) reply may answers =
      by_reply (calls.Admit sid (BestEffort priority rate burst peak reserved reserved-burst)) reply (replies.Admitted None) answers
      (admitted sid (BestEffort priority rate burst peak reserved reserved-burst) None may)

  told : (sid asked granted left : ℕ)
      → EntryChange c h (after (calls.Status sid) (replies.Flow asked granted left))
  told sid asked granted left =
      let reply : Reply = replies.Flow asked granted left in
      Nothing (flows_of-quiet c h (entry (calls.Status sid) reply) (quiet-status c sid asked granted left))
      (same_next (calls.Status sid) reply refl refl)

  tells_sums : (sid : ℕ) (b : Bool) (asked granted left : ℕ)
      → EntryChange c h (after (calls.Status sid) (if b then replies.Flow asked granted left else replies.Flow 0 0 0))
  tells_sums sid true asked granted left = told sid asked granted left
  tells_sums sid false asked granted left = told sid 0 0 0

  tells : (sid : ℕ) (o : Option LiveFlow) (reply : Reply) → MatchOption o ⊥ (λ f. reply ≡ flow_status f)
      → EntryChange c h (after (calls.Status sid) reply)
  tells sid None reply answers = absurd answers
  tells sid (Some f) reply answers =
      by_reply (calls.Status sid) reply (flow_status f) answers
      (tells_sums sid (takes_requests f.spec) f.asked (granted f) (outstanding f))

  -- a call that changes neither flows nor the next frame
  quiet : (call : Call) (reply : Reply) → LeavesFlows c call reply → skip_by reply ≡ None → is_built reply ≡ false
      → EntryChange c h (after call reply)
  quiet call reply leaves skips builds =
      Nothing (flows_of-quiet c h (entry call reply) leaves) (same_next call reply skips builds)

  -- a change of a flow's parameters
  gave : (sid : ℕ) (spec : FlowSpec) (place : Option Placement) → ChangesFlow c (situation_of c h) sid spec
      → EntryChange c h (after (calls.Change sid spec) (replies.Changed place))
  gave sid spec place may =
      Changed sid spec may (flows_of-change stamp h sid spec place c)
      (same_next (calls.Change sid spec) (replies.Changed place) refl refl)

  anew : (sid : ℕ) (spec : FlowSpec) (reply : Reply) → ChangesFlow c (situation_of c h) sid spec → PlacesAnew c (situation_of c h) sid spec reply
      → EntryChange c h (after (calls.Change sid spec) reply)
  anew sid spec reply may (inl (p, lawful, is)) =
      by_reply (calls.Change sid spec) reply (replies.Changed (Some p)) is (gave sid spec (Some p) may)
  anew sid spec reply may (inr (never, is)) =
      by_reply (calls.Change sid spec) reply (replies.Refused NoPlace) is (refused (calls.Change sid spec) NoPlace)

  gives : (sid : ℕ) (spec : FlowSpec) (given : Admission) (reply : Reply) → ChangesFlow c (situation_of c h) sid spec
      → AnswersChange c (situation_of c h) sid given spec reply → EntryChange c h (after (calls.Change sid spec) reply)
  gives sid spec given reply may (inl (same, (p, told, is))) =
      by_reply (calls.Change sid spec) reply (replies.Changed (Some p)) is (gave sid spec (Some p) may)
  gives sid spec given reply may (inr (inl (other, periodic, answers))) = anew sid spec reply may answers
  gives sid spec given reply may (inr (inr (aperiodic, is))) =
      by_reply (calls.Change sid spec) reply (replies.Changed None) is (gave sid spec None may)

  changes : (sid : ℕ) (spec : FlowSpec) (o : Option Admission) (reply : Reply) → ChangesFlow c (situation_of c h) sid spec
      → MatchOption o ⊥ (λ given. AnswersChange c (situation_of c h) sid given spec reply)
      → EntryChange c h (after (calls.Change sid spec) reply)
  changes sid spec None reply may answers = absurd answers
  changes sid spec (Some given) reply may answers = gives sid spec given reply may answers

  skips : (now start : ℕ) → IsFirstStart c (now + c.lead) start → refusal_of c h (calls.Skip now) ≡ None
      → EntryChange c h (after (calls.Skip now) (replies.Skipped start))
  skips now start first none =
      let e : Entry = entry (calls.Skip now) (replies.Skipped start) in
      let late = passed-skip c (situation_of c h) now none in
      let bounds : HasBounds c = bounds_of c lawful in
      let near : start < now + c.lead + c.frame =
      first_start-near c (now + c.lead) (omega (arith, bounds.frame_least)) start first in
      Skipped start (flows_of-quiet c h e (quiet-skip c now start))
      (next_after-skipped c h e start refl) (omega (arith, late.late, first.reached)) first.whole
      (omega (arith, late.clock, near, bounds.lead_most))

  builds : (now : ℕ) (m : FrameMap) → IsNextMap c h m → refusal_of c h (calls.Build now) ≡ None
      → EntryChange c h (after (calls.Build now) (replies.Built m))
  builds now m map none =
      let tests = passed-build c (situation_of c h) now none in
      Described m map (flows_of-build_next stamp h now m c map)
      (next_after-built c h (entry (calls.Build now) (replies.Built m)) m refl)
      (omega (arith, tests.clock, tests.early))

  answered : (call : Call) (reply : Reply) → refusal_of c h call ≡ None → Answers c h call reply
      → EntryChange c h (after call reply)
  answered (calls.Admit sid spec) reply none answers =
      admits sid spec reply (passed-admit c (situation_of c h) sid spec none) answers
  answered (calls.Remove sid) reply none answers =
      by_reply (calls.Remove sid) reply replies.Removed answers
      (Ended sid (flows_of-remove stamp h sid c) (same_next (calls.Remove sid) replies.Removed refl refl))
  answered (calls.Ask receiver sid amount heard) reply none answers =
      by_reply (calls.Ask receiver sid amount heard) reply replies.Taken answers
      (Asked sid (requested c amount) heard (passed-ask c (situation_of c h) receiver sid amount heard none).most
      (flows_of-ask stamp h receiver sid amount heard c)
      (same_next (calls.Ask receiver sid amount heard) replies.Taken refl refl))
  answered (calls.Heard receiver upto) reply none answers =
      by_reply (calls.Heard receiver upto) reply replies.Noted answers
      (quiet (calls.Heard receiver upto) replies.Noted (quiet-heard c receiver upto) refl refl)
  answered (calls.Replace receiver sid amount heard) reply none answers =
      by_reply (calls.Replace receiver sid amount heard) reply replies.Taken answers
      (Replaced sid (requested c amount) heard (passed-replace c (situation_of c h) receiver sid amount heard none).most
      (flows_of-replace stamp h receiver sid amount heard c)
      (same_next (calls.Replace receiver sid amount heard) replies.Taken refl refl))
  answered (calls.Change sid spec) reply none answers =
      changes sid spec (given_of sid (situation_of c h)) reply (passed-change c (situation_of c h) sid spec none) answers
  answered (calls.Rest sid) reply none answers =
      by_reply (calls.Rest sid) reply replies.Noted answers
      (quiet (calls.Rest sid) replies.Noted (quiet-rest c sid) refl refl)
  answered (calls.Wake sid) reply none answers =
      by_reply (calls.Wake sid) reply replies.Noted answers
      (quiet (calls.Wake sid) replies.Noted (quiet-wake c sid) refl refl)
  answered (calls.Build now) reply none answers =
      by_reply (calls.Build now) reply (replies.Built answers.0) answers.2 (builds now answers.0 answers.1 none)
  answered (calls.Skip now) reply none answers =
      by_reply (calls.Skip now) reply (replies.Skipped answers.0) answers.2 (skips now answers.0 answers.1 none)
  answered (calls.Status sid) reply none answers = tells sid (flow_of sid (flows_of c h)) reply answers
  answered (calls.Reserve usage slots) reply none answers =
      by_reply (calls.Reserve usage slots) reply replies.Reserved answers
      (quiet (calls.Reserve usage slots) replies.Reserved (quiet-reserve c usage slots) refl refl)
  answered (calls.Header header) reply none answers =
      by_reply (calls.Header header) reply replies.Noted answers
      (quiet (calls.Header header) replies.Noted (quiet-header c header) refl refl)

  stepped : (call : Call) (reply : Reply) (o : Option Refusal) → refusal_of c h call ≡ o
      → MatchOption o (Answers c h call reply) (λ refusal. reply ≡ replies.Refused refusal)
      → EntryChange c h (after call reply)
  stepped call reply None none step = answered call reply none step
  stepped call reply (Some refusal) some step =
      by_reply call reply (replies.Refused refusal) step (refused call refusal)

-- what a legal entry changes
pub change_of : (c : Config) (h : List Entry) (e : Entry) → IsLawful c → IsStep c h e.call e.reply
    → EntryChange c h (h ++ e ∷ [])
change_of c h e lawful step = stepped c lawful e.stamp h e.call e.reply (refusal_of c h e.call) refl step
