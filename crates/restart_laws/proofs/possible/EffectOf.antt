-- Each step of a situation does one of these.
use Rattle.std.proofs.Common.{◌≡◌, refl, sym, ap, subst, ℕ, ◌<◌, ◌≤◌, Bool, true, false, ◌||◌, nat_lt, nat_le}
use Rattle.std.proofs.Common.{List, [], ◌∷◌, ◌++◌, slice_index, not, Option, None, Some, if◌then◌else◌, inl}
use Rattle.std.proofs.Common.{inr, arith}
use Rattle.std.proofs.lemmas.Bool.{or_parts}
use Rattle.std.proofs.lemmas.Bool.Decides.{nat_tests}
use Rattle.std.specs.Option.{option_or, MatchOption}
use Rattle.minislots.specs.declared.config.Config.{Config}
use Rattle.sched_calls.specs.Amount.{requested}
use Rattle.sched_calls.specs.declared.spec.FlowSpec.{FlowSpec}
use Rattle.sched_calls.specs.declared.spec.FlowSpec.TheVariants.{Unsolicited, Polled, BestEffort}
use Rattle.sched_calls.specs.FlowSpec.{is_periodic, takes_requests}
use Rattle.sched_calls.specs.declared.opportunity.Header.{Header}
use Rattle.sched_calls.specs.declared.frame_map.FrameMap.{FrameMap}
use Rattle.sched_calls.specs.declared.call.Call.{Call}
use Rattle.sched_calls.specs.declared.call.Call.TheVariants as calls
use Rattle.sched_calls.specs.declared.reply.Refusal.{Refusal}
use Rattle.sched_calls.specs.declared.reply.Refusal.TheVariants.{NoPlace, BadSid, NoFlow, NotAsking, BadReceiver}
use Rattle.sched_calls.specs.declared.reply.Refusal.TheVariants.{BadBytes, Acked, Ahead, Backwards, BadBackoff}
use Rattle.sched_calls.specs.declared.reply.Reply.{Reply}
use Rattle.sched_calls.specs.declared.reply.Reply.TheVariants as replies
use Rattle.flow_book.specs.Flows.{LiveFlow, flow_of, granted, outstanding}
use Rattle.map_build.specs.FrameMap.{map_of}
use Rattle.channel_states.specs.Possible.{IsPossibleHeader}
use Rattle.sched_history.specs.Life.{Admission}
use Rattle.sched_history.specs.Time.{least}
use Rattle.sched_history.specs.Refusal.{refused_if, first_of, bad_sid, is_live, is_silent, is_wide, is_bad_amount}
use Rattle.sched_history.specs.Refusal.{is_great_amount, refusal_in}
use Rattle.sched_history.specs.Situation.{Situation, given_of, after}
use Rattle.sched_history.specs.History.{PlacesOrRefuses, AnswersAdmit, PlacesAnew, AnswersChange, flow_status}
use Rattle.sched_history.specs.History.{demand_in, IsNextMapIn, AnswersIn, IsStepIn}
use Rattle.sched_history.proofs.steps.Passed.{above, AdmitsFlow, ChangesFlow}
use Rattle.sched_history.proofs.steps.Passed.{passed-admit, passed-ask, passed-replace, passed-change, passed-rest}
use Rattle.sched_history.proofs.steps.Passed.{passed-wake, passed-heard, passed-skip, passed-reserve}
use Rattle.restart_laws.proofs.possible.Effects.{IsHeard, GoesForward, Nothing, Begun, Placed_first, Ended}
use Rattle.restart_laws.proofs.possible.Effects.{Asked, Replaced, Changed, Placed_anew, Kept_place, Rested, Woken}
use Rattle.restart_laws.proofs.possible.Effects.{Handed_in, Described, Skipped, Accepted, Headed, left, IsLeft}
use Rattle.restart_laws.proofs.steps.Granted.{granted-plan}

not-refused : (b : Bool) (refusal : Refusal) → refused_if b refusal ≡ None → b ≡ false
not-refused true refusal e = absurd cc
not-refused false refusal e = refl

both-passed : (test others : Option Refusal) → option_or test others ≡ None → (test ≡ None) × (others ≡ None)
both-passed None others e = (refl, e)
both-passed (Some r) others e = absurd cc

-- where none of some tests refuses none of them holds
none-refuses : (b : Bool) (refusal : Refusal) (before behind : List (Option Refusal))
    → first_of (before ++ refused_if b refusal ∷ behind) ≡ None → b ≡ false
none-refuses b refusal [] behind e = not-refused b refusal (both-passed (refused_if b refusal) (first_of behind) e).0
none-refuses b refusal (test ∷ before) behind e =
    none-refuses b refusal before behind (both-passed test (first_of (before ++ refused_if b refusal ∷ behind)) e).1

module _ (c : Config) (x : Situation) where
  -- a call with this reply leaves what one of these does
  abbrev LeavesOne : Call → Reply → Type 0
  LeavesOne call reply = IsLeft c x (after c x call reply)

  by-reply : (call : Call) (reply said : Reply) → reply ≡ said → LeavesOne call said → LeavesOne call reply
  by-reply call reply said is leaves = subst (LeavesOne call) (sym is) leaves

  refused-is : (call : Call) (refusal : Refusal) → after c x call (replies.Refused refusal) ≡ left c x Nothing
  refused-is (calls.Admit sid spec) refusal = refl
  refused-is call refusal = refl

  refused : (call : Call) (refusal : Refusal) → LeavesOne call (replies.Refused refusal)
  refused call refusal = record { effect = Nothing; is = refused-is call refusal }

  placed : (sid : ℕ) (spec : FlowSpec) (reply : Reply) → AdmitsFlow c x sid spec → is_periodic spec ≡ true
      → PlacesOrRefuses c x spec reply → LeavesOne (calls.Admit sid spec) reply
  placed sid spec reply may periodic (inl (p, lawful, is)) =
      by-reply (calls.Admit sid spec) reply (replies.Admitted (Some p)) is
      (record { effect = Placed_first sid spec p may periodic lawful; is = refl })
  placed sid spec reply may periodic (inr (never, is)) =
      by-reply (calls.Admit sid spec) reply (replies.Refused NoPlace) is (refused (calls.Admit sid spec) NoPlace)

  admits : (sid : ℕ) (spec : FlowSpec) (reply : Reply) → AdmitsFlow c x sid spec → AnswersAdmit c x spec reply
      → LeavesOne (calls.Admit sid spec) reply
  admits sid (Unsolicited size interval jitter grants) reply may answers =
      placed sid (Unsolicited size interval jitter grants) reply may refl answers
  admits sid (Polled interval jitter rate burst peak) reply may answers =
      placed sid (Polled interval jitter rate burst peak) reply may refl answers
  admits sid (BestEffort priority rate burst peak reserved reserved-burst) reply may answers =
      let spec : FlowSpec = BestEffort priority rate burst peak reserved reserved-burst in
      by-reply (calls.Admit sid spec) reply (replies.Admitted None) answers
      (record { effect = Begun sid spec may; is = refl })

  module _ (sid : ℕ) (spec : FlowSpec) (may : ChangesFlow c x sid spec) where
    anew : (reply : Reply) → is_periodic spec ≡ true → PlacesAnew c x sid spec reply
        → LeavesOne (calls.Change sid spec) reply
    anew reply periodic (inl (p, lawful, is)) =
        by-reply (calls.Change sid spec) reply (replies.Changed (Some p)) is
        (record { effect = Placed_anew sid spec p may periodic lawful; is = refl })
    anew reply periodic (inr (never, is)) =
        by-reply (calls.Change sid spec) reply (replies.Refused NoPlace) is (refused (calls.Change sid spec) NoPlace)

    gives : (given : Admission) (reply : Reply) → given_of sid x ≡ Some given → AnswersChange c x sid given spec reply
        → LeavesOne (calls.Change sid spec) reply
    gives given reply has (inl (same, (p, told, is))) =
        by-reply (calls.Change sid spec) reply (replies.Changed (Some p)) is
        (record { effect = Kept_place sid spec p given has may same told; is = refl })
    gives given reply has (inr (inl (other, periodic, answers))) = anew reply periodic answers
    gives given reply has (inr (inr (aperiodic, is))) =
        by-reply (calls.Change sid spec) reply (replies.Changed None) is
        (record { effect = Changed sid spec may; is = refl })

    changes : (o : Option Admission) (reply : Reply) → given_of sid x ≡ o
        → MatchOption o ⊥ (λ given. AnswersChange c x sid given spec reply) → LeavesOne (calls.Change sid spec) reply
    changes None reply has answers = absurd answers
    changes (Some given) reply has answers = gives given reply has answers

  tells : (sid : ℕ) (b : Bool) (asked granted left : ℕ)
      → LeavesOne (calls.Status sid) (if b then replies.Flow asked granted left else replies.Flow 0 0 0)
  tells sid true asked granted left = record { effect = Nothing; is = refl }
  tells sid false asked granted left = record { effect = Nothing; is = refl }

  told : (sid : ℕ) (o : Option LiveFlow) (reply : Reply) → MatchOption o ⊥ (λ f. reply ≡ flow_status f)
      → LeavesOne (calls.Status sid) reply
  told sid None reply answers = absurd answers
  told sid (Some f) reply answers =
      by-reply (calls.Status sid) reply (flow_status f) answers
      (tells sid (takes_requests f.spec) f.asked (granted f) (outstanding f))

  -- a request that no test refuses was heard in a described frame
  heard-before : (receiver sid heard : ℕ) (sized : Bool) → first_of (
      refused_if (bad_sid sid) BadSid ∷
      refused_if (not (is_live sid x.flows)) NoFlow ∷
      refused_if (is_silent sid x.flows) NotAsking ∷
      refused_if (nat_le c.receivers receiver) BadReceiver ∷
      refused_if sized BadBytes ∷
      refused_if (nat_lt heard (slice_index x.progress receiver)) (Acked (slice_index x.progress receiver)) ∷
      refused_if (nat_le x.next heard) (Ahead x.next) ∷ []) ≡ None → heard < x.next
  heard-before receiver sid heard sized e =
      let progress : ℕ = slice_index x.progress receiver in
      let tests : List (Option Refusal) =
      refused_if (bad_sid sid) BadSid ∷ refused_if (not (is_live sid x.flows)) NoFlow
      ∷ refused_if (is_silent sid x.flows) NotAsking ∷ refused_if (nat_le c.receivers receiver) BadReceiver
      ∷ refused_if sized BadBytes ∷ refused_if (nat_lt heard progress) (Acked progress) ∷ [] in
      above x.next heard (none-refuses (nat_le x.next heard) (Ahead x.next) tests [] e)

  -- so was a progress
  upto-before : (receiver upto : ℕ) → refusal_in c x (calls.Heard receiver upto) ≡ None → upto ≤ x.next
  upto-before receiver upto e =
      let progress : ℕ = slice_index x.progress receiver in
      let test = none-refuses (nat_lt x.next upto) (Ahead x.next)
      (refused_if (nat_le c.receivers receiver) BadReceiver ∷ [])
      (refused_if (nat_lt upto progress) (Backwards progress) ∷ []) e in
      grind (arith, nat_tests)

  narrow : (exponent : ℕ) → is_wide exponent ≡ false → exponent ≤ 15
  narrow exponent test = grind (arith, nat_tests)

  header-passed : (header : Header) → refusal_in c x (calls.Header header) ≡ None → IsPossibleHeader header
  header-passed header e =
      let a = is_wide header.ranging_start in
      let b = is_wide header.ranging_end in
      let d = is_wide header.data_start in
      let wide = not-refused (a || b || d || is_wide header.data_end) BadBackoff e in
      let last = or_parts (a || b || d) (is_wide header.data_end) wide in
      let third = or_parts (a || b) d last.0 in
      let first = or_parts a b third.0 in
      record {
        ranging_start = narrow header.ranging_start first.0;
        ranging_end = narrow header.ranging_end first.1;
        data_start = narrow header.data_start third.1;
        data_end = narrow header.data_end last.1;
      }

  built : (now : ℕ) (m : FrameMap) (next : IsNextMapIn c x m) → LeavesOne (calls.Build now) (replies.Built m)
  built now m next =
      let lawful : FrameMap = map_of c (demand_in c x) x.header (least x.progress) next.0 in
      subst (λ n. LeavesOne (calls.Build now) (replies.Built n)) (sym next.2)
      (record {
        effect = Described next.0 next.1;
        is = ap (λ fs. record (left c x (Described next.0 next.1)) { flows = fs })
            (granted-plan c x lawful (next.0, next.1, refl) x.flows);
      })

  answered : (call : Call) (reply : Reply) → refusal_in c x call ≡ None → AnswersIn c x call reply
      → LeavesOne call reply
  answered (calls.Admit sid spec) reply none answers =
      admits sid spec reply (passed-admit c x sid spec none) answers
  answered (calls.Remove sid) reply none answers =
      by-reply (calls.Remove sid) reply replies.Removed answers (record { effect = Ended sid; is = refl })
  answered (calls.Ask receiver sid amount heard) reply none answers =
      let asks = passed-ask c x receiver sid amount heard none in
      let may : IsHeard c x receiver heard = record {
        received = asks.received;
        unacked = asks.unacked;
        described = heard-before receiver sid heard (is_bad_amount c amount) none;
      } in
      by-reply (calls.Ask receiver sid amount heard) reply replies.Taken answers
      (record { effect = Asked receiver sid (requested c amount) heard may asks.some_bytes; is = refl })
  answered (calls.Replace receiver sid amount heard) reply none answers =
      let asks = passed-replace c x receiver sid amount heard none in
      let may : IsHeard c x receiver heard = record {
        received = asks.received;
        unacked = asks.unacked;
        described = heard-before receiver sid heard (is_great_amount c amount) none;
      } in
      by-reply (calls.Replace receiver sid amount heard) reply replies.Taken answers
      (record { effect = Replaced receiver sid (requested c amount) heard may; is = refl })
  answered (calls.Change sid spec) reply none answers =
      changes sid spec (passed-change c x sid spec none) (given_of sid x) reply refl answers
  answered (calls.Rest sid) reply none answers =
      by-reply (calls.Rest sid) reply replies.Noted answers
      (record { effect = Rested sid (passed-rest c x sid none); is = refl })
  answered (calls.Wake sid) reply none answers =
      by-reply (calls.Wake sid) reply replies.Noted answers
      (record { effect = Woken sid (passed-wake c x sid none); is = refl })
  answered (calls.Heard receiver upto) reply none answers =
      let hears = passed-heard c x receiver upto none in
      let may : GoesForward c x receiver upto = record {
        received = hears.received;
        forwards = hears.forwards;
        described = upto-before receiver upto none;
      } in
      by-reply (calls.Heard receiver upto) reply replies.Noted answers
      (record { effect = Handed_in receiver upto may; is = refl })
  answered (calls.Build now) reply none answers =
      by-reply (calls.Build now) reply (replies.Built answers.0) answers.2 (built now answers.0 answers.1)
  answered (calls.Skip now) reply none answers =
      by-reply (calls.Skip now) reply (replies.Skipped answers.0) answers.2
      (record {
        effect = Skipped answers.0 (omega (arith, (passed-skip c x now none).late, answers.1.reached));
        is = refl;
      })
  answered (calls.Status sid) reply none answers = told sid (flow_of sid x.flows) reply answers
  answered (calls.Reserve usage slots) reply none answers =
      by-reply (calls.Reserve usage slots) reply replies.Reserved answers
      (record { effect = Accepted usage slots (passed-reserve c x usage slots none); is = refl })
  answered (calls.Header header) reply none answers =
      by-reply (calls.Header header) reply replies.Noted answers
      (record { effect = Headed header (header-passed header none); is = refl })

  by-refusal : (call : Call) (reply : Reply) (refusal : Option Refusal) → refusal_in c x call ≡ refusal
      → MatchOption refusal (AnswersIn c x call reply) (λ r. reply ≡ replies.Refused r) → LeavesOne call reply
  by-refusal call reply None none step = answered call reply none step
  by-refusal call reply (Some r) first step = by-reply call reply (replies.Refused r) step (refused call r)

  -- a step leaves what one of these does
  pub effect-of : (call : Call) (reply : Reply) → IsStepIn c x call reply → IsLeft c x (after c x call reply)
  effect-of call reply step = by-refusal call reply (refusal_in c x call) refl step
