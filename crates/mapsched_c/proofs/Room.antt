-- A reply of a legal history has no more starts than there is room for.
use Rattle.std.proofs.Common.{◌≡◌, refl, subst, ℕ, zero, suc, ◌/◌, ◌≤◌, inl, inr, Bool, true, false, arith}
use Rattle.std.proofs.Common.{List, [], ◌∷◌, ◌++◌, length}
use Rattle.std.specs.Prelude.{Option, None, Some, MatchOption, IsSomeAnd}
use Rattle.std.specs.List.{AllByRecursion, slice_get}
use Rattle.std.proofs.Math.Nat.{div-le_self, mul-le-mul}
use Rattle.minislots.specs.declared.config.Config.{Config}
use Rattle.minislots.specs.Config.{IsLawful}
use Rattle.minislots.proofs.Bounds.{bounds_of}
use Rattle.minislots.specs.declared.stamp.Stamp.{Stamp}
use Rattle.sched_calls.specs.declared.spec.FlowSpec.{FlowSpec}
use Rattle.sched_calls.specs.declared.spec.FlowSpec.TheVariants.{Unsolicited, Polled, BestEffort}
use Rattle.sched_calls.specs.FlowSpec.{is_periodic, takes_requests, interval_frames, first_fault}
use Rattle.flow_book.specs.Flows.{LiveFlow, flow_of}
use Rattle.sched_calls.specs.declared.placement.Placement.{Placement}
use Rattle.periodic.specs.Placement.{Placed, IsPlacement, IsToldFrom}
use Rattle.periodic.proofs.Joined.{all-append}
use Rattle.periodic.proofs.Parameters.{places_of}
use Rattle.sched_calls.specs.declared.call.Call.{Call}
use Rattle.sched_calls.specs.declared.call.Call.TheVariants.{Admit, Remove, Ask, Heard, Build, Skip, Status}
use Rattle.sched_calls.specs.declared.call.Call.TheVariants.{Reserve, Header, Replace, Change, Rest, Wake}
use Rattle.sched_calls.specs.declared.reply.Refusal.{Refusal}
use Rattle.sched_calls.specs.declared.reply.Reply.{Reply}
use Rattle.sched_calls.specs.declared.reply.Reply.TheVariants as replies
use Rattle.sched_calls.specs.declared.reply.Entry.{Entry}
use Rattle.sched_history.specs.Life.{Admission, flows_of}
use Rattle.sched_history.specs.Time.{next_after}
use Rattle.sched_history.specs.Situation.{situation_of, given_of}
use Rattle.sched_history.specs.Refusal.{bad_sid, refusal_of}
use Rattle.sched_history.specs.History.{PlacesOrRefuses, PlacesAnew, AnswersChange, Answers, IsStep, IsLegal}
use Rattle.sched_history.specs.History.{flow_status}
use Rattle.sched_history.specs.Machine.{Machine}
use Rattle.sched_history.proofs.steps.LegalHistories.{legal_induction}
use Rattle.sched_history.proofs.steps.Passed.{passed-admit, passed-change}
use Rattle.sched_history.proofs.placements.PlacedLives.{WasPlacedIn, given_placed}
use Rattle.mapsched_c.specs.Reply.{HasRoom}

module _ (c : Config) (conf : IsLawful c) where
  -- a lawful placement of a flow without a fault has room
  placed_room : (table : List Placed) (next : ℕ) (spec : FlowSpec) (p : Placement) → is_periodic spec ≡ true
      → first_fault c spec ≡ None → IsPlacement c table spec next p → length p.starts ≤ 512
  placed_room table next spec p periodic none is =
      let frames : c.cycle / interval_frames c spec ≤ 64 =
      omega (arith, div-le_self c.cycle (interval_frames c spec), (bounds_of c conf).cycle_most) in
      let grants = (places_of c spec conf periodic none).grants_most in
      omega (arith, is.starts.count, mul-le-mul frames grants)

  placing_room : (h : List Entry) (spec : FlowSpec) (reply : Reply) → is_periodic spec ≡ true
      → first_fault c spec ≡ None
      → PlacesOrRefuses c (situation_of c h) spec reply → HasRoom reply
  placing_room h spec reply periodic none (inl (p, is, e)) = rw e (placed_room _ _ spec p periodic none is)
  placing_room h spec reply periodic none (inr (nowhere, e)) = rw e tt

  admitted_room : (h : List Entry) (sid : ℕ) (spec : FlowSpec) (reply : Reply) → refusal_of c h (Admit sid spec) ≡ None
      → is_periodic spec ≡ true → PlacesOrRefuses c (situation_of c h) spec reply → HasRoom reply
  admitted_room h sid spec reply passed periodic is =
      placing_room h spec reply periodic (passed-admit c (situation_of c h) sid spec passed).no_fault is

  anew_room : (h : List Entry) (sid : ℕ) (spec : FlowSpec) (reply : Reply) → is_periodic spec ≡ true
      → first_fault c spec ≡ None
      → PlacesAnew c (situation_of c h) sid spec reply → HasRoom reply
  anew_room h sid spec reply periodic none (inl (p, is, e)) = rw e (placed_room _ _ spec p periodic none is)
  anew_room h sid spec reply periodic none (inr (nowhere, e)) = rw e tt

  -- a placement that stands keeps its starts
  kept_room : (next from : ℕ) (given : Admission) (spec : FlowSpec) (o : Option Placement) (p : Placement)
      → given.placement ≡ o → WasPlacedIn c next given → IsSomeAnd o (λ stands. IsToldFrom c spec from stands p)
      → length p.starts ≤ 512
  kept_room next from given spec None p at was told = absurd told
  kept_room next from given spec (Some stands) p at was told =
      let placed = was stands at in
      rw told.starts (placed_room placed.table placed.since given.spec stands placed.periodic placed.faultless
      placed.lawful)

  given_room : (h : List Entry) (sid : ℕ) (given : Admission) (spec : FlowSpec) (reply : Reply)
      → WasPlacedIn c (next_after c h) given → first_fault c spec ≡ None
      → AnswersChange c (situation_of c h) sid given spec reply
      → HasRoom reply
  given_room h sid given spec reply was none (inl (same, (p, told, e))) =
      rw e (kept_room (next_after c h) (next_after c h) given spec given.placement p refl was told)
  given_room h sid given spec reply was none (inr (inl (other, periodic, is))) =
      anew_room h sid spec reply periodic none is
  given_room h sid given spec reply was none (inr (inr (aperiodic, e))) = rw e tt

  changed_room : (h : List Entry) (sid : ℕ) (spec : FlowSpec) (o : Option Admission) (reply : Reply)
      → given_of sid (situation_of c h) ≡ o → bad_sid sid ≡ false → IsLegal c h → first_fault c spec ≡ None
      → MatchOption o ⊥ (λ given. AnswersChange c (situation_of c h) sid given spec reply) → HasRoom reply
  changed_room h sid spec None reply has good legal none is = absurd is
  changed_room h sid spec (Some given) reply has good legal none is =
      given_room h sid given spec reply (given_placed c h legal sid good given has) none is

  status_room : (f : LiveFlow) (b : Bool) → takes_requests f.spec ≡ b → (reply : Reply) → reply ≡ flow_status f
      → HasRoom reply
  status_room f true is reply e = rw e (rw is tt)
  status_room f false is reply e = rw e (rw is tt)

  live_room : (o : Option LiveFlow) (reply : Reply) → MatchOption o ⊥ (λ f. reply ≡ flow_status f) → HasRoom reply
  live_room None reply said = absurd said
  live_room (Some f) reply e = status_room f _ refl reply e

  answer_room : (h : List Entry) (call : Call) (reply : Reply) → IsLegal c h → refusal_of c h call ≡ None
      → Answers c h call reply
      → HasRoom reply
  answer_room h (Admit sid (Unsolicited size interval jitter grants)) reply legal passed is =
      admitted_room h sid (Unsolicited size interval jitter grants) reply passed refl is
  answer_room h (Admit sid (Polled interval jitter rate burst peak)) reply legal passed is =
      admitted_room h sid (Polled interval jitter rate burst peak) reply passed refl is
  answer_room h (Admit sid (BestEffort priority rate burst peak reserved reserved-burst)) reply legal passed e = rw e tt
  answer_room h (Remove sid) reply legal passed e = rw e tt
  answer_room h (Ask receiver sid amount heard) reply legal passed e = rw e tt
  answer_room h (Heard receiver upto) reply legal passed e = rw e tt
  answer_room h (Build now) reply legal passed (m, is, e) = rw e tt
  answer_room h (Skip now) reply legal passed (start, is, e) = rw e tt
  answer_room h (Status sid) reply legal passed is = live_room (flow_of sid (flows_of c h)) reply is
  answer_room h (Reserve usage slots) reply legal passed e = rw e tt
  answer_room h (Header header) reply legal passed e = rw e tt
  answer_room h (Replace receiver sid amount heard) reply legal passed e = rw e tt
  answer_room h (Change sid spec) reply legal passed is =
      let may = passed-change c (situation_of c h) sid spec passed in
      changed_room h sid spec (given_of sid (situation_of c h)) reply refl may.known.good legal may.no_fault is
  answer_room h (Rest sid) reply legal passed e = rw e tt
  answer_room h (Wake sid) reply legal passed e = rw e tt

  either_room : (h : List Entry) (call : Call) (reply : Reply) (o : Option Refusal) → refusal_of c h call ≡ o
      → IsLegal c h
      → MatchOption o (Answers c h call reply) (λ refusal. reply ≡ replies.Refused refusal) → HasRoom reply
  either_room h call reply None passed legal is = answer_room h call reply legal passed is
  either_room h call reply (Some refusal) refused legal e = rw e tt

  -- a step after a legal history has room
  pub step_room : (h : List Entry) (call : Call) (reply : Reply) → IsLegal c h → IsStep c h call reply → HasRoom reply
  step_room h call reply legal is = either_room h call reply (refusal_of c h call) refl legal is

  -- so has every entry of a legal history
  pub legal_room : (h : List Entry) → IsLegal c h → AllByRecursion (λ e. HasRoom e.reply) h
  legal_room = legal_induction c (AllByRecursion (λ e. HasRoom e.reply))
      (λ h e legal step all. all-append (λ e. HasRoom e.reply) h (e ∷ []) all
      (step_room h e.call e.reply legal step, tt)) tt

-- what holds of each holds of the last
last_of : {A : Type 0} (P : A → Type 0) (xs : List A) (x : A) → AllByRecursion P (xs ++ x ∷ []) → P x
last_of P [] x all = all.0
last_of P (y ∷ ys) x all = last_of P ys x all.1

-- the reply of the last entry of a legal history has room
pub last_room : (c : Config) (h : List Entry) (stamp : Stamp) (call : Call) (reply : Reply) → IsLawful c
    → IsLegal c (h ++ record { stamp = stamp; call = call; reply = reply } ∷ []) → HasRoom reply
last_room c h stamp call reply lawful legal = last_of (λ e. HasRoom e.reply) h
    (record { stamp = stamp; call = call; reply = reply }) (legal_room c lawful _ legal)

-- so has that of the call that a scheduler has recorded
pub recorded_room : (old new : Machine) (stamp : Stamp) (call : Call) (reply : Reply) → IsLawful old.config
    → new ≡ record old { history = old.history ++ record { stamp = stamp; call = call; reply = reply } ∷ [] }
    → IsLegal new.config new.history → HasRoom reply
recorded_room old new stamp call reply lawful recorded legal =
    last_room old.config old.history stamp call reply lawful (subst (λ
    (m : Machine). IsLegal m.config m.history) recorded legal)

-- what holds of each holds of the one at a place
pub at_place : {A : Type 0} (P : A → Type 0) (xs : List A) (i : ℕ) (x : A) → AllByRecursion P xs
    → slice_get xs i ≡ Some x → P x
at_place P [] i x all is = absurd (cc)
at_place P (y ∷ ys) zero x all is = subst P (cc) all.0
at_place P (y ∷ ys) (suc i) x all is = at_place P ys i x all.1 is
