-- A whole call, from its draw, its entry and what the holder did.
use Rattle.std.proofs.Common.{◌≡◌, ◌+◌, Bool, List, ◌++◌, map, Some, Result, refl, sym, ap, ◌∙◌, subst}
use Rattle.std.specs.Global.{Vec}
use Rattle.minislots.specs.declared.config.Config.{Config}
use Rattle.sched_calls.specs.declared.call.Call.{Call}
use Rattle.sched_calls.specs.declared.reply.Entry.{Entry}
use Rattle.sched_calls.specs.declared.reply.Reply.{Reply}
use Rattle.sched_calls.specs.declared.reply.Unrecorded.{Unrecorded}
use Rattle.sched_history.specs.declared.scheduler.handing_over.HandedOver.{HandedOver}
use Rattle.ticket_lock.specs.Rule.{IsOfOthers}
use Rattle.ticket_lock.specs.Standing.{Lock, Standing, head_of, seen, own, stamp_of}
use Rattle.ticket_lock.specs.Calls.{Draws, Enters}
use Rattle.call_queue.specs.Turns.{IsHanded, EndsTurn, CallsInTurn}
use Rattle.sched_desk.specs.declared.event.Event.{Event}
use Rattle.sched_desk.specs.Events.{author_of}
use Rattle.sched_desk.specs.Portions.{Portion}
use Rattle.sched_desk.specs.Desk.{DeskState, FixedDesk, fixed_of, events_of, IsDeskLock}
use Rattle.sched_desk.specs.Calls.{IsEntered, entry_by, AnswersHeld}
use Rattle.sched_desk.specs.Handing.{is_given, portion_by, HandsOverHeld}
use Rattle.sched_desk.proofs.Own.{entered_own, entered_history, entered_portions}
use Rattle.sched_desk.proofs.Held.{answers_entered}
use Rattle.shared_sched.specs.Calls.{IsMade, HasEntered, AnswersCall, HandsOver}

module _ (c : Config) (s t h w : Standing FixedDesk Event) (x : DeskState) (drawn : Draws author_of s t)
    (entered : Enters author_of fixed_of events_of t h x) where
  whole : h ≡ record s { log = s.log ++ entered.more; ticket = t.ticket; looks = h.looks }
  whole =
      entered.entered
      ∙ ap (λ (u : Standing FixedDesk Event). record u { log = u.log ++ entered.more; looks = h.looks }) drawn.drawn

  number : t.number ≡ s.number
  number = ap (λ (u : Standing FixedDesk Event). u.number) drawn.drawn

  others : IsOfOthers author_of s.number entered.more
  others = subst (λ n. IsOfOthers author_of n entered.more) number entered.others

  -- a seat that drew and entered has seen what others had added
  has_entered : HasEntered s h
  has_entered = record {
    others = entered.more;
    are_others = others;
    entered = whole ∙ ap (λ n. record s { log = s.log ++ entered.more; ticket = n; looks = h.looks })
        (sym (ap (λ (u : Standing FixedDesk Event). u.ticket) whole));
    history_is = entered_history s h entered.more (ap seen whole);
    own_are = entered_own s h entered.more (ap (own author_of) whole) others;
    portions_are = entered_portions s h entered.more (ap seen whole)
        (ap (λ (u : Standing FixedDesk Event). u.number) whole) others;
  }

  turn_more : h.turns ≡ s.turns
  turn_more = ap (λ (u : Standing FixedDesk Event). u.turns) whole

  -- one that was answered as a holder was answered
  pub calls : (call : Call) (answer : Result Reply Unrecorded) → AnswersHeld c h call w answer
      → AnswersCall c s call w answer
  calls call answer answered = record {
    holder = h;
    entered = has_entered;
    answered = answered;
    turns = ap (λ (u : Standing FixedDesk Event). u.turns) answered.left ∙ ap (λ n. n + 1) turn_more;
    own_is = answered.own_is ∙ ap (λ (l : List Entry). l ++ entry_by h call answer) has_entered.own_are;
    portions_are = answered.portions_are ∙ has_entered.portions_are;
  }

  -- and one that handed over as a holder has handed over
  pub hands_over : (keeps : Bool) (room : Vec Entry) (answer : Result HandedOver (Vec Entry))
      → HandsOverHeld c h keeps room w answer → HandsOver c keeps s room w answer
  hands_over keeps room answer given = record {
    holder = h;
    entered = has_entered;
    given = given;
    turns = ap (λ (u : Standing FixedDesk Event). u.turns) given.marks.left ∙ ap (λ n. n + 1) turn_more;
    own_is = given.marks.own_is ∙ has_entered.own_are;
    portions_are = given.marks.portions_are
        ∙ ap (λ (l : List Portion). l ++ portion_by h (is_given answer)) has_entered.portions_are;
  }

-- the desk is as the holder entered it, in the queue's words
pub is_handed : (s : Standing FixedDesk Event) (d : DeskState) → IsEntered s d → IsHanded fixed_of events_of s d
is_handed s d entered = record { head_is = entered.head_is; entries_are = entered.entries_are }

module _ (c : Config) (lock : Lock FixedDesk Event) (round : IsDeskLock c lock) (call : Call)
    (answer : Result Reply Unrecorded) where
  -- a holder that made its call and left, by whatever thread, was answered as a holder is
  pub ends_turn : (h w : Standing FixedDesk Event) (x : DeskState) → h.lock ≡ lock → IsEntered h x
      → EndsTurn author_of fixed_of events_of IsMade call answer h x w → AnswersHeld c h call w answer
  ends_turn h w x of_lock entered ended =
      answers_entered c lock h x round of_lock entered w ended.given (stamp_of h) refl ended.left call answer
      ended.called

  -- and so a seat that took its turn, by whatever thread, was answered as a seat is
  pub calls_in_turn : (s w : Standing FixedDesk Event) → s.lock ≡ lock
      → CallsInTurn author_of fixed_of events_of IsMade call answer s w → AnswersCall c s call w answer
  calls_in_turn s w of_lock turn =
      let taken = turn.turn in
      let entered = taken.entered in
      let h = taken.holder in
      let all = whole c s turn.ticket h w taken.handed turn.drawn entered in
      let same = ap (λ (u : Standing FixedDesk Event). u.lock) all in
      let here = ap (λ (u : Standing FixedDesk Event). u.lock) entered.entered in
      calls c s turn.ticket h w taken.handed turn.drawn entered call answer
      (ends_turn h w taken.handed (same ∙ of_lock)
      (record { head_is = entered.head_is ∙ ap head_of (sym here); entries_are = entered.entries_are })
      taken.ended)
