-- A turn, from its entry and what the holder did.
use Rattle.std.proofs.Common.{◌≡◌, ◌+◌, Bool, List, ◌++◌, map, Result, sym, ap, ◌∙◌}
use Rattle.std.specs.Global.{Vec}
use Rattle.std.proofs.lemmas.List.{append_assoc, map-append}
use Rattle.minislots.specs.declared.config.Config.{Config}
use Rattle.sched_calls.specs.declared.call.Call.{Call}
use Rattle.sched_calls.specs.declared.reply.Entry.{Entry}
use Rattle.sched_calls.specs.declared.reply.Reply.{Reply}
use Rattle.sched_calls.specs.declared.reply.Unrecorded.{Unrecorded}
use Rattle.sched_history.specs.declared.scheduler.handing_over.HandedOver.{HandedOver}
use Rattle.ticket_lock.specs.declared.board.Logged.{Logged}
use Rattle.ticket_lock.specs.Rule.{entry_of}
use Rattle.ticket_lock.specs.Standing.{Standing, opening_of, seen, own}
use Rattle.ticket_lock.specs.Calls.{Enters}
use Rattle.sched_desk.specs.declared.event.Event.{Event}
use Rattle.sched_desk.specs.Events.{author_of, history_in}
use Rattle.sched_desk.specs.Portions.{Portion, portions_of, portions_in}
use Rattle.sched_desk.specs.Desk.{DeskState, FixedDesk, fixed_of, events_of, own_entries, own_portions}
use Rattle.sched_desk.specs.Calls.{entry_by, AnswersHeld}
use Rattle.sched_desk.specs.Handing.{is_given, portion_by, HandsOverHeld, ForgetsHeld}
use Rattle.sched_desk.proofs.Own.{entered_own, entered_history, entered_portions}
use Rattle.worker_sched.specs.Workplace.{HasEntered, AnswersTurn, HandsOverTurn, ForgetsTurn}

module _ (c : Config) (t h w : Standing FixedDesk Event) (x : DeskState)
    (entered : Enters author_of fixed_of events_of t h x) where
  -- a seat that entered has seen what others had added
  pub has_entered : HasEntered t h
  has_entered = record {
    others = entered.more;
    are_others = entered.others;
    entered = entered.entered;
    history_is = entered_history t h entered.more (ap seen entered.entered);
    own_are = entered_own t h entered.more (ap (own author_of) entered.entered) entered.others;
    portions_are = entered_portions t h entered.more (ap seen entered.entered)
        (ap (λ (u : Standing FixedDesk Event). u.number) entered.entered) entered.others;
  }

  turn_more : h.turns ≡ t.turns
  turn_more = ap (λ (u : Standing FixedDesk Event). u.turns) entered.entered

  -- one that was answered as a holder has had its turn
  pub turns : (call : Call) (answer : Result Reply Unrecorded) → AnswersHeld c h call w answer
      → AnswersTurn c t call w answer
  turns call answer answered = record {
    holder = h;
    entered = has_entered;
    answered = answered;
    turns = ap (λ (u : Standing FixedDesk Event). u.turns) answered.left ∙ ap (λ n. n + 1) turn_more;
    own_is = answered.own_is ∙ ap (λ (l : List Entry). l ++ entry_by h call answer) has_entered.own_are;
    portions_are = answered.portions_are ∙ has_entered.portions_are;
  }

  -- so has one that handed over what is kept
  pub turns_over : (keeps : Bool) (room : Vec Entry) (answer : Result HandedOver (Vec Entry))
      → HandsOverHeld c h keeps room w answer → HandsOverTurn c keeps t room w answer
  turns_over keeps room answer given = record {
    holder = h;
    entered = has_entered;
    given = given;
    turns = ap (λ (u : Standing FixedDesk Event). u.turns) given.marks.left ∙ ap (λ n. n + 1) turn_more;
    own_is = given.marks.own_is ∙ has_entered.own_are;
    portions_are = given.marks.portions_are
        ∙ ap (λ (l : List Portion). l ++ portion_by h (is_given answer)) has_entered.portions_are;
  }

  -- and one that had it forgotten
  pub turns_forgetting : (keeps done : Bool) → ForgetsHeld c h keeps w done → ForgetsTurn c keeps t w done
  turns_forgetting keeps done forgotten = record {
    holder = h;
    entered = has_entered;
    forgotten = forgotten;
    turns = ap (λ (u : Standing FixedDesk Event). u.turns) forgotten.marks.left ∙ ap (λ n. n + 1) turn_more;
    own_is = forgotten.marks.own_is ∙ has_entered.own_are;
    portions_are = forgotten.marks.portions_are
        ∙ ap (λ (l : List Portion). l ++ portion_by h done) has_entered.portions_are;
  }
