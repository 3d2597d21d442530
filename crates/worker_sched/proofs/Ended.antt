-- What a seat takes out for good.
use Rattle.std.proofs.Common.{◌≡◌, ℕ, Bool, true, List, ◌++◌, map, Some, sym, ap, ◌∙◌, subst}
use Rattle.std.proofs.lemmas.List.{append_assoc, map-append}
use Rattle.std.proofs.lemmas.Option.{same_Some}
use Rattle.minislots.specs.declared.config.Config.{Config}
use Rattle.sched_calls.specs.declared.reply.Entry.{Entry}
use Rattle.sched_history.specs.History.{IsLegal}
use Rattle.sched_history.specs.Machine.{Machine}
use Rattle.ticket_lock.specs.declared.board.Logged.{Logged}
use Rattle.ticket_lock.specs.Rule.{entry_of, IsOfOthers, IsOrdered}
use Rattle.ticket_lock.specs.Standing.{Lock, Standing, head_of, opening_of, seats_of, first_of, seen}
use Rattle.ticket_lock.specs.Calls.{Draws, Enters}
use Rattle.sched_desk.specs.declared.event.Event.{Event}
use Rattle.sched_desk.specs.Events.{author_of, history_in, handed_in}
use Rattle.sched_desk.specs.Desk.{DeskState, FixedDesk, fixed_of, events_of, machine_of, IsDeskLock, HasPress, no_press}
use Rattle.sched_desk.proofs.Events.{history_in-append}
use Rattle.worker_sched.specs.Workplace.{EndsWith}

module _ (c : Config) (keeps : Bool) (lock : Lock FixedDesk Event) (desk : IsDeskLock c lock)
    (has : HasPress c no_press keeps lock) (s t h : Standing FixedDesk Event) (own : s.lock ≡ lock) (x : DeskState)
    (drawn : Draws author_of s t)
    (entered : Enters author_of fixed_of events_of t h x) where
  -- the holder has the seat's lock
  lock_is : t.lock ≡ lock
  lock_is = ap (λ (u : Standing FixedDesk Event). u.lock) drawn.drawn ∙ own

  whole : h ≡ record s { log = s.log ++ entered.more; ticket = t.ticket; looks = h.looks }
  whole =
      entered.entered
      ∙ ap (λ (u : Standing FixedDesk Event). record u { log = u.log ++ entered.more; looks = h.looks }) drawn.drawn

  fixed_is : fixed_of x ≡ record { config = c; press = no_press; keeps = keeps }
  fixed_is = same_Some (fixed_of x) (record { config = c; press = no_press; keeps = keeps })
      (entered.head_is ∙ ap head_of lock_is ∙ has)

  -- the list is what the seat had seen, and then what others had added
  events_are : x.events ≡ seen s ++ map entry_of entered.more
  events_are =
      entered.entries_are ∙ ap seen whole
      ∙ ap (λ (l : List Event). opening_of s.lock ++ l) (map-append entry_of s.log entered.more)
      ∙ sym (append_assoc (opening_of s.lock) (map entry_of s.log) (map entry_of entered.more))

  -- the scheduler is that of the list
  pub ends_with : (m : Machine) → m ≡ machine_of x → IsLegal m.config m.history
      → (x.keeps ≡ true → handed_in x.events ≡ 0) → EndsWith c keeps s m
  ends_with m is legal keeping =
      let config = ap (λ (y : Machine). y.config) is ∙ ap (λ (f : FixedDesk). f.config) fixed_is in
      let number = ap (λ (u : Standing FixedDesk Event). u.number) drawn.drawn in record {
        config = config;
        others = entered.more;
        are_others = subst (λ n. IsOfOthers author_of n entered.more) number entered.others;
        history = ap (λ (y : Machine). y.history) is ∙ ap history_in events_are
            ∙ history_in-append (seen s) (map entry_of entered.more);
        handed = ap (λ (y : Machine). y.handed) is ∙ ap handed_in events_are;
        whole = λ kept. ap (λ (y : Machine). y.handed) is
            ∙ keeping (ap (λ (f : FixedDesk). f.keeps) fixed_is ∙ kept);
        legal = subst (λ k. IsLegal k m.history) config legal;
        below = h.ticket;
        ordered = subst (λ (y : ℕ × ℕ × List (Logged Event)). IsOrdered author_of y.0 y.1 y.2 h.ticket)
            (λ i. (
              (ap first_of lock_is ∙ desk.first_is) i,
              (ap (λ (u : Standing FixedDesk Event). seats_of u.lock) drawn.drawn) i,
              (ap (λ (u : Standing FixedDesk Event). u.log) whole) i,
            )) entered.ordered;
      }
