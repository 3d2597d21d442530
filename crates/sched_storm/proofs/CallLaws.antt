-- One call by a seat, as a call that was made.
use Rattle.std.proofs.Common.{◌≡◌, ◌≤◌, ◌||◌, inl, inr, ℕ, Bool, true, false, List, [], ◌∷◌, ◌++◌, map, length, drop}
use Rattle.std.proofs.Common.{Option}
use Rattle.std.proofs.Common.{Some, None, Result, Ok, Err, refl, sym, ap, ◌∙◌, subst, append-nil, arith, nat_le}
use Rattle.std.proofs.Common.{length-drop}
use Rattle.std.specs.Prelude.{is_ok, is_some, IfSome, IfNone}
use Rattle.std.specs.Option.{option_to_list}
use Rattle.std.proofs.lemmas.Bool.Decides.{nat_tests}
use Rattle.minislots.specs.declared.config.Config.{Config}
use Rattle.sched_calls.specs.declared.call.Call.{Call}
use Rattle.sched_calls.specs.declared.reply.Entry.{Entry}
use Rattle.sched_calls.specs.declared.reply.Reply.{Reply}
use Rattle.sched_calls.specs.declared.reply.TheConstants.{MAX_WHOLE_HISTORY}
use Rattle.sched_calls.specs.declared.reply.Unrecorded.{Unrecorded}
use Rattle.sched_calls.specs.declared.reply.Unrecorded.TheVariants.{HistoryFull, Memory}
use Rattle.sched_history.specs.Machine.{Machine, kept_of, is_full}
use Rattle.sched_history.proofs.rows.Limits.{most_history}
use Rattle.ticket_lock.specs.declared.board.Logged.{Logged}
use Rattle.ticket_lock.specs.Rule.{entry_of, IsOfOthers}
use Rattle.ticket_lock.specs.Standing.{Standing, stamp_of}
use Rattle.sched_desk.specs.declared.event.Event.{Event}
use Rattle.sched_desk.specs.Events.{author_of, history_in}
use Rattle.sched_desk.specs.Desk.{FixedDesk, history_seen, machine_seen}
use Rattle.sched_desk.specs.Calls as calls
use Rattle.sched_desk.specs.Calls.{AnswersHeld}
use Rattle.sched_desk.specs.Closed.{entries_of}
use Rattle.sched_desk.proofs.AtClose.{entries_of-log}
use Rattle.sched_desk.proofs.Own.{made_by-others}
use Rattle.shared_sched.specs.Calls.{AnswersCall}
use Rattle.sched_storm.specs.Made.{MadeCall, list_left, MayBeLeftOut, GrowsByOthers, IsMadeAfter}
use Rattle.sched_storm.specs.Work.{MakesOne}
use Rattle.sched_storm.proofs.MadeLaws.{entries_of-append, GrowsByOthers-same}

-- entries of others are none of this seat's
none_of_others : (number : ℕ) (others : List (Logged Event)) → IsOfOthers author_of number others
    → entries_of number (history_in (map entry_of others)) ≡ []
none_of_others number others are =
    entries_of-log number others
    ∙ ap (λ (l : List (Logged Event)). history_in (map entry_of l)) (made_by-others author_of number others are)

-- so a list grows by others, where they add to it
grows_by : (number : ℕ) (from : List Entry) (others : List (Logged Event)) → IsOfOthers author_of number others
    → GrowsByOthers number from (from ++ history_in (map entry_of others))
grows_by number from others are = record {
  begins = (history_in (map entry_of others), refl);
  same_own =
      entries_of-append number from (history_in (map entry_of others))
      ∙ ap (λ (l : List Entry). entries_of number from ++ l) (none_of_others number others are)
      ∙ append-nil (entries_of number from);
}

-- a scheduler that is full has as many entries as its configuration allows to keep
full_has : (m : Machine) → m.config.calls ≤ 16777216 → is_full m ≡ true → m.config.calls ≤ length m.history
full_has m few full = by (nat_le m.config.calls (length (kept_of m))) refl
  where
    by : (b : Bool) → nat_le m.config.calls (length (kept_of m)) ≡ b → m.config.calls ≤ length m.history
    by true is =
        let kept : m.config.calls ≤ length (kept_of m) = grind (arith, nat_tests) in
        let part = length-drop m.handed m.history in
        omega (arith, kept, part)
    by false is =
        let whole : nat_le MAX_WHOLE_HISTORY (length m.history) ≡ true =
        ap (λ b. b || nat_le MAX_WHOLE_HISTORY (length m.history)) (sym is) ∙ full in
        let most : MAX_WHOLE_HISTORY ≤ length m.history = grind (arith, nat_tests) in
        omega (arith, most, few, most_history)

module _ (c : Config) (few : c.calls ≤ 16777216) (s w : Standing FixedDesk Event) (call : Call) where
  -- the entry that a holder adds
  abbrev entry_by : Standing FixedDesk Event → Result Reply Unrecorded → Option Entry
  entry_by holder (Ok reply) = Some (record { stamp = stamp_of holder; call = call; reply = reply })
  entry_by holder (Err unrecorded) = None

  -- a holder's call, as a call that was made
  abbrev made_by : Standing FixedDesk Event → Result Reply Unrecorded → MadeCall
  made_by holder answer = record { call = call; entered = history_seen holder; added = entry_by holder answer }

  -- it was recorded exactly where it has a reply
  made_by-recorded : (holder : Standing FixedDesk Event) (answer : Result Reply Unrecorded)
      → is_some (entry_by holder answer) ≡ is_ok answer
  made_by-recorded holder (Ok reply) = refl
  made_by-recorded holder (Err unrecorded) = refl

  -- the entry is what the holder added to the list
  made_by-added : (holder : Standing FixedDesk Event) (answer : Result Reply Unrecorded)
      → calls.entry_by holder call answer ≡ option_to_list (entry_by holder answer)
  made_by-added holder (Ok reply) = refl
  made_by-added holder (Err unrecorded) = refl

  -- it has the seat's number and the call
  made_by-adds : (holder : Standing FixedDesk Event) → holder.number ≡ s.number → (answer : Result Reply Unrecorded)
      → IfSome (entry_by holder answer) (λ e. (e.stamp.seat ≡ s.number) × (e.call ≡ call))
  made_by-adds holder number (Ok reply) = (number, refl)
  made_by-adds holder number (Err unrecorded) = tt

  -- why there is none
  made_by-leaves_out : (holder : Standing FixedDesk Event) (answer : Result Reply Unrecorded)
      → AnswersHeld c holder call w answer → IfNone (entry_by holder answer) (MayBeLeftOut c (made_by holder answer))
  made_by-leaves_out holder (Ok reply) held = tt
  made_by-leaves_out holder (Err HistoryFull) held = inl (full_has (machine_seen c holder) few (held.full.0 refl))
  made_by-leaves_out holder (Err Memory) held = inr (held.memory refl)

  module _ (answer : Result Reply Unrecorded) (a : AnswersCall c s call w answer) where
    -- the seat has seen the list that it left
    left_is : list_left (made_by a.holder answer) ≡ history_seen w
    left_is =
        ap (λ (l : List Entry). history_seen a.holder ++ l) (sym (made_by-added a.holder answer))
        ∙ sym a.answered.history_is

    -- the call was made after what the seat had seen
    made_after : IsMadeAfter c s.number (history_seen s) (made_by a.holder answer)
    made_after = record {
      enters = subst (GrowsByOthers s.number (history_seen s)) (sym a.entered.history_is)
          (grows_by s.number (history_seen s) a.entered.others a.entered.are_others);
      adds = made_by-adds a.holder (ap (λ (x : Standing FixedDesk Event). x.number) a.entered.entered) answer;
      leaves_out = made_by-leaves_out a.holder answer a.answered;
    }

    -- one call
    pub one_call : MakesOne c s w call (is_ok answer)
    one_call =
        let made = made_by a.holder answer in
        record {
          made = made;
          call_is = refl;
          recorded_is = made_by-recorded a.holder answer;
          makes = record {
            lock_is = ap (λ (x : Standing FixedDesk Event). x.lock) a.answered.left
                ∙ ap (λ (x : Standing FixedDesk Event). x.lock) a.entered.entered;
            number_is = ap (λ (x : Standing FixedDesk Event). x.number) a.answered.left
                ∙ ap (λ (x : Standing FixedDesk Event). x.number) a.entered.entered;
            turns_is = a.turns;
            leads = (
              made_after,
              subst (GrowsByOthers s.number (list_left made)) left_is (GrowsByOthers-same s.number _),
            );
          };
        }
