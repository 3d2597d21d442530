-- A seat's own entries, as the log grows.
use Rattle.std.proofs.Common.{◌≡◌, ◌≢◌, ℕ, Bool, true, false, List, [], ◌∷◌, ◌++◌, map, cond, ◌==◌, Ok, Err, Result}
use Rattle.std.proofs.Common.{refl, sym, ap, ◌∙◌, eq-eqb, ne_eqb}
use Rattle.std.proofs.lemmas.List.{append-nil, append_assoc, map-append}
use Rattle.std.proofs.lemmas.List.Elements.{filter-append}
use Rattle.minislots.specs.declared.stamp.Stamp.{Stamp}
use Rattle.sched_calls.specs.declared.call.Call.{Call}
use Rattle.sched_calls.specs.declared.reply.Entry.{Entry}
use Rattle.sched_calls.specs.declared.reply.Reply.{Reply}
use Rattle.sched_calls.specs.declared.reply.Unrecorded.{Unrecorded}
use Rattle.ticket_lock.specs.declared.board.Logged.{Logged}
use Rattle.ticket_lock.specs.Rule.{entry_of, IsOfOthers}
use Rattle.ticket_lock.specs.Standing.{Standing, opening_of, made_by, seen, own}
use Rattle.sched_desk.specs.declared.event.Event.{Event}
use Rattle.sched_desk.specs.Desk.{FixedDesk, history_seen, own_entries, own_portions}
use Rattle.sched_desk.specs.Calls.{added_by, entry_by}
use Rattle.sched_desk.specs.Events.{author_of, history_in, nothing_yet, parted_after}
use Rattle.sched_desk.specs.Handing.{mark_by}
use Rattle.sched_desk.specs.Portions.{Portion, portions_of, portions_in, portions_after}
use Rattle.sched_desk.proofs.Events.{history_in-append}
use Rattle.sched_desk.proofs.Portions.{portions_after-append, portions_of-others}

module _ {E : Type 0} (stamp : E → Stamp) (number : ℕ) where
  -- entries of others are none of this seat's
  pub made_by-others : (log : List (Logged E)) → IsOfOthers stamp number log → made_by stamp number log ≡ []
  made_by-others [] others = refl
  made_by-others (x ∷ xs) others =
      ap (λ b. cond b (x ∷ made_by stamp number xs) (made_by stamp number xs))
      (ne_eqb (stamp x.entry).seat number others.0)
      ∙ made_by-others xs others.1

  -- a longer log has the seat's entries of both parts
  pub own-append : (log more : List (Logged E))
      → map entry_of (made_by stamp number (log ++ more))
      ≡ map entry_of (made_by stamp number log) ++ map entry_of (made_by stamp number more)
  own-append log more =
      ap (map entry_of) (filter-append (λ (x : Logged E). (stamp x.entry).seat == number) log more)
      ∙ map-append entry_of (made_by stamp number log) (made_by stamp number more)

  -- after entries of others they are as before
  pub own-others : (log more : List (Logged E)) → IsOfOthers stamp number more
      → map entry_of (made_by stamp number (log ++ more)) ≡ map entry_of (made_by stamp number log)
  own-others log more others =
      own-append log more
      ∙ ap (λ (l : List (Logged E)). map entry_of (made_by stamp number log) ++ map entry_of l)
      (made_by-others more others)
      ∙ append-nil (map entry_of (made_by stamp number log))

-- what a holder adds is its own
pub made_by-added : (s : Standing FixedDesk Event) (call : Call) (answer : Result Reply Unrecorded)
    → made_by author_of s.number (added_by s call answer) ≡ added_by s call answer
made_by-added s call (Ok reply) =
    ap (λ b. cond b (added_by s call (Ok reply)) []) (eq-eqb s.number s.number refl)
made_by-added s call (Err unrecorded) = refl

-- so is its mark
pub made_by-mark : (s : Standing FixedDesk Event) (made : Bool)
    → made_by author_of s.number (mark_by s made) ≡ mark_by s made
made_by-mark s true = ap (λ b. cond b (mark_by s true) []) (eq-eqb s.number s.number refl)
made_by-mark s false = refl

-- the entry that a call adds to the history
pub history_in-added : (s : Standing FixedDesk Event) (call : Call) (answer : Result Reply Unrecorded)
    → history_in (map entry_of (added_by s call answer)) ≡ entry_by s call answer
history_in-added s call (Ok reply) = refl
history_in-added s call (Err unrecorded) = refl

-- a mark adds none
pub history_in-mark : (s : Standing FixedDesk Event) (made : Bool) → history_in (map entry_of (mark_by s made)) ≡ []
history_in-mark s true = refl
history_in-mark s false = refl

module _ (s w : Standing FixedDesk Event) (more : List (Logged Event)) where
  -- a seat with this log more has these entries of its own more
  pub own_entries-more : own author_of w ≡ map entry_of (made_by author_of s.number (s.log ++ more))
      → own_entries w ≡ own_entries s ++ history_in (map entry_of (made_by author_of s.number more))
  own_entries-more is =
      ap history_in (is ∙ own-append author_of s.number s.log more)
      ∙ history_in-append (own author_of s) (map entry_of (made_by author_of s.number more))

-- the portions of a seat in two lists
pub portions_of-append : (number : ℕ) (xs ys : List Event)
    → portions_of number (portions_in (xs ++ ys))
    ≡ portions_of number (portions_in xs) ++ portions_of number (portions_after (parted_after nothing_yet xs) ys)
portions_of-append number xs ys =
    ap (portions_of number) (portions_after-append nothing_yet xs ys)
    ∙ filter-append (λ (p : Portion). p.seat == number) (portions_in xs)
    (portions_after (parted_after nothing_yet xs) ys)

-- others hand over none of them
pub portions_of-more : (number : ℕ) (xs : List Event) (others : List (Logged Event))
    → IsOfOthers author_of number others
    → portions_of number (portions_in (xs ++ map entry_of others)) ≡ portions_of number (portions_in xs)
portions_of-more number xs others apart =
    portions_of-append number xs (map entry_of others)
    ∙ ap (λ (l : List Portion). portions_of number (portions_in xs) ++ l)
    (portions_of-others number (parted_after nothing_yet xs) others apart)
    ∙ append-nil (portions_of number (portions_in xs))

module _ (t h : Standing FixedDesk Event) (more : List (Logged Event)) where
  -- a seat that entered has seen the history of what it had seen and of what was added
  pub entered_history : seen h ≡ opening_of t.lock ++ map entry_of (t.log ++ more)
      → history_seen h ≡ history_seen t ++ history_in (map entry_of more)
  entered_history is = ap history_in (entered_seen is) ∙ history_in-append (seen t) (map entry_of more)
    where
      entered_seen : seen h ≡ opening_of t.lock ++ map entry_of (t.log ++ more)
          → seen h ≡ seen t ++ map entry_of more
      entered_seen same = same
          ∙ ap (λ (l : List Event). opening_of t.lock ++ l) (map-append entry_of t.log more)
          ∙ sym (append_assoc (opening_of t.lock) (map entry_of t.log) (map entry_of more))

  -- none of it is its own
  pub entered_own : own author_of h ≡ map entry_of (made_by author_of t.number (t.log ++ more))
      → IsOfOthers author_of t.number more → own_entries h ≡ own_entries t
  entered_own is others = ap history_in (is ∙ own-others author_of t.number t.log more others)

  -- nor did it hand over any of it
  pub entered_portions : seen h ≡ opening_of t.lock ++ map entry_of (t.log ++ more) → h.number ≡ t.number
      → IsOfOthers author_of t.number more → own_portions h ≡ own_portions t
  entered_portions is number others =
      (λ i. portions_of (number i) (portions_in (is i)))
      ∙ ap (λ (l : List Event). portions_of t.number (portions_in l))
      (ap (λ (l : List Event). opening_of t.lock ++ l) (map-append entry_of t.log more)
      ∙ sym (append_assoc (opening_of t.lock) (map entry_of t.log) (map entry_of more)))
      ∙ portions_of-more t.number (seen t) more others
