-- What a seat has seen of its own entries.
use Rattle.std.proofs.Common.{◌≡◌, List, [], ◌∷◌, ◌++◌, map, ap, ◌∙◌, sym}
use Rattle.sched_calls.specs.declared.reply.Entry.{Entry}
use Rattle.ticket_lock.specs.Rule.{entry_of, Every}
use Rattle.ticket_lock.specs.Standing.{Lock, Standing, opening_of, seen}
use Rattle.sched_desk.specs.declared.event.Event.{Event}
use Rattle.sched_desk.specs.Events.{history_in}
use Rattle.sched_desk.specs.Desk.{FixedDesk, history_seen, own_entries}
use Rattle.sched_desk.specs.Closed.{entries_of}
use Rattle.sched_desk.proofs.AtClose.{entries_of-log}

-- a fact of what is made of each member is one of the members
pub Every-map : {X Y : Type 0} (P : Y → Type 0) (f : X → Y) (xs : List X) → Every P (map f xs)
    → Every (λ x. P (f x)) xs
Every-map P f [] each = tt
Every-map P f (x ∷ xs) each = (each.0, Every-map P f xs each.1)

-- what a seat has seen, where the lock opened with no entries
pub seen_log : (lock : Lock FixedDesk Event) → opening_of lock ≡ [] → (s : Standing FixedDesk Event) → s.lock ≡ lock
    → history_seen s ≡ history_in (map entry_of s.log)
seen_log lock opening s of_lock =
    ap (λ (l : List Event). history_in (l ++ map entry_of s.log)) (ap opening_of of_lock ∙ opening)

-- the seat's own entries are those of what it has seen
pub own_seen : (lock : Lock FixedDesk Event) → opening_of lock ≡ [] → (s : Standing FixedDesk Event) → s.lock ≡ lock
    → own_entries s ≡ entries_of s.number (history_seen s)
own_seen lock opening s of_lock =
    sym (entries_of-log s.number s.log)
    ∙ ap (entries_of s.number) (sym (seen_log lock opening s of_lock))
