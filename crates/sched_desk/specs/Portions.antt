-- What the seats of a desk handed over: portions of its history.
use Rattle.std.specs.Prelude.{◌≡◌, ℕ, ◌+◌, List, [], ◌∷◌, ◌++◌, length, filter, ◌==◌}
use Rattle.sched_calls.specs.declared.reply.Entry.{Entry}
use Rattle.sched_desk.specs.declared.event.Event.{Event}
use Rattle.sched_desk.specs.declared.event.Event.TheVariants.{Recorded, Marked}
use Rattle.sched_desk.specs.Events.{Parted, nothing_yet, with_entry, all_handed}

-- entries that a seat with this number handed over or let go of at once, and the place of the first of them in the
-- whole history
pub record Portion : Type 0 where
  pub seat : ℕ
  pub first : ℕ
  pub entries : List Entry

-- what is kept, as a portion of the seat with this number
abbrev pub portion_of : ℕ → Parted → Portion
portion_of number p = record { seat = number; first = length p.handed; entries = p.kept }

-- the portions of these events, after a history in these parts
abbrev pub portions_after : Parted → List Event → List Portion
portions_after p [] = []
portions_after p (Recorded e ∷ more) = portions_after (with_entry p e) more
portions_after p (Marked stamp ∷ more) = portion_of stamp.seat p ∷ portions_after (all_handed p) more

-- all portions of these events, in their order
abbrev pub portions_in : List Event → List Portion
portions_in events = portions_after nothing_yet events

-- those of the seat with this number
abbrev pub portions_of : ℕ → List Portion → List Portion
portions_of number portions = filter (λ p. p.seat == number) portions

-- the entries of portions, one after the other
abbrev pub entries_in : List Portion → List Entry
entries_in [] = []
entries_in (p ∷ more) = p.entries ++ entries_in more

-- the first portion has this place, and each other begins where the one before it ends
abbrev pub FollowOn : ℕ → List Portion → Type 0
FollowOn place [] = Unit {0}
FollowOn place (p ∷ more) = (p.first ≡ place) × FollowOn (place + length p.entries) more
