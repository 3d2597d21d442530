-- How the history, what was handed over and what is kept go on with more events.
use Rattle.std.proofs.Common.{◌≡◌, ℕ, List, [], ◌∷◌, ◌++◌, map, length, drop, refl, sym, ap, ◌∙◌}
use Rattle.std.proofs.lemmas.List.{append-nil, append_assoc}
use Rattle.minislots.specs.declared.config.Config.{Config}
use Rattle.minislots.specs.declared.stamp.Stamp.{Stamp}
use Rattle.sched_calls.specs.declared.reply.Entry.{Entry}
use Rattle.sched_history.specs.Machine.{Machine, kept_of}
use Rattle.sched_desk.specs.declared.event.Event.{Event}
use Rattle.sched_desk.specs.declared.event.Event.TheVariants.{Recorded, Marked}
use Rattle.sched_desk.specs.Events.{history_in, Parted, nothing_yet, with_entry, all_handed, parted_after}
use Rattle.sched_desk.specs.Events.{handed_in, kept_in, machine_in}

-- the history of events in two parts is those of both
pub history_in-append : (xs ys : List Event) → history_in (xs ++ ys) ≡ history_in xs ++ history_in ys
history_in-append [] ys = refl
history_in-append (Recorded e ∷ xs) ys = ap (λ (l : List Entry). e ∷ l) (history_in-append xs ys)
history_in-append (Marked stamp ∷ xs) ys = history_in-append xs ys

-- the parts after events in two parts are those after both
pub parted_after-append : (p : Parted) (xs ys : List Event)
    → parted_after p (xs ++ ys) ≡ parted_after (parted_after p xs) ys
parted_after-append p [] ys = refl
parted_after-append p (Recorded e ∷ xs) ys = parted_after-append (with_entry p e) xs ys
parted_after-append p (Marked stamp ∷ xs) ys = parted_after-append (all_handed p) xs ys

-- what was handed over, and then what is kept, is the whole history
whole_after : (p : Parted) (xs : List Event)
    → (parted_after p xs).handed ++ (parted_after p xs).kept ≡ (p.handed ++ p.kept) ++ history_in xs
whole_after p [] = sym (append-nil (p.handed ++ p.kept))
whole_after p (Recorded e ∷ xs) =
    whole_after (with_entry p e) xs
    ∙ ap (λ (l : List Entry). l ++ history_in xs) (sym (append_assoc p.handed p.kept (e ∷ [])))
    ∙ append_assoc (p.handed ++ p.kept) (e ∷ []) (history_in xs)
whole_after p (Marked stamp ∷ xs) =
    whole_after (all_handed p) xs
    ∙ ap (λ (l : List Entry). l ++ history_in xs) (append-nil (p.handed ++ p.kept))

-- so it is after all events
pub whole_history : (events : List Event)
    → (parted_after nothing_yet events).handed ++ kept_in events ≡ history_in events
whole_history events = whole_after nothing_yet events

drop-front : (xs ys : List Entry) → drop (length xs) (xs ++ ys) ≡ ys
drop-front [] ys = refl
drop-front (x ∷ xs) ys = drop-front xs ys

-- what the scheduler of these events keeps
pub kept_of-machine : (c : Config) (events : List Event) → kept_of (machine_in c events) ≡ kept_in events
kept_of-machine c events =
    ap (drop (handed_in events)) (sym (whole_history events))
    ∙ drop-front (parted_after nothing_yet events).handed (kept_in events)

-- an entry more is one of the history
pub history_in-recorded : (events : List Event) (e : Entry)
    → history_in (events ++ Recorded e ∷ []) ≡ history_in events ++ e ∷ []
history_in-recorded events e = history_in-append events (Recorded e ∷ [])

-- and no more is handed over
pub handed_in-recorded : (events : List Event) (e : Entry) → handed_in (events ++ Recorded e ∷ []) ≡ handed_in events
handed_in-recorded events e = ap (λ (p : Parted). length p.handed)
    (parted_after-append nothing_yet events (Recorded e ∷ []))

-- the scheduler with an entry more
pub machine_in-recorded : (c : Config) (events : List Event) (e : Entry)
    → machine_in c (events ++ Recorded e ∷ [])
    ≡ record (machine_in c events) { history = history_in events ++ e ∷ [] }
machine_in-recorded c events e = λ i. record {
  config = c;
  history = history_in-recorded events e i;
  handed = handed_in-recorded events e i;
}

-- a mark is none of the history
pub history_in-marked : (events : List Event) (stamp : Stamp)
    → history_in (events ++ Marked stamp ∷ []) ≡ history_in events
history_in-marked events stamp =
    history_in-append events (Marked stamp ∷ []) ∙ append-nil (history_in events)

-- and all of it is handed over
pub handed_in-marked : (events : List Event) (stamp : Stamp)
    → handed_in (events ++ Marked stamp ∷ []) ≡ length (history_in events)
handed_in-marked events stamp =
    ap (λ (p : Parted). length p.handed) (parted_after-append nothing_yet events (Marked stamp ∷ []))
    ∙ ap length (whole_history events)

-- the scheduler that has handed over what it kept
pub machine_in-marked : (c : Config) (events : List Event) (stamp : Stamp)
    → machine_in c (events ++ Marked stamp ∷ [])
    ≡ record (machine_in c events) { handed = length (history_in events) }
machine_in-marked c events stamp = λ i. record {
  config = c;
  history = history_in-marked events stamp i;
  handed = handed_in-marked events stamp i;
}
