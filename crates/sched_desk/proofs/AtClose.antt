-- The history at the close, from what the lock gives.
use Rattle.std.proofs.Common.{◌≡◌, ◌≢◌, ◌<◌, ◌≤◌, ℕ, zero, suc, List, [], ◌∷◌, ◌++◌, map, get_or, cond, length, drop}
use Rattle.std.proofs.Common.{filter}
use Rattle.std.proofs.Common.{◌==◌, sum, Bool, true, false, Some, refl, sym, ap, ◌∙◌, subst, arith, ◌+◌, sum_by}
use Rattle.std.proofs.Common.{length-append}
use Rattle.std.proofs.Common.{eq-eqb}
use Rattle.std.specs.List.{All, Any, AllByRecursion}
use Rattle.std.proofs.lemmas.List.{append_assoc, map-append}
use Rattle.std.proofs.lemmas.Option.{same_Some}
use mathlib.Core.List.{IsPrefix, cons≢nil}
use Rattle.minislots.specs.declared.config.Config.{Config}
use Rattle.minislots.specs.declared.stamp.Stamp.{Stamp}
use Rattle.logbook.specs.Pages.{Book}
use Rattle.sched_calls.specs.declared.reply.Entry.{Entry}
use Rattle.sched_history.specs.Facts.{FollowsAlways}
use Rattle.sched_history.specs.History.{IsLegal}
use Rattle.sched_history.specs.Machine.{Machine, kept_of}
use Rattle.sched_calls.specs.Reply.{IsEncodable}
use Rattle.ticket_core.specs.declared.TheConstants.{MAX_SEATS}
use Rattle.ticket_lock.specs.declared.board.Logged.{Logged}
use Rattle.ticket_lock.specs.Rule.{Every, Extends, IsStamped, IsOrdered, entry_of}
use Rattle.ticket_lock.specs.Standing.{Lock, Standing, head_of, opening_of, seats_of, turns_of, seen, made_by, own}
use Rattle.ticket_lock.specs.Calls.{Closes}
use Rattle.sched_desk.specs.declared.event.Event.{Event}
use Rattle.sched_desk.specs.declared.event.Event.TheVariants.{Recorded, Marked}
use Rattle.sched_desk.specs.Events.{author_of, history_in, handed_in, kept_in, machine_in, Parted, nothing_yet}
use Rattle.sched_desk.specs.Events.{parted_after}
use Rattle.sched_desk.specs.Events.{with_entry, all_handed}
use Rattle.sched_desk.specs.Portions.{Portion, portions_after, portions_in, portions_of, entries_in, FollowOn}
use Rattle.sched_desk.specs.Desk.{DeskState, FixedDesk, fixed_of, events_of, IsDeskLock, HasPress, IsHeadOf, history_of}
use Rattle.sched_desk.specs.Desk.{history_seen, own_entries, own_portions, machine_of}
use Rattle.sched_desk.specs.Closed.{entries_of, CountsEach, IsCounted, HandsOverAll, ClosesTo}
use Rattle.sched_desk.proofs.Events.{history_in-append, whole_history, kept_of-machine}
use Rattle.sched_desk.proofs.Own.{own-others, portions_of-more}
use Rattle.sched_desk.proofs.Portions.{entries_in-handed, FollowOn-portions}
use Rattle.sched_desk.proofs.Whole.{Every-both, Any-weaker, one_saw_all, makers_are}
use Rattle.sched_desk.proofs.Maps.{HasLawfulMaps-legal}

module _ (number : ℕ) (x : Logged Event) (own : List (Logged Event)) (rest : List Entry) where
  -- the entries of a seat with this event more, where it is the seat's
  first_entry : (y : Event) → x.entry ≡ y → (b : Bool) → (author_of y).seat == number ≡ b
      → entries_of number rest ≡ history_in (map entry_of own)
      → entries_of number (history_in (y ∷ []) ++ rest)
      ≡ history_in (map entry_of (cond b (x ∷ own) own))
  first_entry (Recorded e) is true same tail =
      ap (λ b. cond b (e ∷ entries_of number rest) (entries_of number rest)) same
      ∙ ap (λ (l : List Entry). e ∷ l) tail
      ∙ ap (λ (z : Event). history_in (z ∷ map entry_of own)) (sym is)
  first_entry (Recorded e) is false same tail =
      ap (λ b. cond b (e ∷ entries_of number rest) (entries_of number rest)) same ∙ tail
  first_entry (Marked stamp) is true same tail =
      tail ∙ ap (λ (z : Event). history_in (z ∷ map entry_of own)) (sym is)
  first_entry (Marked stamp) is false same tail = tail

-- the history of an event more
history_in-first : (y : Event) (ys : List Event) → history_in (y ∷ ys) ≡ history_in (y ∷ []) ++ history_in ys
history_in-first (Recorded e) ys = refl
history_in-first (Marked stamp) ys = refl

-- the entries of a seat are those of its own events
pub entries_of-log : (number : ℕ) (log : List (Logged Event))
    → entries_of number (history_in (map entry_of log)) ≡ history_in (map entry_of (made_by author_of number log))
entries_of-log number [] = refl
entries_of-log number (x ∷ xs) =
    ap (entries_of number) (history_in-first x.entry (map entry_of xs))
    ∙ first_entry number x (made_by author_of number xs) (history_in (map entry_of xs)) x.entry refl
    ((author_of x.entry).seat == number) refl (entries_of-log number xs)

module _ (P : ℕ → Type 0) where
  entry_first : (y : Event) (ys : List Event) → P (author_of y).seat
      → AllByRecursion (λ e. P e.stamp.seat) (history_in ys)
      → AllByRecursion (λ e. P e.stamp.seat) (history_in (y ∷ ys))
  entry_first (Recorded e) ys here rest = (here, rest)
  entry_first (Marked stamp) ys here rest = rest

  -- a fact of the seat of each event is one of the seat of each entry
  seats_in-history : (log : List (Logged Event)) → Every (λ x. P (author_of x.entry).seat) log
      → AllByRecursion (λ e. P e.stamp.seat) (history_in (map entry_of log))
  seats_in-history [] every = tt
  seats_in-history (x ∷ xs) every = entry_first x.entry (map entry_of xs) every.0 (seats_in-history xs every.1)

  portion_first : (p : Parted) (y : Event) (ys : List Event) → P (author_of y).seat
      → ((q : Parted) → AllByRecursion (λ z. P z.seat) (portions_after q ys))
      → AllByRecursion (λ z. P z.seat) (portions_after p (y ∷ ys))
  portion_first p (Recorded e) ys here rest = rest (with_entry p e)
  portion_first p (Marked stamp) ys here rest = (here, rest (all_handed p))

  -- and of the seat of each portion
  seats_in-portions : (p : Parted) (log : List (Logged Event)) → Every (λ x. P (author_of x.entry).seat) log
      → AllByRecursion (λ q. P q.seat) (portions_after p (map entry_of log))
  seats_in-portions p [] every = tt
  seats_in-portions p (x ∷ xs) every =
      portion_first p x.entry (map entry_of xs) every.0 (λ q. seats_in-portions q xs every.1)

-- the stamps of an ordered log are of seats that there are
stamped_below : (seats : ℕ) (log : List (Logged Event)) → Every (IsStamped author_of seats) log
    → Every (λ x. (author_of x.entry).seat < seats) log
stamped_below seats [] every = tt
stamped_below seats (x ∷ xs) every = (every.0.1, stamped_below seats xs every.1)

AllByRecursion-weaker : {X : Type 0} (P Q : X → Type 0) → ((x : X) → P x → Q x) → (xs : List X) → AllByRecursion P xs
    → AllByRecursion Q xs
AllByRecursion-weaker P Q weaker [] all = tt
AllByRecursion-weaker P Q weaker (x ∷ xs) all = (weaker x all.0, AllByRecursion-weaker P Q weaker xs all.1)

-- a portion is one of those with its number
portions_of-first : (p : Portion) (ps : List Portion) → portions_of p.seat (p ∷ ps) ≡ p ∷ portions_of p.seat ps
portions_of-first p ps = ap (λ b. cond b (p ∷ portions_of p.seat ps) (portions_of p.seat ps))
    (eq-eqb p.seat p.seat refl)

module _ {X : Type 0} where
  -- a fact of each member is one of the member at a place
  Every-at : (P : X → Type 0) (ys : List X) → Every P ys → (j : ℕ) (y : X) → j < length ys → get_or ys j y ≡ y → P y
  Every-at P [] all j y short here = absurd (omega (arith, short))
  Every-at P (z ∷ zs) all zero y short here = subst P here all.0
  Every-at P (z ∷ zs) all (suc j) y short here = Every-at P zs all.1 j y (omega (arith, short)) here

  -- and of a member that is found
  Every-found : (P : X → Type 0) (Q : X → Type 0) (xs : List X) → Every P xs → Any Q xs → Any (λ x. P x × Q x) xs
  Every-found P Q xs every (k, x, within, is, q) = (k, x, within, is, (Every-at P xs every k x within is, q))

-- no more was handed over than there is
handed_front : (events : List Event) → handed_in events ≤ length (history_in events)
handed_front events =
    let whole : length (history_in events) ≡ handed_in events + length (kept_in events) =
    ap length (sym (whole_history events)) ∙ length-append (parted_after nothing_yet events).handed (kept_in events) in
    omega (arith, whole)

-- nothing was, where there is no portion
none_handed : (events : List Event) → portions_in events ≡ [] → handed_in events ≡ 0
none_handed events none_there =
    ap length (entries_in-handed nothing_yet events) ∙ ap (λ (ps : List Portion). length (entries_in ps)) none_there

-- a portion is a seat's own, so that seat has one
portion_own : (seats : List (Standing FixedDesk Event)) (p : Portion) (ps : List Portion)
    → Any (λ s. ((portions_of s.number (p ∷ ps) ≡ own_portions s) × (own_portions s ≡ [])) × (s.number ≡ p.seat)) seats
    → p ∷ ps ≡ []
portion_own seats p ps (k, s, within, is, here) = absurd (cons≢nil
    (sym (portions_of-first p ps) ∙ ap (λ n. portions_of n (p ∷ ps)) (sym here.1) ∙ here.0.0 ∙ here.0.1))

-- there is none where no seat has one of its own
portions_none : (seats : List (Standing FixedDesk Event)) (ps : List Portion)
    → Every (λ s. portions_of s.number ps ≡ own_portions s) seats
    → AllByRecursion (λ p. Any (λ s. s.number ≡ p.seat) seats) ps → Every (λ s. own_portions s ≡ []) seats → ps ≡ []
portions_none seats [] own others none_own = refl
portions_none seats (p ∷ ps) own others none_own = portion_own seats p ps
    (Every-found (λ s. (portions_of s.number (p ∷ ps) ≡ own_portions s) × (own_portions s ≡ []))
    (λ s. s.number ≡ p.seat) seats
    (Every-both (λ s. portions_of s.number (p ∷ ps) ≡ own_portions s) (λ s. own_portions s ≡ []) seats own none_own)
    others.0)

module _ (c : Config) (lock : Lock FixedDesk Event) (desk : IsDeskLock c lock) (seats : List (Standing FixedDesk Event))
    (x : DeskState)
    (closes : Closes author_of fixed_of events_of lock seats x) where
  abbrev events : List Event
  events = map entry_of closes.log

  abbrev h : List Entry
  h = history_in events

  -- the list is the log
  events_are : x.events ≡ events
  events_are = closes.entries_are ∙ ap (λ (l : List Event). l ++ map entry_of closes.log) desk.opening_is

  -- what does not change of the desk is that of the lock
  fixed_is : fixed_of x ≡ record { config = c; press = desk.press; keeps = desk.keeps }
  fixed_is = same_Some (fixed_of x) (record { config = c; press = desk.press; keeps = desk.keeps })
      (closes.head_is ∙ desk.head_is)

  -- under the configuration of the lock
  pub config_is : x.config ≡ c
  config_is = ap (λ (f : FixedDesk). f.config) fixed_is

  -- with its press
  pub head_is : IsHeadOf c x.press lock
  head_is = (
    x.keeps,
    sym closes.head_is
        ∙ ap (λ k. Some (record { config = k; press = x.press; keeps = x.keeps })) config_is,
  )

  -- the list begins with what a seat has seen
  seen_first : (s : Standing FixedDesk Event) → s.lock ≡ lock → (extends : Extends author_of s.number s.log closes.log)
      → seen s ++ map entry_of extends.0 ≡ events
  seen_first s of_lock extends =
      append_assoc (opening_of s.lock) (map entry_of s.log) (map entry_of extends.0)
      ∙ ap (λ (l : List Event). opening_of s.lock ++ l)
      (sym (map-append entry_of s.log extends.0) ∙ ap (map entry_of) (sym extends.1))
      ∙ ap (λ (k : Lock FixedDesk Event). opening_of k ++ events) of_lock
      ∙ ap (λ (l : List Event). l ++ events) desk.opening_is

  -- so does the history
  begins_with : (s : Standing FixedDesk Event) → s.lock ≡ lock → Extends author_of s.number s.log closes.log
      → IsPrefix (history_seen s) h
  begins_with s of_lock extends = (
    history_in (map entry_of extends.0),
    sym (history_in-append (seen s) (map entry_of extends.0)) ∙ ap history_in (seen_first s of_lock extends),
  )

  -- the entries of a seat in it are its own
  own_in : (s : Standing FixedDesk Event) → Extends author_of s.number s.log closes.log
      → entries_of s.number h ≡ own_entries s
  own_in s extends =
      entries_of-log s.number closes.log
      ∙ ap (λ (l : List (Logged Event)). history_in (map entry_of (made_by author_of s.number l))) extends.1
      ∙ ap history_in (own-others author_of s.number s.log extends.0 extends.2)

  -- and so are its portions
  portions_own : (s : Standing FixedDesk Event) → s.lock ≡ lock → Extends author_of s.number s.log closes.log
      → portions_of s.number (portions_in events) ≡ own_portions s
  portions_own s of_lock extends =
      ap (λ (l : List Event). portions_of s.number (portions_in l)) (sym (seen_first s of_lock extends))
      ∙ portions_of-more s.number (seen s) extends.0 extends.2

  all_begin : (some_seats : List (Standing FixedDesk Event)) → Every (λ s. s.lock ≡ lock) some_seats
      → Every (λ s. Extends author_of s.number s.log closes.log) some_seats
      → Every (λ s. IsPrefix (history_seen s) h) some_seats
  all_begin [] of_lock each = tt
  all_begin (s ∷ ss) of_lock each = (begins_with s of_lock.0 each.0, all_begin ss of_lock.1 each.1)

  all_own : (some_seats : List (Standing FixedDesk Event))
      → Every (λ s. Extends author_of s.number s.log closes.log) some_seats
      → Every (λ s. entries_of s.number h ≡ own_entries s) some_seats
  all_own [] each = tt
  all_own (s ∷ ss) each = (own_in s each.0, all_own ss each.1)

  all_portions : (some_seats : List (Standing FixedDesk Event)) → Every (λ s. s.lock ≡ lock) some_seats
      → Every (λ s. Extends author_of s.number s.log closes.log) some_seats
      → Every (λ s. portions_of s.number (portions_in events) ≡ own_portions s) some_seats
  all_portions [] of_lock each = tt
  all_portions (s ∷ ss) of_lock each = (portions_own s of_lock.0 each.0, all_portions ss of_lock.1 each.1)

  -- each entry's number is below 64
  pub seats_few : AllByRecursion (λ e. e.stamp.seat < MAX_SEATS) h
  seats_few = AllByRecursion-weaker (λ e. e.stamp.seat < seats_of lock) (λ e. e.stamp.seat < MAX_SEATS)
      (λ e below. let few = desk.few in omega arith) h
      (seats_in-history (λ n. n < seats_of lock) closes.log
      (stamped_below (seats_of lock) closes.log closes.ordered.1))

  -- some seat has seen all of it
  whole : Every (λ s. s.lock ≡ lock) seats → Any (λ s. history_seen s ≡ h) seats
  whole of_lock = Any-weaker (λ s. (s.lock ≡ lock) × (closes.log ≡ s.log)) (λ s. history_seen s ≡ h)
      (λ s here. ap history_in
      (ap (λ (k : Lock FixedDesk Event). opening_of k ++ map entry_of s.log) here.0
      ∙ ap (λ (l : List Event). l ++ map entry_of s.log) desk.opening_is
      ∙ ap (map entry_of) (sym here.1)))
      seats
      (one_saw_all author_of (seats_of lock) seats closes.once (λ s. s.lock ≡ lock) desk.some closes.log
      closes.ordered.1
      (Every-both (λ s. s.lock ≡ lock) (λ s. Extends author_of s.number s.log closes.log) seats of_lock closes.each))

  -- each event is of one of the seats
  of_one : Every (λ y. Any (λ s. s.number ≡ (author_of y.entry).seat) seats) closes.log
  of_one = makers_are author_of (seats_of lock) seats closes.once closes.log closes.ordered.1

  -- what the seats handed over is the front of it
  hands_over_all : Every (λ s. s.lock ≡ lock) seats → HandsOverAll seats h (handed_in events) (portions_in events)
  hands_over_all of_lock = record {
    places = FollowOn-portions nothing_yet events;
    all = (λ i. sym (entries_in-handed nothing_yet events) i ++ kept_of-machine c events i) ∙ whole_history events;
    own_are = all_portions seats of_lock closes.each;
    no_other = seats_in-portions (λ n. Any (λ s. s.number ≡ n) seats) nothing_yet closes.log of_one;
  }

  -- all of it
  pub closes_to : Every (λ s. s.lock ≡ lock) seats → (m : Machine) → m ≡ machine_of x → IsLegal m.config m.history
      → length (kept_of m) ≤ m.config.calls → AllByRecursion (λ e. IsEncodable e.reply) m.history
      → FollowsAlways m.config m.history → (counts : List ℕ) → IsCounted counts (history_of x)
      → (x.keeps ≡ true → handed_in x.events ≡ 0) → ClosesTo c lock seats m.history m.handed counts
  closes_to of_lock m is legal within encodable facts counts counted keeping =
      let here : m ≡ machine_in c events = is ∙ (λ i. machine_in (config_is i) (events_are i)) in
      let lawful : IsLegal c h = subst (λ (y : Machine). IsLegal y.config y.history) here legal in
      let count : IsCounted counts h = subst (IsCounted counts) (ap history_in events_are) counted in
      let handed = hands_over_all of_lock in
      subst (λ (y : Machine). ClosesTo c lock seats y.history y.handed counts) (sym here) (record {
        press = x.press;
        keeps = x.keeps;
        log = closes.log;
        closes = subst (Closes author_of fixed_of events_of lock seats)
            (λ i. record { config = config_is i; press = x.press; keeps = x.keeps; events = events_are i }) closes;
        legal = lawful;
        maps = HasLawfulMaps-legal c h lawful;
        within = subst (λ (y : Machine). length (kept_of y) ≤ y.config.calls) here within;
        encodable = subst (λ (y : Machine). AllByRecursion (λ e. IsEncodable e.reply) y.history) here encodable;
        facts = subst (λ (y : Machine). FollowsAlways y.config y.history) here facts;
        begins = all_begin seats of_lock closes.each;
        whole = whole of_lock;
        below = closes.below;
        in_order = (
          refl,
          subst (λ n. IsOrdered author_of n (seats_of lock) closes.log closes.below) desk.first_is closes.ordered,
        );
        turns = closes.turns ∙ ap (λ n. n + sum_by turns_of seats) desk.first_is ∙ omega arith;
        own_are = all_own seats closes.each;
        no_other = seats_in-history (λ n. Any (λ s. s.number ≡ n) seats) closes.log of_one;
        counts_are = count.each;
        total = count.total seats_few;
        handed_is = refl;
        front = handed_front events;
        portions = handed;
        keeping = λ keeps. ap handed_in (sym events_are) ∙ keeping keeps;
        unmarked = λ none_own. none_handed events (portions_none seats (portions_in events) handed.own_are
            handed.no_other none_own);
      })

-- nothing was handed over of a scheduler that was closed, where its desk keeps its whole history
pub keeps_nothing_handed : (c : Config) (lock : Lock FixedDesk Event) (seats : List (Standing FixedDesk Event))
    (press : Book) (keeps : Bool) → HasPress c press keeps lock → (h : List Entry) (handed : ℕ) (counts : List ℕ)
    → ClosesTo c lock seats h handed counts → keeps ≡ true → handed ≡ 0
keeps_nothing_handed c lock seats press keeps has h handed counts closed is =
    let same = same_Some (record { config = c; press = closed.press; keeps = closed.keeps })
    (record { config = c; press = press; keeps = keeps }) (closed.closes.head_is ∙ has) in
    closed.keeping (ap (λ (f : FixedDesk). f.keeps) same ∙ is)
