-- All seats in one, and what the table has at the close.
use Rattle.std.proofs.Common.{◌≡◌, ℕ, zero, suc, ◌<◌, List, [], ◌∷◌, ◌++◌, map, length, get_or, set, Bool, false}
use Rattle.std.proofs.Common.{Option, Some, refl}
use Rattle.std.proofs.Common.{sym, ap, ◌∙◌, subst, arith, ◌+◌, option_to_list}
use Rattle.std.specs.Prelude.{◌==◌, if◌then◌else◌}
use Rattle.std.specs.List.{sum_by}
use Rattle.std.proofs.lemmas.List.{length-map}
use Rattle.std.proofs.lemmas.List.Sums.{sum_by-cons}
use mathlib.Core.Option.{some, some-injective}
use lib.ListN.{get_elem?}
use Rattle.atomic_table.specs.Table.{Final, Seen, Joins}
use Rattle.atomic_table.specs.Seated.{TableId}
use Rattle.minislots.specs.declared.stamp.Stamp.{Stamp}
use Rattle.ticket_core.specs.declared.SeatState.{SeatState}
use Rattle.ticket_core.specs.LockWorld.{LockWorld}
use Rattle.ticket_lock.specs.declared.board.About.{About}
use Rattle.ticket_lock.specs.declared.board.Logged.{Logged}
use Rattle.ticket_lock.specs.declared.board.Part.{Part}
use Rattle.ticket_lock.specs.declared.board.View.{View}
use Rattle.ticket_lock.specs.Rule.{head_in, entry_of, about_of, Every, owns_of, once_below, Extends, IsOrdered}
use Rattle.ticket_lock.specs.Rule.{ended_by, PartStands, Ruled}
use Rattle.ticket_lock.specs.Standing.{Lock, Standing, opening_in, first_in, seats_in, seats_of, number_in, log_in}
use Rattle.ticket_lock.specs.Standing.{turns_in, turns_of, standing_of}
use Rattle.ticket_lock.specs.declared.board.Key.{Key}
use Rattle.ticket_lock.specs.Plays.{joined_view, spent_view}
use Rattle.ticket_lock.specs.Tokens.{IsIdle, part_of, IsGathered}
use Rattle.ticket_lock.specs.Calls.{bearers, Closes}
use Rattle.ticket_lock.proofs.Logs.{Every-front}
use Rattle.ticket_lock.proofs.Numbers.{joins, all_idle, all_numbers, all_turns}

-- a fact of each member of two lists is one of each member of the second
pub Every-back : {X : Type 0} (P : X → Type 0) (xs ys : List X) → Every P (xs ++ ys) → Every P ys
Every-back P [] ys every = every
Every-back P (x ∷ xs) ys every = Every-back P xs ys every.1

-- seats have ended the turns that their parts have
ended_by-part_of : {H E : Type 0} (seats : List (Standing H E)) → ended_by (map part_of seats) ≡ sum_by turns_of seats
ended_by-part_of [] = refl
ended_by-part_of (s ∷ ss) = ap (λ (n : ℕ). s.turns + n) (ended_by-part_of ss) ∙ sym (sum_by-cons turns_of s ss)

-- seats have the numbers that their parts have
owns_of-part_of : {H E : Type 0} (k : ℕ) (seats : List (Standing H E)) → owns_of k (map part_of seats) ≡ bearers k seats
owns_of-part_of k [] = refl
owns_of-part_of k (s ∷ ss) = ap (λ (n : ℕ). (if s.number == k then 1 else 0) + n) (owns_of-part_of k ss)

module _ {H E : Type 0} (table : TableId) (u : View H E) (number : ℕ) (idle : IsIdle number u) (s : Standing H E)
    (is : standing_of table u ≡ s) (lock : Lock H E) (own : s.lock ≡ lock) where
  -- a seat of this lock is about what the lock is about
  about_own : u.about ≡ lock.about
  about_own = ap (λ (z : Standing H E). z.lock.about) is ∙ ap (λ (l : Lock H E). l.about) own

  -- its one part is the one that it stands for
  parts_own : u.parts ≡ part_of s ∷ []
  parts_own =
      let p = idle.0.0 in
      let only : u.parts ≡ p ∷ [] = idle.0.1 in
      only ∙ ap (λ (ps : List (Part E)). record { number = number_in ps; log = log_in ps; turns = turns_in ps } ∷ [])
      (sym only)
      ∙ ap (λ (z : Standing H E). part_of z ∷ []) is

  -- one seat is gathered
  pub gather_one : IsGathered lock.about (s ∷ []) u
  gather_one = (about_own, idle.1, parts_own)

  module _ (seats : List (Standing H E)) (v : View H E) (gathered : IsGathered lock.about seats v) where
    -- with one seat more in front, all are
    pub gather_more : IsGathered lock.about (s ∷ seats) (joined_view v u)
    gather_more = (gathered.0, gathered.1, (λ i. parts_own i ++ gathered.2 i))

    -- the join keeps the rule
    pub gather_joins : {T : Type 0} (head : T → H) (entries : T → List E) (stamp : E → Stamp) (a : About H E)
        (id other : ℕ)
        → Joins (Ruled head entries stamp a) id v other u (joined_view v u) spent_view
    gather_joins head entries stamp a id other = joins head entries stamp a id v other u (gathered.0 ∙ sym about_own)
        (gathered.1 ∙ sym idle.1)

module _ {T H E : Type 0} (head : T → H) (entries : T → List E) (stamp : E → Stamp) (a : About H E) where
  -- the closed log goes on from what each seat has seen
  all_seen : (w : LockWorld) (log : List (Logged E)) (about : Option (About H E)) (state : SeatState)
      (seats : List (Standing H E))
      → Every (λ q. (about ≡ Some a) × PartStands head entries stamp a w log state q) (map part_of seats)
      → Every (λ s. Extends stamp s.number s.log log) seats
  all_seen w log about state [] every = tt
  all_seen w log about state (s ∷ seats) every = (every.0.1.seen, all_seen w log about state seats every.1)

  -- what the table has at the close
  pub closes : (lock : Lock H E) (seats : List (Standing H E)) (id : ℕ) (v : View H E) (words : List ℕ)
      (slots : List (Option T))
      → Final (Seen (Ruled head entries stamp a) id v) words slots → IsGathered lock.about seats v → lock.about ≡ Some a
      → length seats ≡ a.seats
      → (x : T) × (get_elem? slots 0 ≡ some (Some x)) × Closes stamp head entries lock seats x
  closes lock seats id v words slots (s, ((w, log, r), at), same_words, deep, kept) gathered about all =
      let whole : length v.parts ≡ a.seats = ap (λ (ps : List (Part E)). length ps) gathered.2
      ∙ length-map seats part_of ∙ all in
      let free = all_idle head entries stamp a w log s r id v at gathered.1 whole in
      let home = r.home free in
      let x = home.0 in (
        x,
        kept 0 (Some x) (ap (λ hs. get_elem? hs 0) home.1),
        record {
          log = log;
          head_is = sym home.2.0 ∙ ap head_in (sym about);
          entries_are = home.2.1 ∙ ap (λ (o : Option (About H E)). opening_in o ++ map entry_of log) (sym about);
          below = w.served;
          ordered = subst (λ (o : Option (About H E)). IsOrdered stamp (first_in o) (seats_in o) log w.served)
              (sym about) r.ordered;
          each = all_seen w log v.about v.state seats
              (subst (Every (λ q. (v.about ≡ Some a) × PartStands head entries stamp a w log v.state q)) gathered.2
              (r.views id v at));
          once = λ k. sym (owns_of-part_of k seats) ∙ ap (owns_of k) (sym gathered.2)
              ∙ all_numbers head entries stamp a w log s r id v at whole k
              ∙ ap (λ (o : Option (About H E)). once_below k (seats_in o)) (sym about);
          turns = all_turns head entries stamp a w log s r id v at whole
              ∙ ap (λ (ps : List (Part E)). a.first + ended_by ps) gathered.2
              ∙ (λ i. first_in (sym about i) + ended_by-part_of seats i);
        },
      )

-- once the one slot is empty, each is
pub all_empty : (filled : List Bool) (k : ℕ) → k < 1 → get_or (set filled 0 false) k false ≡ false
all_empty [] k h = refl
all_empty (b ∷ bs) zero h = refl
all_empty (b ∷ bs) (suc k) h = absurd (omega arith)

-- the last of the members that are left is one of all
pub Every-last : {X : Type 0} (P : X → Type 0) (all left taken rest : List X) (found : Option X) (x : X)
    → all ≡ left ++ taken → left ≡ rest ++ option_to_list found → found ≡ Some x
    → Every P all → P x
Every-last P all left taken rest found x whole items is every =
    let here : Every P left = Every-front P left taken (subst (Every P) whole every) in
    let last : left ≡ rest ++ x ∷ [] = items ∙ ap (λ o. rest ++ option_to_list o) is in
    (Every-back P rest (x ∷ []) (subst (Every P) last here)).0

module _ {T H E : Type 0} (head : T → H) (entries : T → List E) (stamp : E → Stamp) (key : Key T) (table : TableId)
    (lock : Lock H E)
    (is : record { table = table; about = Some (about_of head entries key) } ≡ lock) (seats : List (Standing H E))
    (id : ℕ)
    (v : View H E) (words : List ℕ) (slots : List (Option T))
    (final : Final (Seen (Ruled head entries stamp (about_of head entries key)) id v) words slots)
    (gathered : IsGathered (Some (about_of head entries key)) seats v) (all : length seats ≡ seats_of lock)
    (found : Option T)
    (there : get_elem? slots 0 ≡ some found) where
  -- the value that is found at the close, and what it is
  pub closed_as : (x : T) × (found ≡ Some x) × Closes stamp head entries lock seats x
  closed_as =
      let about : lock.about ≡ Some (about_of head entries key) = ap (λ (l : Lock H E). l.about) (sym is) in
      let told = closes head entries stamp (about_of head entries key) lock seats id v words slots final
      (subst (λ (o : Option (About H E)). IsGathered o seats v) (sym about) gathered) about (all ∙ ap seats_in about) in
      (told.0, some-injective found (Some told.0) (sym there ∙ told.1), told.2)
