-- A leave keeps the rule, and is the core's.
use Rattle.std.proofs.Common.{◌≡◌, ◌≢◌, ℕ, ◌+◌, ◌%◌, ◌^◌, ◌<◌, List, [], ◌∷◌, ◌++◌, map, length, get_or, set, Option}
use Rattle.std.proofs.Common.{Some, None, refl}
use Rattle.std.proofs.Common.{sym, ap, ◌∙◌, subst, ⊎_elim, arith, length-set}
use Rattle.std.proofs.lemmas.List.{get_or-set_same, get_or-set_other, append-nil}
use Rattle.std.proofs.lemmas.Option.{same_Some}
use mathlib.Core.Option.{some, none}
use lib.ListN.{get_elem?}
use Rattle.atomic_table.specs.Table.{State, Me, step, gives, Allows}
use Rattle.minislots.specs.declared.stamp.Stamp.{Stamp}
use Rattle.ticket_core.specs.declared.SeatState.TheVariants.{Idle, Holding}
use Rattle.ticket_core.specs.declared.Step.TheVariants.{Leave}
use Rattle.ticket_core.specs.LockWorld.{LockWorld, state_of, world_after, Holds}
use Rattle.ticket_core.proofs.Seats.{get_or-set_cases}
use Rattle.ticket_core.proofs.Lawful.{IsLawful-leave}
use Rattle.ticket_core.proofs.Steps.{world_after-leave}
use Rattle.ticket_core.proofs.Turns.{one_holder}
use Rattle.ticket_lock.specs.declared.board.About.{About}
use Rattle.ticket_lock.specs.declared.board.Logged.{Logged}
use Rattle.ticket_lock.specs.declared.board.Part.{Part}
use Rattle.ticket_lock.specs.declared.board.View.{View}
use Rattle.ticket_lock.specs.Rule.{head_in, owns_of, ended_by, entry_of, Extends, IsOfOthers, IsOrdered, IsJournal}
use Rattle.ticket_lock.specs.Rule.{PartStands, Stands, Ruled}
use Rattle.ticket_lock.specs.Row.{place_of}
use Rattle.ticket_lock.specs.Standing.{opening_in}
use Rattle.ticket_lock.specs.Plays.{part_left, left_view, IsAdded, MayPut, Left}
use Rattle.ticket_lock.proofs.Logs.{Extends-self, Extends-more, IsOrdered-wider, IsOrdered-push}
use Rattle.ticket_lock.proofs.OneSeat.{own_part, stands_after}
use Rattle.ticket_lock.proofs.Row.{place_of-residue, WordsStand-left}

-- the world after this seat has left
abbrev pub left_world : LockWorld → ℕ → LockWorld
left_world w number = record w { served = w.served + 1; seats = set w.seats number Idle }

-- the value in the slot that was taken last, or None
abbrev value_in : {T : Type 0} → List (ℕ × Option T) → Option T
value_in [] = None
value_in (y ∷ ys) = y.1

module _ {E : Type 0} (stamp : E → Stamp) (number t : ℕ) where
  -- what a holder adds is of others than another seat
  IsAdded-others : (j : ℕ) (more : List (Logged E)) → j ≢ number → IsAdded stamp number t more → IsOfOthers stamp j more
  IsAdded-others j more n added = ⊎_elim
      (λ (e : more ≡ []). subst (IsOfOthers stamp j) (sym e) tt)
      (λ (d : (e : E) × (more ≡ record { entry = e; ticket = t } ∷ [])
      × (stamp e ≡ record { seat = number; ticket = t % 2 ^ 64 })).
      subst (IsOfOthers stamp j) (sym d.1) ((λ same. n (sym same ∙ ap (λ (z : Stamp). z.seat) d.2)), tt))
      added

  -- it is in order behind a log that is in order
  pub IsOrdered-added : (first seats : ℕ) (log more : List (Logged E)) → number < seats
      → IsOrdered stamp first seats log t
      → IsAdded stamp number t more
      → IsOrdered stamp first seats (log ++ more) (t + 1)
  IsOrdered-added first seats log more exists o added = ⊎_elim
      (λ (e : more ≡ []). subst (λ (l : List (Logged E)). IsOrdered stamp first seats l (t + 1))
      (sym (append-nil log) ∙ ap (λ (l : List (Logged E)). log ++ l) (sym e))
      (IsOrdered-wider stamp first seats log t (t + 1) (omega arith) o))
      (λ (d : (e : E) × (more ≡ record { entry = e; ticket = t } ∷ [])
      × (stamp e ≡ record { seat = number; ticket = t % 2 ^ 64 })).
      subst (λ (l : List (Logged E)). IsOrdered stamp first seats (log ++ l) (t + 1)) (sym d.1)
      (IsOrdered-push stamp first seats log (record { entry = d.0; ticket = t }) o
      (ap (λ (z : Stamp). z.ticket) d.2, subst (λ (n : ℕ). n < seats) (sym (ap (λ (z : Stamp). z.seat) d.2)) exists)))
      added

module _ {T H E : Type 0} (head : T → H) (entries : T → List E) (stamp : E → Stamp) (a : About H E)
    (w : LockWorld) (log : List (Logged E)) (s : State (Option T) (View H E)) (r : Stands head entries stamp a w log s)
    (id : ℕ) (v : View H E) (at : get_elem? s.views id ≡ some v) (p : Part E) (only : v.parts ≡ p ∷ []) (t : ℕ)
    (holding : v.state ≡ Holding t)
    (x : T) (may : MayPut stamp head entries v.about p t x) where
  mine : (v.about ≡ Some a) × PartStands head entries stamp a w log v.state p
  mine = own_part head entries stamp a w log s r id v at p only

  is_holding : state_of w p.number ≡ Holding t
  is_holding = mine.1.state_is ∙ holding

  -- the holder has the ticket served
  is_served : t ≡ w.served
  is_served = r.lawful.served_holds p.number t is_holding

  -- and has seen the whole log
  all_seen : p.log ≡ log
  all_seen = mine.1.holds t holding

  -- what was added
  abbrev pub added : List (Logged E)
  added = may.1.0

  -- nobody else holds
  alone : (j u : ℕ) → j ≢ p.number → Holds w j u → ⊥
  alone j u n h = n (one_holder w r.lawful j p.number u t h is_holding)

  -- nobody holds afterwards
  none_after : (j u : ℕ) → Holds (left_world w p.number) j u → ⊥
  none_after j u h = ⊎_elim
      (λ (c : (j ≡ p.number) × (get_or (set w.seats p.number Idle) j Idle ≡ Idle)).
      let e : Idle ≡ Holding u = sym c.1 ∙ h in absurd (cc))
      (λ (c : (j ≢ p.number) × (get_or (set w.seats p.number Idle) j Idle ≡ get_or w.seats j Idle)).
      alone j u c.0 (sym c.1 ∙ h))
      (get_or-set_cases w.seats p.number Idle mine.1.exists j)

  -- the grown log is in order
  pub ordered_after : IsOrdered stamp a.first a.seats (log ++ added) (w.served + 1)
  ordered_after = subst (λ (n : ℕ). IsOrdered stamp a.first a.seats (log ++ added) (n + 1)) is_served
      (IsOrdered-added stamp p.number t a.first a.seats log added
      (subst (λ (n : ℕ). p.number < n) r.sized mine.1.exists)
      (subst (IsOrdered stamp a.first a.seats log) (sym is_served) r.ordered) may.1.2)

  -- the value has the grown log
  pub put_back_is : IsJournal head entries a (log ++ added) x
  put_back_is = (
    sym (ap head_in mine.0) ∙ may.0,
    may.1.1 ∙ ap (λ (y : Option (About H E)). opening_in y ++ map entry_of (p.log ++ added)) mine.0
        ∙ ap (λ (l : List (Logged E)). a.opening ++ map entry_of (l ++ added)) all_seen,
  )

  -- the part of the seat that left
  part_stands_left : PartStands head entries stamp a (left_world w p.number) (log ++ added) Idle (part_left p added)
  part_stands_left = record {
    exists = subst (λ (n : ℕ). p.number < n) (sym (length-set w.seats p.number Idle)) mine.1.exists;
    state_is = get_or-set_same w.seats p.number Idle Idle mine.1.exists;
    seen = subst (λ (l : List (Logged E)). Extends stamp p.number (l ++ added) (log ++ added)) (sym all_seen)
        (Extends-self stamp p.number (log ++ added));
    holds = λ u e. absurd (cc);
  }

  -- the table after the leave stands for the core's world after it
  pub leave_is_the_cores : (world_after w p.number Leave ≡ Some (left_world w p.number))
      × Stands head entries stamp a (left_world w p.number) (log ++ added)
      record {
        words = set s.words (place_of (t + 1)) ((t + 1) % 2 ^ 64);
        homes = set s.homes 0 (some (Some x));
        views = set s.views id (left_view v p added);
      }
  leave_is_the_cores =
      let filled : set s.homes 0 (some (Some x)) ≡ some (Some x) ∷ [] = ap (λ hs. set hs 0 (some (Some x)))
      (r.out p.number t is_holding) in (
        world_after-leave w p.number mine.1.exists t is_holding,
        stands_after head entries stamp a w log s r id v at p only (left_world w p.number) (log ++ added) _
            (set s.homes 0 (some (Some x))) (left_view v p added)
            (IsLawful-leave w p.number r.lawful mine.1.exists t is_holding)
            (length-set w.seats p.number Idle)
            (WordsStand-left w (left_world w p.number) s.words r.words t is_served refl refl)
            refl (omega (arith, ap (λ (ps : List (Part E)). ended_by ps) only))
            (λ k. sym (ap (owns_of k) only))
            (sym (ap (λ (ps : List (Part E)). length ps) only))
            ordered_after
            (λ j n. get_or-set_other w.seats p.number j Idle Idle n)
            (λ j seen n e. Extends-more stamp j seen log added e (IsAdded-others stamp p.number t j added n may.1.2))
            (λ j u n h. absurd (alone j u n h))
            ((mine.0, part_stands_left), tt)
            (λ nobody. (x, filled, put_back_is))
            (λ k u h. absurd (none_after k u h)),
      )

module _ {T H E : Type 0} (head : T → H) (entries : T → List E) (stamp : E → Stamp) (a : About H E)
    (slots id : ℕ) (v : View H E) (p : Part E) (t : ℕ) (x : T) (only : v.parts ≡ p ∷ []) (holding : v.state ≡ Holding t)
    (may : MayPut stamp head entries v.about p t x) where
  -- what the table asks of a leave, with the value in the slot
  leaves_with : Allows (Ruled head entries stamp a) slots id (v, (0, Some x) ∷ []) (place_of (t + 1))
      (λ n. (t + 1) % 2 ^ 64)
      (λ n. Left stamp head entries (step 0 0 0 0 none) (v, (0, Some x) ∷ []) ((t + 1) % 2 ^ 64))
  leaves_with s (w, log, r) deep at fits =
      let mine = own_part head entries stamp a w log s r id v at p only in
      let more = may.1.0 in (
        left_view v p more,
        gives,
        tt,
        (
          left_world w p.number,
          log ++ more,
          (leave_is_the_cores head entries stamp a w log s r id v at p only t holding x may).1,
        ),
        λ q u y only_q holding_q carried.
            let same_p : p ≡ q = cc in
            let same_t : t ≡ u = cc in
            let same_x : x ≡ y = same_Some x y (ap value_in carried) in
            let all_seen : p.log ≡ log = mine.1.holds t holding in
            let served : t ≡ w.served = r.lawful.served_holds p.number t (mine.1.state_is ∙ holding) in
            let back = put_back_is head entries stamp a w log s r id v at p only t holding x may in
            let ordered = ordered_after head entries stamp a w log s r id v at p only t holding x may in
            subst (λ (z : Part E × (ℕ × T)).
            (b : About H E) × (v.about ≡ Some b) × (m : List (Logged E))
            × (◌≡◌ {A = Me (Option T) (View H E)} (left_view v p more, []) (left_view v z.0 m, []))
            × (entries z.1.1 ≡ b.opening ++ map entry_of (z.0.log ++ m)) × IsAdded stamp z.0.number z.1.0 m
            × IsOrdered stamp b.first b.seats (z.0.log ++ m) (z.1.0 + 1)) (λ i. (same_p i, (same_t i, same_x i))) (
              a,
              mine.0,
              more,
              refl,
              subst (λ (l : List (Logged E)). entries x ≡ a.opening ++ map entry_of (l ++ more)) (sym all_seen) back.1,
              may.1.2,
              subst (λ (y : List (Logged E) × ℕ). IsOrdered stamp a.first a.seats (y.0 ++ more) (y.1 + 1))
                  (λ i. (sym all_seen i, sym served i)) ordered,
            ),
      )

  -- what the table asks of a leave, which stores the next ticket by its residue
  pub leaves : (c : List (ℕ × Option T)) → c ≡ (0, Some x) ∷ [] → (word new : ℕ) → word ≡ place_of new
      → new ≡ (t + 1) % 2 ^ 64
      → Allows (Ruled head entries stamp a) slots id (v, c) word (λ n. new)
      (λ n. Left stamp head entries (step 0 0 0 0 none) (v, c) new)
  leaves c e word new at is =
      subst (λ (y : List (ℕ × Option T) × (ℕ × ℕ)).
      Allows (Ruled head entries stamp a) slots id (v, y.0) y.1.0 (λ n. y.1.1)
      (λ n. Left stamp head entries (step 0 0 0 0 none) (v, y.0) y.1.1))
      (λ i. (sym e i, ((sym (place_of-residue (t + 1)) ∙ ap place_of (sym is) ∙ sym at) i, sym is i))) leaves_with
