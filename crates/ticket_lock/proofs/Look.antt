-- A load of the word served keeps the rule: it is the core's entry or the core's look.
use Rattle.std.proofs.Common.{◌≡◌, ◌≢◌, ℕ, ◌%◌, ◌^◌, ◌<◌, ◌≤◌, List, [], ◌∷◌, ◌++◌, length, set, Option, Some, refl}
use Rattle.std.proofs.Common.{sym, ap, ◌∙◌, ◌+◌, subst, ⊎_elim, arith, length-set}
use Rattle.std.specs.Prelude.{slice_index}
use Rattle.std.proofs.lemmas.List.{get_or-set_same, get_or-set_other, set-get_or}
use Rattle.std.proofs.lemmas.Bool.{cases_eq}
use mathlib.Core.Option.{some, none}
use lib.ListN.{get_elem?}
use Rattle.atomic_table.specs.Table.{State, Me, step, keeps, takes, Allows}
use Rattle.minislots.specs.declared.stamp.Stamp.{Stamp}
use Rattle.ticket_core.specs.declared.SeatState.TheVariants.{Idle, Waiting, Holding}
use Rattle.ticket_core.specs.declared.Step.TheVariants.{Enter, Look}
use Rattle.ticket_core.specs.LockWorld.{LockWorld, state_of, world_after, ticket_of, Holds}
use Rattle.ticket_core.proofs.Lawful.{IsLawful-enter}
use Rattle.ticket_core.proofs.Steps.{world_after-enter, world_after-look}
use Rattle.ticket_core.proofs.Turns.{none_holds}
use Rattle.ticket_lock.specs.declared.board.About.{About}
use Rattle.ticket_lock.specs.declared.board.Logged.{Logged}
use Rattle.ticket_lock.specs.declared.board.Part.{Part}
use Rattle.ticket_lock.specs.declared.board.View.{View}
use Rattle.ticket_lock.specs.Rule.{Every, owns_of, ended_by, Extends, IsOrdered, IsJournal, PartStands, ViewStands}
use Rattle.ticket_lock.specs.Rule.{Stands, Ruled}
use Rattle.ticket_lock.specs.Row.{place_of, WordsStand}
use Rattle.ticket_lock.specs.Plays.{part_with, looked_view, entered_view, Looked}
use Rattle.ticket_lock.proofs.Logs.{Extends-self}
use Rattle.ticket_lock.proofs.OneSeat.{own_part, stands_after}
use Rattle.ticket_lock.proofs.Row.{place_of-residue, WordsStand-same, WordsStand-tell}

-- the world after this seat has entered
abbrev pub entered_world : LockWorld → ℕ → ℕ → LockWorld
entered_world w number t = record w { seats = set w.seats number (Holding t) }

module _ {T H E : Type 0} (head : T → H) (entries : T → List E) (stamp : E → Stamp) (a : About H E)
    (w : LockWorld) (log : List (Logged E)) (s : State (Option T) (View H E)) (r : Stands head entries stamp a w log s)
    (id : ℕ) (v : View H E) (at : get_elem? s.views id ≡ some v) (p : Part E) (only : v.parts ≡ p ∷ []) (t : ℕ)
    (waits : v.state ≡ Waiting t) where
  mine : (v.about ≡ Some a) × PartStands head entries stamp a w log v.state p
  mine = own_part head entries stamp a w log s r id v at p only

  is_waiting : state_of w p.number ≡ Waiting t
  is_waiting = mine.1.state_is ∙ waits

  -- a load leaves the words as they are
  same_words : WordsStand w (set s.words (place_of t) (slice_index s.words (place_of t)))
  same_words = subst (WordsStand w) (sym (set-get_or s.words (place_of t) 0)) r.words

  -- the seat finds its ticket exactly where it is served
  told : (slice_index s.words (place_of t) ≡ t % 2 ^ 64 → t ≡ w.served)
      × (t ≡ w.served → slice_index s.words (place_of t) ≡ t % 2 ^ 64)
  told = WordsStand-tell w s.words r.words r.lawful (omega (arith, r.sized, r.few)) p.number t is_waiting

  -- the ticket in flight with the residue found is the served one
  pub is_served : slice_index s.words (place_of t) ≡ t % 2 ^ 64 → t ≡ w.served
  is_served = told.0

  -- with another residue found, an earlier ticket is served
  pub is_later : ¬ (slice_index s.words (place_of t) ≡ t % 2 ^ 64) → w.served < t
  is_later other =
      let from : w.served ≤ t = r.lawful.from_served p.number t (ap ticket_of is_waiting) in
      ⊎_elim
      (λ (e : t ≡ w.served). absurd (other (told.1 e)))
      (λ (n : t ≢ w.served). omega arith)
      (cases_eq t w.served)

  -- the table after the look stands for the core's world after it
  pub look_is_the_cores : ¬ (slice_index s.words (place_of t) ≡ t % 2 ^ 64) → (world_after w p.number Look ≡ Some w)
      × Stands head entries stamp a w log
      record {
        words = set s.words (place_of t) (slice_index s.words (place_of t));
        homes = s.homes;
        views = set s.views id (looked_view v);
      }
  look_is_the_cores other = (
    world_after-look w p.number mine.1.exists t is_waiting (is_later other),
    stands_after head entries stamp a w log s r id v at p only w log _ s.homes (looked_view v)
        r.lawful refl (WordsStand-same w _ _ same_words refl refl) refl refl (λ k. refl) refl r.ordered
        (λ j n. refl) (λ j seen n e. e) (λ j u n h. refl) (r.views id v at) r.home r.out,
  )

  module _ (served : t ≡ w.served) where
    -- nobody holds before the entry
    free : (k u : ℕ) → Holds w k u → ⊥
    free = none_holds w r.lawful p.number t is_waiting served

    -- so the value is at home
    pub at_home : (x : T) × (s.homes ≡ some (Some x) ∷ []) × IsJournal head entries a log x
    at_home = r.home free

    -- the part of the seat that entered
    part_entered : (more : List (Logged E)) → log ≡ p.log ++ more
        → PartStands head entries stamp a (entered_world w p.number t) log (Holding t) (part_with p more)
    part_entered more is = record {
      exists = subst (λ (n : ℕ). p.number < n) (sym (length-set w.seats p.number (Holding t))) mine.1.exists;
      state_is = get_or-set_same w.seats p.number (Holding t) Idle mine.1.exists;
      seen = subst (λ (l : List (Logged E)). Extends stamp p.number l log) is (Extends-self stamp p.number log);
      holds = λ u e. sym is;
    }

    -- the table after the entry stands for the core's world after it
    pub entry_is_the_cores : (more : List (Logged E)) → log ≡ p.log ++ more
        → (world_after w p.number Enter ≡ Some (entered_world w p.number t))
        × Stands head entries stamp a (entered_world w p.number t) log
        record {
          words = set s.words (place_of t) (slice_index s.words (place_of t));
          homes = set s.homes 0 none;
          views = set s.views id (entered_view v p t more);
        }
    entry_is_the_cores more is =
        let emptied : set s.homes 0 none ≡ none ∷ [] = ap (λ hs. set hs 0 none) at_home.1 in (
          world_after-enter w p.number mine.1.exists t is_waiting served,
          stands_after head entries stamp a w log s r id v at p only (entered_world w p.number t) log _
              (set s.homes 0 none)
              (entered_view v p t more)
              (IsLawful-enter w p.number r.lawful mine.1.exists t is_waiting served)
              (length-set w.seats p.number (Holding t))
              (WordsStand-same w _ _ same_words refl refl) refl
              (ap (λ (ps : List (Part E)). w.served + ended_by ps) only)
              (λ k. sym (ap (owns_of k) only))
              (sym (ap (λ (ps : List (Part E)). length ps) only))
              r.ordered
              (λ j n. get_or-set_other w.seats p.number j (Holding t) Idle n)
              (λ j seen n e. e)
              (λ j u n h. refl)
              ((mine.0, part_entered more is), tt)
              (λ nobody. absurd (nobody p.number t (get_or-set_same w.seats p.number (Holding t) Idle mine.1.exists)))
              (λ k u h. emptied),
        )

-- after an entry the slot is with the seat
pub has_entered : {T H E : Type 0} (head : T → H) (entries : T → List E) (stamp : E → Stamp)
    (before after : Me (Option T) (View H E)) (p : Part E) (t found : ℕ) → before.0.parts ≡ p ∷ []
    → before.0.state ≡ Waiting t → before.1 ≡ [] → found ≡ t % 2 ^ 64
    → Looked stamp head entries (step 0 0 0 0 none) before found after
    → (o : Option T) × (after.1 ≡ (0, o) ∷ [])
has_entered head entries stamp before after p t found only waits none_held same told =
    let did = (told p t only waits).0 same in (
      Some did.3,
      ap (λ (m : Me (Option _) (View _ _)). m.1) did.4
          ∙ ap (λ (c : List (ℕ × Option _)). (0, Some did.3) ∷ c) none_held,
    )

-- what the table asks of a load by a waiting seat
pub looks : {T H E : Type 0} (head : T → H) (entries : T → List E) (stamp : E → Stamp) (a : About H E)
    (slots id : ℕ) (v : View H E) (c : List (ℕ × Option T)) (p : Part E) (t : ℕ) → v.parts ≡ p ∷ []
    → v.state ≡ Waiting t
    → Allows (Ruled head entries stamp a) slots id (v, c) (place_of t) (λ n. n)
    (Looked stamp head entries (step 0 0 0 0 none) (v, c))
looks {T} {H} {E} head entries stamp a slots id v c p t only waits s (w, log, r) deep at fits = ⊎_elim
    (λ (found : slice_index s.words (place_of t) ≡ t % 2 ^ 64).
    let served = is_served head entries stamp a w log s r id v at p only t waits found in
    let home = at_home head entries stamp a w log s r id v at p only t waits served in
    let mine = own_part head entries stamp a w log s r id v at p only in
    let seen = mine.1.seen in (
      entered_view v p t seen.0,
      takes 0 (Some home.0),
      ap (λ hs. get_elem? hs 0) home.1,
      (
        entered_world w p.number t,
        log,
        (entry_is_the_cores head entries stamp a w log s r id v at p only t waits served seen.0 seen.1).1,
      ),
      λ q u only_q waits_q.
          let same_p : p ≡ q = cc in
          let same_t : t ≡ u = cc in (
            (λ e. (
              a,
              mine.0,
              seen.0,
              home.0,
              subst (λ (y : Part E × ℕ). ◌≡◌ {A = Me (Option T) (View H E)}
                  (entered_view v p t seen.0, (0, Some home.0) ∷ c)
                  (entered_view v y.0 y.1 seen.0, (0, Some home.0) ∷ c)) (λ i. (same_p i, same_t i)) refl,
              subst (λ (y : Part E). Rattle.ticket_lock.specs.Rule.IsOfOthers stamp y.number seen.0) same_p seen.2,
              subst (λ (l : List (Logged E)). IsJournal head entries a l home.0)
                  (seen.1 ∙ ap (λ (y : Part E). y.log ++ seen.0) same_p)
                  home.2,
              subst (λ (y : List (Logged E) × ℕ). IsOrdered stamp a.first a.seats y.0 y.1)
                  (λ i. ((seen.1 ∙ ap (λ (y : Part E). y.log ++ seen.0) same_p) i, (sym served ∙ same_t) i)) r.ordered,
            )),
            (λ n. absurd (n (found ∙ ap (λ (k : ℕ). k % 2 ^ 64) same_t))),
          ),
    ))
    (λ (other : ¬ (slice_index s.words (place_of t) ≡ t % 2 ^ 64)). (
      looked_view v,
      keeps,
      tt,
      (w, log, (look_is_the_cores head entries stamp a w log s r id v at p only t waits other).1),
      λ q u only_q waits_q.
          let same_t : t ≡ u = cc in
          ((λ e. absurd (other (e ∙ ap (λ (k : ℕ). k % 2 ^ 64) (sym same_t)))), (λ n. refl)),
    ))
    (cases_eq (slice_index s.words (place_of t)) (t % 2 ^ 64))

-- the same of a load of the word by the ticket's residue
pub looks_at : {T H E : Type 0} (head : T → H) (entries : T → List E) (stamp : E → Stamp) (a : About H E)
    (slots id : ℕ) (v : View H E) (c : List (ℕ × Option T)) (p : Part E) (t word residue : ℕ) → v.parts ≡ p ∷ []
    → v.state ≡ Waiting t → residue ≡ t % 2 ^ 64 → word ≡ place_of residue
    → Allows (Ruled head entries stamp a) slots id (v, c) word (λ n. n)
    (Looked stamp head entries (step 0 0 0 0 none) (v, c))
looks_at head entries stamp a slots id v c p t word residue only waits same at = subst
    (λ (i : ℕ). Allows (Ruled head entries stamp a) slots id (v, c) i (λ n. n)
    (Looked stamp head entries (step 0 0 0 0 none) (v, c)))
    (sym (place_of-residue t) ∙ ap place_of (sym same) ∙ sym at)
    (looks head entries stamp a slots id v c p t only waits)
