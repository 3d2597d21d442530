-- A draw keeps the rule, and is the core's.
use Rattle.std.proofs.Common.{◌≡◌, ◌≢◌, ℕ, ◌+◌, ◌%◌, ◌^◌, ◌<◌, List, [], ◌∷◌, get_or, set, Option, Some, refl, sym, ap}
use Rattle.std.proofs.Common.{◌∙◌, subst}
use Rattle.std.proofs.Common.{⊎_elim, arith, length-set}
use Rattle.std.specs.Prelude.{slice_index}
use Rattle.std.proofs.lemmas.List.{get_or-set_same, get_or-set_other}
use mathlib.Core.Option.{some, none}
use lib.ListN.{get_elem?}
use Rattle.atomic_table.specs.Table.{State, step, keeps, Allows}
use Rattle.minislots.specs.declared.stamp.Stamp.{Stamp}
use Rattle.ticket_core.specs.declared.SeatState.TheVariants.{Idle, Waiting, Holding}
use Rattle.ticket_core.specs.declared.Step.TheVariants.{Draw}
use Rattle.ticket_core.specs.LockWorld.{LockWorld, state_of, world_after, Holds}
use Rattle.ticket_core.proofs.Seats.{get_or-set_cases}
use Rattle.ticket_core.proofs.Lawful.{IsLawful-draw}
use Rattle.ticket_core.proofs.Steps.{world_after-draw}
use Rattle.ticket_lock.specs.declared.board.About.{About}
use Rattle.ticket_lock.specs.declared.board.Logged.{Logged}
use Rattle.ticket_lock.specs.declared.board.Part.{Part}
use Rattle.ticket_lock.specs.declared.board.View.{View}
use Rattle.ticket_lock.specs.Rule.{Every, PartStands, Stands, Ruled}
use Rattle.ticket_lock.specs.Plays.{drawn_view, Drawn}
use Rattle.ticket_lock.proofs.Logs.{IsOrdered-seen, IsOrdered-wider}
use Rattle.ticket_lock.proofs.OneSeat.{own_part, stands_after}
use Rattle.ticket_lock.proofs.Row.{WordsStand-drawn}

-- the world after a draw of this seat
abbrev pub drawn_world : LockWorld → ℕ → LockWorld
drawn_world w number = record w { next = w.next + 1; seats = set w.seats number (Waiting w.next) }

module _ {T H E : Type 0} (head : T → H) (entries : T → List E) (stamp : E → Stamp) (a : About H E)
    (w : LockWorld) (log : List (Logged E)) (s : State (Option T) (View H E)) (r : Stands head entries stamp a w log s)
    (id : ℕ) (v : View H E) (at : get_elem? s.views id ≡ some v) (p : Part E) (only : v.parts ≡ p ∷ [])
    (idle : v.state ≡ Idle) where
  part : PartStands head entries stamp a w log v.state p
  part = (own_part head entries stamp a w log s r id v at p only).1

  is_idle : state_of w p.number ≡ Idle
  is_idle = part.state_is ∙ idle

  -- who holds after a draw held before
  held_before : (j t : ℕ) → Holds (drawn_world w p.number) j t → Holds w j t
  held_before j t h = ⊎_elim
      (λ (c : (j ≡ p.number) × (get_or (set w.seats p.number (Waiting w.next)) j Idle ≡ Waiting w.next)).
      let e : Waiting w.next ≡ Holding t = sym c.1 ∙ h in absurd (cc))
      (λ (c : (j ≢ p.number) × (get_or (set w.seats p.number (Waiting w.next)) j Idle ≡ get_or w.seats j Idle)).
      sym c.1 ∙ h)
      (get_or-set_cases w.seats p.number (Waiting w.next) part.exists j)

  -- and who held holds
  held_after : (j t : ℕ) → Holds w j t → Holds (drawn_world w p.number) j t
  held_after j t h = ⊎_elim
      (λ (c : (j ≡ p.number) × (get_or (set w.seats p.number (Waiting w.next)) j Idle ≡ Waiting w.next)).
      let e : Idle ≡ Holding t = sym is_idle ∙ ap (state_of w) (sym c.0) ∙ h in absurd (cc))
      (λ (c : (j ≢ p.number) × (get_or (set w.seats p.number (Waiting w.next)) j Idle ≡ get_or w.seats j Idle)).
      c.1 ∙ h)
      (get_or-set_cases w.seats p.number (Waiting w.next) part.exists j)

  -- the part of the seat that drew
  part_drawn : PartStands head entries stamp a (drawn_world w p.number) log (Waiting w.next) p
  part_drawn = record {
    exists = subst (λ (n : ℕ). p.number < n) (sym (length-set w.seats p.number (Waiting w.next))) part.exists;
    state_is = get_or-set_same w.seats p.number (Waiting w.next) Idle part.exists;
    seen = part.seen;
    holds = λ t e. absurd (cc);
  }

  -- the table after the draw stands for the core's world after it
  pub draw_is_the_cores : (world_after w p.number Draw ≡ Some (drawn_world w p.number))
      × Stands head entries stamp a (drawn_world w p.number) log
      record {
        words = set s.words 0 ((slice_index s.words 0 + 1) % 2 ^ 64);
        homes = s.homes;
        views = set s.views id (drawn_view v w.next);
      }
  draw_is_the_cores = (
    world_after-draw w p.number part.exists is_idle,
    stands_after head entries stamp a w log s r id v at p only (drawn_world w p.number) log _ s.homes
        (drawn_view v w.next)
        (IsLawful-draw w p.number r.lawful part.exists is_idle)
        (length-set w.seats p.number (Waiting w.next))
        (WordsStand-drawn w (drawn_world w p.number) s.words r.words refl refl)
        (omega arith) refl (λ k. refl) refl r.ordered
        (λ j n. get_or-set_other w.seats p.number j (Waiting w.next) Idle n)
        (λ j seen n e. e)
        (λ j t n h. refl)
        (subst (λ (ps : List (Part E)). Every
        (λ q. (v.about ≡ Some a) × PartStands head entries stamp a (drawn_world w p.number) log (Waiting w.next) q) ps)
        (sym only) (((own_part head entries stamp a w log s r id v at p only).0, part_drawn), tt))
        (λ free. r.home (λ k t h. free k t (held_after k t h)))
        (λ k t h. r.out k t (held_before k t h)),
  )

-- what the table asks of a draw
pub draws : {T H E : Type 0} (head : T → H) (entries : T → List E) (stamp : E → Stamp) (a : About H E)
    (slots id : ℕ) (v : View H E) (c : List (ℕ × Option T)) (p : Part E) → v.parts ≡ p ∷ [] → v.state ≡ Idle
    → Allows (Ruled head entries stamp a) slots id (v, c) 0 (λ n. (n + 1) % 2 ^ 64)
    (Drawn stamp (step 0 0 0 0 none) (v, c))
draws head entries stamp a slots id v c p only idle s (w, log, r) deep at fits = (
  drawn_view v w.next,
  keeps,
  tt,
  (drawn_world w p.number, log, (draw_is_the_cores head entries stamp a w log s r id v at p only idle).1),
  λ q only_q idle_q. let mine = own_part head entries stamp a w log s r id v at q only_q in (
    w.next,
    a,
    mine.0,
    r.words.next,
    refl,
    IsOrdered-seen stamp a.first a.seats q.number q.log log w.next mine.1.seen
        (IsOrdered-wider stamp a.first a.seats log w.served w.next (omega (arith, r.lawful.counted)) r.ordered),
  ),
)
