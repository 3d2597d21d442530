-- Each step that the table of a running lock lets a seat take is its event of the core.
use Rattle.std.proofs.Common.{◌≡◌, ◌≢◌, ℕ, ◌+◌, ◌%◌, ◌^◌, ◌<◌, ◌≤◌, List, [], ◌∷◌, set, Option, Some, refl, sym, ap}
use Rattle.std.proofs.Common.{◌∙◌, ⊎_elim, arith}
use Rattle.std.specs.Prelude.{slice_index}
use Rattle.std.proofs.lemmas.Bool.{cases_eq}
use Rattle.std.proofs.lemmas.List.{set-get_or}
use Rattle.std.proofs.lemmas.List.Sums.{count_by-le-length}
use mathlib.Core.Option.{some, none}
use lib.ListN.{get_elem?}
use Rattle.atomic_table.specs.Table.{State, Me, step, carried_after}
use Rattle.atomic_table.proofs.Lists.{one_turn}
use Rattle.minislots.specs.declared.stamp.Stamp.{Stamp}
use Rattle.ticket_core.specs.declared.SeatState.TheVariants.{Idle, Waiting, Holding}
use Rattle.ticket_core.specs.declared.Step.TheVariants.{Draw, Look, Enter, Leave}
use Rattle.ticket_core.specs.LockWorld.{LockWorld, state_of, ticket_of, has_ticket, world_after}
use Rattle.ticket_core.proofs.Steps.{world_after-draw, world_after-look, world_after-enter, world_after-leave}
use Rattle.ticket_core.proofs.Turns.{one_holder}
use Rattle.ticket_lock.specs.declared.board.About.{About}
use Rattle.ticket_lock.specs.declared.board.Logged.{Logged}
use Rattle.ticket_lock.specs.declared.board.Part.{Part}
use Rattle.ticket_lock.specs.declared.board.View.{View}
use Rattle.ticket_lock.specs.Rule.{owns, leaves_of, ended_by, PartStands, Stands}
use Rattle.ticket_lock.specs.Row.{place_of}
use Rattle.ticket_lock.specs.Plays.{part_with, part_left, drawn_view, looked_view, entered_view, left_view}
use Rattle.ticket_lock.specs.Plays.{Drawn, Looked, Left}
use Rattle.ticket_lock.specs.Laws.{StepsTo}
use Rattle.ticket_lock.proofs.Sums.{sum_by-pair}
use Rattle.ticket_lock.proofs.OneSeat.{own_part, own_once, once_below-most}
use Rattle.ticket_lock.proofs.Look.{is_served, is_later}
use Rattle.ticket_lock.proofs.Moved.{next_moved, served_moved, state_here, world_is}

module _ {T H E : Type 0} (head : T → H) (entries : T → List E) (stamp : E → Stamp) (a : About H E)
    (holds : State (Option T) (View H E) → Type 0) (w now : LockWorld) (log grown : List (Logged E))
    (s after : State (Option T) (View H E)) (r : Stands head entries stamp a w log s)
    (kept : Stands head entries stamp a now grown after) (id : ℕ) (v : View H E) (p : Part E)
    (only : v.parts ≡ p ∷ []) where
  -- the views after a step that gave the seat this view
  views_after : (c : List (ℕ × Option T)) (word : ℕ) (f : ℕ → ℕ) (told : ℕ → Me (Option T) (View H E) → Type 0)
      (to : StepsTo holds id (v, c) word f told s after) (u : View H E) (d : List (ℕ × Option T))
      → ◌≡◌ {A = Me (Option T) (View H E)} (to.view, carried_after c to.act) (u, d) → after.views ≡ set s.views id u
  views_after c word f told to u d is = ap (λ (z : State (Option T) (View H E)). z.views) to.after_is
      ∙ ap (λ (m : Me (Option T) (View H E)). set s.views id m.0) is

  -- a step by the play of a draw is the core's draw
  pub draw_runs : v.state ≡ Idle
      → StepsTo holds id (v, []) 0 (λ n. (n + 1) % 2 ^ 64) (Drawn stamp (step 1 0 1 0 none) (v, [])) s after
      → world_after w p.number Draw ≡ Some now
  draw_runs idle to =
      let told = to.is_told p only idle in
      let t = told.0 in
      let u = drawn_view v t in
      let views = views_after [] 0 (λ n. (n + 1) % 2 ^ 64) (Drawn stamp (step 1 0 1 0 none) (v, [])) to u [] told.4 in
      let mine = own_part head entries stamp a w log s r id v to.mine p only in
      let next : now.next + v.draws ≡ w.next + (v.draws + 1) =
      next_moved head entries stamp a w now log grown s after r kept id v u p p to.mine only only refl views in
      let served : now.served + leaves_of v ≡ w.served + leaves_of v =
      served_moved head entries stamp a w now log grown s after r kept id v u p p to.mine only only refl views in
      let waits : state_of now p.number ≡ Waiting t =
      state_here head entries stamp a w now log grown s after r kept id v u p p to.mine only only refl views in
      let from : now.served ≤ t = kept.lawful.from_served p.number t (ap ticket_of waits) in
      let below : t < now.next = kept.lawful.below_next p.number t (ap ticket_of waits) in
      let residue : t % 2 ^ 64 ≡ w.next % 2 ^ 64 = sym told.3 ∙ r.words.next in
      let is : t ≡ w.next = one_turn t w.next (2 ^ 64) (omega arith)
      (omega (arith, r.lawful.counted, count_by-le-length has_ticket w.seats, r.sized, r.few)) residue in
      world_after-draw w p.number mine.1.exists (mine.1.state_is ∙ idle)
      ∙ ap Some (world_is head entries stamp a w now log grown s after r kept id v u p p to.mine only only refl views
      w.served (w.next + 1) (Waiting w.next) (omega arith) (omega arith) (ap Waiting is))

  module _ (t : ℕ) (waits : v.state ≡ Waiting t)
      (to : StepsTo holds id (v, []) (place_of t) (λ n. n)
      (Looked stamp head entries (step 1 (place_of t) 0 0 none) (v, [])) s after) where
    mine : (v.about ≡ Some a) × PartStands head entries stamp a w log v.state p
    mine = own_part head entries stamp a w log s r id v to.mine p only

    -- a step by the play of a look that finds another ticket is the core's look
    pub look_runs : ¬ (slice_index s.words (place_of t) ≡ t % 2 ^ 64) → world_after w p.number Look ≡ Some now
    look_runs other =
        let u = looked_view v in
        let views = views_after [] (place_of t) (λ n. n)
        (Looked stamp head entries (step 1 (place_of t) 0 0 none) (v, [])) to u []
        ((to.is_told p t only waits).1 other) in
        let next : now.next + v.draws ≡ w.next + v.draws =
        next_moved head entries stamp a w now log grown s after r kept id v u p p to.mine only only refl views in
        let served : now.served + leaves_of v ≡ w.served + leaves_of v =
        served_moved head entries stamp a w now log grown s after r kept id v u p p to.mine only only refl views in
        let stays : w.seats ≡ set w.seats p.number (Waiting t) =
        sym (set-get_or w.seats p.number Idle) ∙ ap (set w.seats p.number) (mine.1.state_is ∙ waits) in
        world_after-look w p.number mine.1.exists t (mine.1.state_is ∙ waits)
        (is_later head entries stamp a w log s r id v to.mine p only t waits other)
        ∙ ap Some ((λ i. record w { seats = stays i })
        ∙ world_is head entries stamp a w now log grown s after r kept id v u p p to.mine only only refl views
        w.served w.next (Waiting t) (omega arith) (omega arith) waits)

    -- one that finds its own is the core's entry
    pub enter_runs : slice_index s.words (place_of t) ≡ t % 2 ^ 64 → world_after w p.number Enter ≡ Some now
    enter_runs own =
        let told = (to.is_told p t only waits).0 own in
        let u = entered_view v p t told.2 in
        let q = part_with p told.2 in
        let views = views_after [] (place_of t) (λ n. n)
        (Looked stamp head entries (step 1 (place_of t) 0 0 none) (v, [])) to u
        ((0, Some told.3) ∷ []) told.4 in
        let next : now.next + v.draws ≡ w.next + v.draws =
        next_moved head entries stamp a w now log grown s after r kept id v u p q to.mine only refl refl views in
        let served : now.served + leaves_of v ≡ w.served + (p.turns + 0) =
        served_moved head entries stamp a w now log grown s after r kept id v u p q to.mine only refl refl views in
        let turns : leaves_of v ≡ p.turns + 0 = ap (λ (ps : List (Part E)). ended_by ps) only in
        world_after-enter w p.number mine.1.exists t (mine.1.state_is ∙ waits)
        (is_served head entries stamp a w log s r id v to.mine p only t waits own)
        ∙ ap Some (world_is head entries stamp a w now log grown s after r kept id v u p q to.mine only refl refl views
        w.served w.next (Holding t) (omega (arith, served, turns)) (omega arith) refl)

  -- a step by the play of a leave is the core's leave
  pub leave_runs : (t : ℕ) (x : T) → v.state ≡ Holding t
      → StepsTo holds id (v, (0, Some x) ∷ []) (place_of (t + 1)) (λ n. (t + 1) % 2 ^ 64)
      (λ n. Left stamp head entries (step 1 (place_of (t + 1)) ((t + 1) % 2 ^ 64) 0 none) (v, (0, Some x) ∷ [])
      ((t + 1) % 2 ^ 64)) s after
      → world_after w p.number Leave ≡ Some now
  leave_runs t x holding to =
      let told = to.is_told p t x only holding refl in
      let u = left_view v p told.2 in
      let q = part_left p told.2 in
      let views = views_after ((0, Some x) ∷ []) (place_of (t + 1)) (λ n. (t + 1) % 2 ^ 64)
      (λ n. Left stamp head entries (step 1 (place_of (t + 1)) ((t + 1) % 2 ^ 64) 0 none) (v, (0, Some x) ∷ [])
      ((t + 1) % 2 ^ 64)) to u [] told.3 in
      let mine = own_part head entries stamp a w log s r id v to.mine p only in
      let next : now.next + v.draws ≡ w.next + v.draws =
      next_moved head entries stamp a w now log grown s after r kept id v u p q to.mine only refl refl views in
      let served : now.served + leaves_of v ≡ w.served + (p.turns + 1 + 0) =
      served_moved head entries stamp a w now log grown s after r kept id v u p q to.mine only refl refl views in
      let turns : leaves_of v ≡ p.turns + 0 = ap (λ (ps : List (Part E)). ended_by ps) only in
      world_after-leave w p.number mine.1.exists t (mine.1.state_is ∙ holding)
      ∙ ap Some (world_is head entries stamp a w now log grown s after r kept id v u p q to.mine only refl refl views
      (w.served + 1) w.next Idle (omega (arith, served, turns)) (omega arith) refl)

module _ {T H E : Type 0} (head : T → H) (entries : T → List E) (stamp : E → Stamp) (a : About H E) where
  -- two seats of a table under the rule that hold are one
  pub holders_are_one : (w : LockWorld) (log : List (Logged E)) (s : State (Option T) (View H E))
      → Stands head entries stamp a w log s
      → (i j t u : ℕ) (v z : View H E) (p q : Part E) → get_elem? s.views i ≡ some v → get_elem? s.views j ≡ some z
      → v.parts ≡ p ∷ [] → z.parts ≡ q ∷ [] → v.state ≡ Holding t → z.state ≡ Holding u → i ≡ j
  holders_are_one w log s r i j t u v z p q at there only alone holds also = ⊎_elim
      (λ (e : i ≡ j). e)
      (λ (n : i ≢ j).
      let first = own_part head entries stamp a w log s r i v at p only in
      let second = own_part head entries stamp a w log s r j z there q alone in
      let number : q.number ≡ p.number =
      one_holder w r.lawful q.number p.number u t (second.1.state_is ∙ also) (first.1.state_is ∙ holds) in
      let once : owns p.number v ≡ 1 = own_once head entries stamp a w log s r i v at p only in
      let again : owns p.number z ≡ 1 =
      ap (λ (k : ℕ). owns k z) (sym number) ∙ own_once head entries stamp a w log s r j z there q alone in
      let both = sum_by-pair (owns p.number) s.views i j v z at there (λ e. n (sym e)) in
      absurd (omega (arith, once, again, both, r.owned p.number, once_below-most p.number a.seats)))
      (cases_eq i j)
