-- How the world that a table stands for moves where one seat has a new view.
use Rattle.std.proofs.Common.{◌≡◌, ◌≢◌, ℕ, ◌+◌, ◌<◌, ◌≤◌, List, [], ◌∷◌, set, Option, sym, ap, ◌∙◌, ⊎_elim, arith}
use Rattle.std.proofs.Common.{length-set}
use Rattle.std.specs.List.{sum_by}
use Rattle.std.proofs.lemmas.Bool.{cases_eq, cases_lt}
use Rattle.std.proofs.lemmas.Bool.Decides.{nat_tests}
use Rattle.std.proofs.lemmas.List.{ext_get_or, get_or_past, get_or-set_same, get_or-set_other}
use mathlib.Core.Option.{some, some-injective}
use lib.ListN.{get_elem?}
use Rattle.atomic_table.specs.Table.{State}
use Rattle.atomic_table.proofs.Lists.{set_else}
use Rattle.minislots.specs.declared.stamp.Stamp.{Stamp}
use Rattle.ticket_core.specs.declared.SeatState.{SeatState}
use Rattle.ticket_core.specs.declared.SeatState.TheVariants.{Idle}
use Rattle.ticket_core.specs.LockWorld.{LockWorld, state_of}
use Rattle.ticket_lock.specs.declared.board.About.{About}
use Rattle.ticket_lock.specs.declared.board.Logged.{Logged}
use Rattle.ticket_lock.specs.declared.board.Part.{Part}
use Rattle.ticket_lock.specs.declared.board.View.{View}
use Rattle.ticket_lock.specs.Rule.{owns_of, owns, draws_of, leaves_of, once_below, Stands}
use Rattle.ticket_lock.proofs.Sums.{here_set, sum_by-replaced, sum_by-some}
use Rattle.ticket_lock.proofs.OneSeat.{own_part}
use Rattle.ticket_lock.proofs.Numbers.{state_among}

module _ {T H E : Type 0} (head : T → H) (entries : T → List E) (stamp : E → Stamp) (a : About H E)
    (w now : LockWorld) (log grown : List (Logged E)) (s after : State (Option T) (View H E))
    (r : Stands head entries stamp a w log s) (kept : Stands head entries stamp a now grown after)
    (id : ℕ) (v u : View H E) (p q : Part E) (at : get_elem? s.views id ≡ some v) (only : v.parts ≡ p ∷ [])
    (alone : u.parts ≡ q ∷ []) (same : q.number ≡ p.number) (views : after.views ≡ set s.views id u) where
  -- the seat has its new view
  at_after : get_elem? after.views id ≡ some u
  at_after = ap (λ (vs : List (View H E)). get_elem? vs id) views ∙ here_set s.views id v u at

  -- the next ticket moves with its draws
  pub next_moved : now.next + v.draws ≡ w.next + u.draws
  next_moved =
      let drawn : now.next ≡ a.first + sum_by draws_of (set s.views id u) =
      kept.drawn ∙ ap (λ (vs : List (View H E)). a.first + sum_by draws_of vs) views in
      omega (arith, r.drawn, drawn, sum_by-replaced draws_of s.views id v u at)

  -- the ticket served moves with its leaves
  pub served_moved : now.served + leaves_of v ≡ w.served + leaves_of u
  served_moved =
      let left : now.served ≡ a.first + sum_by leaves_of (set s.views id u) =
      kept.left ∙ ap (λ (vs : List (View H E)). a.first + sum_by leaves_of vs) views in
      omega (arith, r.left, left, sum_by-replaced leaves_of s.views id v u at)

  -- the seat is in the state of its new view
  pub state_here : state_of now p.number ≡ u.state
  state_here = ap (state_of now) (sym same)
      ∙ (own_part head entries stamp a now grown after kept id u at_after q alone).1.state_is

  -- another seat's number is that of another view, which stays
  owner_stays : (k : ℕ) → k ≢ p.number → k < a.seats → state_of now k ≡ state_of w k
  owner_stays k other below =
      let is : once_below k a.seats ≡ 1 = grind (arith, nat_tests) in
      let owner = sum_by-some (owns k) s.views (omega (arith, r.owned k, is)) in
      let j = owner.0 in
      let x = owner.1 in
      let there : get_elem? s.views j ≡ some x = owner.2 in
      let has : 0 < owns k x = owner.3 in
      ⊎_elim
      (λ (e : j ≡ id).
      let view : x ≡ v = some-injective x v (sym there ∙ ap (get_elem? s.views) e ∙ at) in
      let none : owns k v ≡ 0 = ap (owns_of k) only ∙ grind (arith, nat_tests) in
      let counted : owns k x ≡ owns k v = ap (owns k) view in
      absurd (omega (arith, none, counted, has)))
      (λ (n : j ≢ id).
      let stays : get_elem? after.views j ≡ some x =
      ap (λ (vs : List (View H E)). get_elem? vs j) views ∙ set_else s.views id j u n ∙ there in
      state_among head entries stamp a now grown x.about x.state k x.parts has (kept.views j x stays)
      ∙ sym (state_among head entries stamp a w log x.about x.state k x.parts has (r.views j x there)))
      (cases_eq j id)

  -- the other seats' states stay
  state_stays : (k : ℕ) → k ≢ p.number → state_of now k ≡ state_of w k
  state_stays k other = ⊎_elim
      (λ (below : k < a.seats). owner_stays k other below)
      (λ (past : a.seats ≤ k). get_or_past now.seats k Idle (omega (arith, kept.sized))
      ∙ sym (get_or_past w.seats k Idle (omega (arith, r.sized))))
      (cases_lt k a.seats)

  -- so the world moves by that seat alone
  pub world_moved : now ≡ record { served = now.served; next = now.next; seats = set w.seats p.number u.state }
  world_moved =
      let mine = own_part head entries stamp a w log s r id v at p only in
      let seats : now.seats ≡ set w.seats p.number u.state = ext_get_or Idle now.seats (set w.seats p.number u.state)
      (kept.sized ∙ sym r.sized ∙ sym (length-set w.seats p.number u.state))
      (λ k below. ⊎_elim
      (λ (e : k ≡ p.number). ap (state_of now) e ∙ state_here
      ∙ sym (get_or-set_same w.seats p.number u.state Idle mine.1.exists)
      ∙ ap (λ (n : ℕ). state_of (record w { seats = set w.seats p.number u.state }) n) (sym e))
      (λ (n : k ≢ p.number). state_stays k n ∙ sym (get_or-set_other w.seats p.number k u.state Idle n))
      (cases_eq k p.number)) in
      λ i. record { served = now.served; next = now.next; seats = seats i }

  -- where the words after are known, so is the world
  pub world_is : (served next : ℕ) (state : SeatState) → now.served ≡ served → now.next ≡ next → u.state ≡ state
      → record { served = served; next = next; seats = set w.seats p.number state } ≡ now
  world_is served next state is_served is_next is_state = sym (world_moved
      ∙ (λ i. record { served = is_served i; next = is_next i; seats = set w.seats p.number (is_state i) }))
