-- A seat more at the opening and a seat less at the close keep the rule, and where one idle seat has all numbers
-- nobody holds.
use Rattle.std.proofs.Common.{◌≡◌, ◌≢◌, ℕ, ◌+◌, ◌<◌, ◌≤◌, List, [], ◌∷◌, ◌++◌, length, set}
use Rattle.std.proofs.Common.{Option, Some}
use Rattle.std.proofs.Common.{refl, sym, ap, ◌∙◌, subst, ⊎_elim, arith, length-append}
use Rattle.std.specs.List.{sum_by}
use Rattle.std.proofs.lemmas.Bool.{cases_eq, cases_lt}
use Rattle.std.proofs.lemmas.List.{get_or_past}
use Rattle.std.proofs.lemmas.Bool.Decides.{nat_tests}
use Rattle.std.proofs.lemmas.List.Sums.{sum_by_push}
use mathlib.Core.Option.{some}
use lib.ListN.{get_elem?}
use Rattle.atomic_table.specs.Table.{State, Splits, Joins}
use Rattle.atomic_table.proofs.Lists.{at_set, at_snoc, set_else}
use Rattle.minislots.specs.declared.stamp.Stamp.{Stamp}
use Rattle.ticket_core.specs.declared.SeatState.{SeatState}
use Rattle.ticket_core.specs.declared.SeatState.TheVariants.{Idle, Holding}
use Rattle.ticket_core.specs.LockWorld.{LockWorld, state_of, Holds}
use Rattle.ticket_lock.specs.declared.board.About.{About}
use Rattle.ticket_lock.specs.declared.board.Logged.{Logged}
use Rattle.ticket_lock.specs.declared.board.Part.{Part}
use Rattle.ticket_lock.specs.declared.board.View.{View}
use Rattle.ticket_lock.specs.Rule.{Every, owns_of, owns, width, draws_of, leaves_of, once_below, ended_by, PartStands}
use Rattle.ticket_lock.specs.Rule.{ViewStands, Stands, Ruled}
use Rattle.ticket_lock.specs.Plays.{parts_behind, parts_ahead, rest_view, first_part_view, joined_view, spent_view}
use Rattle.ticket_lock.proofs.Logs.{Every-append}
use Rattle.ticket_lock.proofs.Sums.{sum_by-replaced, sum_by-whole}
use Rattle.ticket_lock.proofs.Parts.{owns_of-behind, length-behind, owns_of-append, owns_of-length}
use Rattle.ticket_lock.proofs.Parts.{ended_by-behind, ended_by-append, ended_by-none}

module _ {T H E : Type 0} (head : T → H) (entries : T → List E) (stamp : E → Stamp) (a : About H E) where
  module _ (w : LockWorld) (log : List (Logged E)) (about : Option (About H E)) (state : SeatState) where
    -- a view's part in this state, in a lock that is about this
    abbrev Fits : Part E → Type 0
    Fits q = (about ≡ Some a) × PartStands head entries stamp a w log state q

    -- the parts but the first stand where all do
    behind_stand : (ps : List (Part E)) → Every Fits ps → Every Fits (parts_behind ps)
    behind_stand [] every = tt
    behind_stand (p ∷ ps) every = every.1

    -- and the first does
    ahead_stands : (ps : List (Part E)) → Every Fits ps → Every Fits (parts_ahead ps)
    ahead_stands [] every = tt
    ahead_stands (p ∷ ps) every = (every.0, tt)

    -- a seat whose number is among these is in that state
    pub state_among : (k : ℕ) (ps : List (Part E)) → 0 < owns_of k ps → Every Fits ps → state_of w k ≡ state
    state_among k [] has every = absurd (omega arith)
    state_among k (p ∷ ps) has every = ⊎_elim
        (λ (e : p.number ≡ k). ap (state_of w) (sym e) ∙ every.0.1.state_is)
        (λ (n : p.number ≢ k). state_among k ps (grind (arith, nat_tests)) every.1)
        (cases_eq p.number k)

  -- a new seat with the first number of another keeps the rule
  pub splits : (id : ℕ) (v : View H E) → Splits (Ruled head entries stamp a) id v (rest_view v) (first_part_view v)
  splits id v s (w, log, r) at =
      let rest = rest_view v in
      let new = first_part_view v in
      let sum : (f : View H E → ℕ)
      → sum_by f (set s.views id rest ++ new ∷ []) ≡ sum_by f (set s.views id rest) + f new =
      λ f. sum_by_push f (set s.views id rest) new in (
        w,
        log,
        record {
          lawful = r.lawful;
          sized = r.sized;
          few = r.few;
          words = r.words;
          drawn = omega (arith, r.drawn, sum draws_of, sum_by-replaced draws_of s.views id v rest at);
          left = omega (
            arith,
            r.left,
            sum leaves_of,
            sum_by-replaced leaves_of s.views id v rest at,
            ended_by-behind v.parts,
          );
          owned = λ k. let same : sum_by (owns k) (set s.views id rest ++ new ∷ []) ≡ sum_by (owns k) s.views =
              omega (arith, sum (owns k), sum_by-replaced (owns k) s.views id v rest at, owns_of-behind k v.parts) in
              same ∙ r.owned k;
          counted = omega (
            arith,
            r.counted,
            sum width,
            sum_by-replaced width s.views id v rest at,
            length-behind v.parts,
          );
          ordered = r.ordered;
          views = λ j u e. ⊎_elim
              (λ (was : get_elem? (set s.views id rest) j ≡ some u). ⊎_elim
              (λ (t : (j ≡ id) × (rest ≡ u)). subst (ViewStands head entries stamp a w log) t.1
              (behind_stand w log v.about v.state v.parts (r.views id v at)))
              (λ (t : (j ≢ id) × (get_elem? s.views j ≡ some u)). r.views j u t.1)
              (at_set s.views id j rest u was))
              (λ (same : new ≡ u). subst (ViewStands head entries stamp a w log) same
              (ahead_stands w log v.about v.state v.parts (r.views id v at)))
              (at_snoc (set s.views id rest) new u j e);
          home = r.home;
          out = r.out;
        },
      )

  -- a seat that has the numbers of another too keeps the rule
  pub joins : (id : ℕ) (v : View H E) (other : ℕ) (u : View H E) → v.about ≡ u.about → v.state ≡ u.state
      → Joins (Ruled head entries stamp a) id v other u (joined_view v u) spent_view
  joins id v other u same_about same_state s (w, log, r) at apart there =
      let both = joined_view v u in
      let views = set s.views id both in
      let theirs : get_elem? s.views other ≡ some u = sym (set_else s.views id other both apart) ∙ there in
      let moved : (f : View H E → ℕ) → f both ≡ f v + f u → f spent_view ≡ 0
      → sum_by f (set views other spent_view) ≡ sum_by f s.views =
      λ f more none.
      omega (arith, sum_by-replaced f s.views id v both at, sum_by-replaced f views other u spent_view there) in
      let fits : Every (Fits w log v.about v.state) u.parts =
      subst (λ (y : Option (About H E) × SeatState). Every (Fits w log y.0 y.1) u.parts)
      (λ i. (sym same_about i, sym same_state i))
      (r.views other u theirs) in (
        w,
        log,
        record {
          lawful = r.lawful;
          sized = r.sized;
          few = r.few;
          words = r.words;
          drawn = r.drawn ∙ ap (λ (n : ℕ). a.first + n) (sym (moved draws_of refl refl));
          left = r.left
              ∙ ap (λ (n : ℕ). a.first + n)
              (sym (moved leaves_of (omega (arith, ended_by-append u.parts v.parts)) refl));
          owned = λ k. moved (owns k) (omega (arith, owns_of-append k u.parts v.parts)) refl ∙ r.owned k;
          counted = moved width (omega (arith, length-append u.parts v.parts)) refl ∙ r.counted;
          ordered = r.ordered;
          views = λ j x e. ⊎_elim
              (λ (t : (j ≡ other) × (spent_view ≡ x)). subst (ViewStands head entries stamp a w log) t.1 tt)
              (λ (t : (j ≢ other) × (get_elem? views j ≡ some x)). ⊎_elim
              (λ (m : (j ≡ id) × (both ≡ x)). subst (ViewStands head entries stamp a w log) m.1
              (Every-append (Fits w log v.about v.state) u.parts v.parts fits (r.views id v at)))
              (λ (m : (j ≢ id) × (get_elem? s.views j ≡ some x)). r.views j x m.1)
              (at_set s.views id j both x t.1))
              (at_set views other j spent_view x e);
          home = r.home;
          out = r.out;
        },
      )

  -- a seat that has as many parts as there are seats has each number once
  pub all_numbers : (w : LockWorld) (log : List (Logged E)) (s : State (Option T) (View H E))
      → Stands head entries stamp a w log s
      → (id : ℕ) (v : View H E) → get_elem? s.views id ≡ some v → length v.parts ≡ a.seats
      → (k : ℕ) → owns_of k v.parts ≡ once_below k a.seats
  all_numbers w log s r id v at whole k =
      sym (sum_by-whole width (owns k) (λ u none. omega (arith, owns_of-length k u.parts)) s.views id v at
      (r.counted ∙ sym whole))
      ∙ r.owned k

  -- and it has ended all turns
  pub all_turns : (w : LockWorld) (log : List (Logged E)) (s : State (Option T) (View H E))
      → Stands head entries stamp a w log s
      → (id : ℕ) (v : View H E) → get_elem? s.views id ≡ some v → length v.parts ≡ a.seats
      → w.served ≡ a.first + ended_by v.parts
  all_turns w log s r id v at whole =
      let all : sum_by leaves_of s.views ≡ ended_by v.parts =
      sum_by-whole width leaves_of (λ u none. ended_by-none u.parts none) s.views id v at (r.counted ∙ sym whole) in
      omega (arith, r.left, all)

  -- if it is idle, nobody holds
  pub all_idle : (w : LockWorld) (log : List (Logged E)) (s : State (Option T) (View H E))
      → Stands head entries stamp a w log s
      → (id : ℕ) (v : View H E) → get_elem? s.views id ≡ some v → v.state ≡ Idle → length v.parts ≡ a.seats
      → (k t : ℕ) → Holds w k t → ⊥
  all_idle w log s r id v at idle whole k t holds = ⊎_elim
      (λ (h : k < a.seats).
      let all = all_numbers w log s r id v at whole k in
      let is : once_below k a.seats ≡ 1 = grind (arith, nat_tests) in
      let has : 0 < owns_of k v.parts = omega (arith, all, is) in
      let e : Idle ≡ Holding t = sym idle ∙ sym (state_among w log v.about v.state k v.parts has (r.views id v at))
      ∙ holds in absurd (cc))
      (λ (h : a.seats ≤ k).
      let e : Idle ≡ Holding t = sym (get_or_past w.seats k Idle (omega (arith, r.sized))) ∙ holds in absurd (cc))
      (cases_lt k a.seats)
