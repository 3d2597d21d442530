-- The seats that an opening makes.
use Rattle.std.proofs.Common.{◌≡◌, ℕ, zero, suc, ◌+◌, ◌-◌, ◌<◌, List, [], ◌∷◌, ◌++◌, map, length, Option, refl, ap, ◌∙◌}
use Rattle.std.proofs.Common.{arith, sym, length-append}
use Rattle.std.specs.List.{range_with_len}
use Rattle.std.proofs.lemmas.List.{map-append}
use Rattle.atomic_table.specs.Table.{Me}
use Rattle.ticket_lock.specs.declared.board.About.{About}
use Rattle.ticket_lock.specs.declared.board.View.{View}
use Rattle.ticket_lock.specs.Rule.{idle_view, Every, new_parts}
use Rattle.ticket_lock.specs.Plays.{rest_view, first_part_view}
use Rattle.atomic_table.specs.Seated.{TableId}
use Rattle.ticket_lock.specs.Standing.{Lock, Standing, standing_of}
use Rattle.ticket_lock.specs.Tokens.{IsIdle}
use Rattle.ticket_lock.specs.Calls.{new_standing}
use Rattle.ticket_lock.proofs.Parts.{new_parts-next}

-- one number more at the end of a range
range_with_len-push : (a n : ℕ) → range_with_len a (n + 1) ≡ range_with_len a n ++ (a + n) ∷ []
range_with_len-push a zero = ap (λ (k : ℕ). k ∷ []) (omega arith)
range_with_len-push a (suc n) =
    let count : suc n + 1 ≡ suc (n + 1) = omega arith in
    let last : a + 1 + n ≡ a + suc n = omega arith in
    rw count (ap (λ (ks : List ℕ). a ∷ ks)
    (range_with_len-push (a + 1) n ∙ ap (λ (k : ℕ). range_with_len (a + 1) n ++ k ∷ []) last))

module _ {H E : Type 0} (about : Option (About H E)) (i n : ℕ) (below : i < n) (v : View H E)
    (is : v ≡ idle_view about (new_parts i (n - i))) where
  -- the view that has the numbers from this one on
  next_is : v ≡ idle_view about (record { number = i; log = []; turns = 0 } ∷ new_parts (i + 1) (n - (i + 1)))
  next_is = is ∙ ap (idle_view about) (new_parts-next E i n below)

  -- without the first, it has those from the next one on
  rest_view-next : rest_view v ≡ idle_view about (new_parts (i + 1) (n - (i + 1)))
  rest_view-next = ap rest_view next_is

  -- so has the seat that is left
  pub left_has : {S : Type 0} (me : Me S (View H E)) (carried : List (ℕ × S)) → me ≡ (rest_view v, carried)
      → me.0 ≡ idle_view about (new_parts (i + 1) (n - (i + 1)))
  left_has {S} me carried is = ap (λ (m : Me S (View H E)). m.0) is ∙ rest_view-next

  -- the new seat has that one
  first_part_view-next : first_part_view v ≡ idle_view about (record { number = i; log = []; turns = 0 } ∷ [])
  first_part_view-next = ap first_part_view next_is

  module _ {S : Type 0} (me : Me S (View H E)) (new : me ≡ (first_part_view v, [])) where
    -- it is idle, with that number
    pub new_seat : IsIdle i me.0 × (me.1 ≡ [])
    new_seat =
        let is : me.0 ≡ idle_view about (record { number = i; log = []; turns = 0 } ∷ []) =
        ap (λ (m : Me S (View H E)). m.0) new
        ∙ first_part_view-next in (
          (
            (record { number = i; log = []; turns = 0 }, ap (λ (u : View H E). u.parts) is, refl),
            ap (λ (u : View H E). u.state) is,
          ),
          ap (λ (m : Me S (View H E)). m.1) new,
        )

    -- and stands as it was made
    pub dealt_standing : (from table : TableId) → from ≡ table
        → standing_of from me.0 ≡ new_standing (record { table = table; about = about }) i
    dealt_standing from table same =
        let is : me.0 ≡ idle_view about (record { number = i; log = []; turns = 0 } ∷ []) =
        ap (λ (m : Me S (View H E)). m.0) new
        ∙ first_part_view-next in
        λ j. standing_of (same j) (is j)

-- the row of seats so far, with one more
new_standings-push : {H E : Type 0} (lock : Lock H E) (n : ℕ)
    → map (new_standing lock) (range_with_len 0 (n + 1))
    ≡ map (new_standing lock) (range_with_len 0 n) ++ new_standing lock n ∷ []
new_standings-push lock n =
    let zero_add : 0 + n ≡ n = omega arith in
    ap (map (new_standing lock)) (range_with_len-push 0 n ∙ ap (λ (k : ℕ). range_with_len 0 n ++ k ∷ []) zero_add)
    ∙ map-append (new_standing lock) (range_with_len 0 n) (n ∷ [])

-- a row with one seat more has one more
pub count_grown : {X : Type 0} (row grown : List X) (x : X) (n : ℕ) → grown ≡ row ++ x ∷ [] → length row ≡ n
    → length grown ≡ n + 1
count_grown row grown x n is so_far = ap length is ∙ length-append row (x ∷ []) ∙ ap (λ k. k + 1) so_far

-- the row grown by the next seat
pub row_grown : {H E : Type 0} (lock : Lock H E) (n : ℕ) (row grown : List (Standing H E)) (s : Standing H E)
    → grown ≡ row ++ s ∷ [] → row ≡ map (new_standing lock) (range_with_len 0 n) → s ≡ new_standing lock n
    → grown ≡ map (new_standing lock) (range_with_len 0 (n + 1))
row_grown lock n row grown s is so_far next = is ∙ (λ i. so_far i ++ next i ∷ []) ∙ sym (new_standings-push lock n)

module _ {H E : Type 0} (lock : Lock H E) where
  -- seats as they are made are of their lock
  pub new_standings-own : (numbers : List ℕ) → Every (λ s. s.lock ≡ lock) (map (new_standing lock) numbers)
  new_standings-own [] = tt
  new_standings-own (n ∷ ns) = (refl, new_standings-own ns)

  -- there are as many as asked
  pub length-new_standings : (a n : ℕ) → length (map (new_standing lock) (range_with_len a n)) ≡ n
  length-new_standings a zero = refl
  length-new_standings a (suc n) = ap suc (length-new_standings (a + 1) n)
