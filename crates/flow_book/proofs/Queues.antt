-- The queue of the flows that wait, as flows are put into it and taken out.
use Rattle.std.proofs.Common.{◌≡◌, ◌≢◌, refl, sym, ap, ◌∙◌, subst, ℕ, zero, suc, ◌<◌, ◌==◌, ◌⊎◌, inl, inr, false}
use Rattle.std.proofs.Common.{nat_lt, List, [], ◌∷◌, find, length, get_or, remove, slice_get}
use Rattle.std.proofs.Common.{Option, Some, None, option_map, Bool, true, cond, position, set, ◌≤◌, arith}
use Rattle.std.specs.List.{AllByRecursion, position_or_len}
use Rattle.std.proofs.lemmas.Grind.{common_steps}
use Rattle.std.proofs.lemmas.List.Quantifiers.{position-Some}
use Rattle.std.proofs.lemmas.List.{length-set, get_or-set_same}
use Rattle.std.proofs.lemmas.List.Sums.{fails_before_first}
use Rattle.std.proofs.lemmas.Bool.{cond_both, cases_eq, cases_lt}
use Rattle.std.proofs.lemmas.Bool.Decides.{nat_tests}
use Rattle.std.proofs.lemmas.List.Elements.{All-from_recursion, recursion_from_All}
use Rattle.std.proofs.lemmas.Option.{slice_get_within, slice_get-get_or}
use Rattle.minislots.specs.declared.config.Config.{Config}
use Rattle.flow_book.specs.declared.flow.Flow.{Flow}
use Rattle.flow_book.specs.declared.waiting.Waiting.{Waiting}
use Rattle.flow_book.specs.Entry.{is_plain, top_rank}
use Rattle.flow_book.specs.Choice.{last_start}
use Rattle.flow_book.specs.Flows.{outstanding}
use Rattle.flow_book.specs.declared.tiers.TheConstants.{NO_TIER}
use Rattle.flow_book.specs.Bucket.{BucketView}
use Rattle.flow_book.specs.Tiers.{queue_limits}
use Rattle.flow_book.specs.Entry.{live, IsBook, KeepsSums, KnowsTurn}
use Rattle.sched_calls.specs.Sids.{AscendBy, put_in}
use Rattle.flow_book.specs.Queue.{entry_of, IsAt, IsIn, IsQueue, IsQueueAmong, AreSameBut}
use Rattle.sched_calls.proofs.Insertion.{all-put_in, ascends-put_in}
use Rattle.flow_book.proofs.Searches.{below}
use Rattle.flow_book.proofs.Turns.{turn-sid}

-- the queue with one more
abbrev pub with-one : Waiting → List Waiting → List Waiting
with-one w queue = put_in (λ v. v.turn) w queue

-- the one that is put in is in the queue
pub in-new : (w : Waiting) (queue : List Waiting) → IsIn w.place (with-one w queue)
in-new w [] = inl refl
in-new w (v ∷ queue) =
    cond_both (nat_lt w.turn v.turn) (w ∷ v ∷ queue) (v ∷ with-one w queue) (IsIn w.place)
    (λ low. inl refl) (λ high. inr (in-new w queue))

-- and those that were
pub in-old : (place : ℕ) (w : Waiting) (queue : List Waiting) → IsIn place queue → IsIn place (with-one w queue)
in-old place w [] here = absurd here
in-old place w (v ∷ queue) (inl here) =
    cond_both (nat_lt w.turn v.turn) (w ∷ v ∷ queue) (v ∷ with-one w queue) (IsIn place)
    (λ low. inr (inl here)) (λ high. inl here)
in-old place w (v ∷ queue) (inr rest) =
    cond_both (nat_lt w.turn v.turn) (w ∷ v ∷ queue) (v ∷ with-one w queue) (IsIn place)
    (λ low. inr (inr rest)) (λ high. inr (in-old place w queue rest))

in-one-cond : (b : Bool) (place : ℕ) (w v : Waiting) (queue : List Waiting)
    → (IsIn place (with-one w queue) → (place ≡ w.place) ⊎ IsIn place queue)
    → IsIn place (cond b (w ∷ v ∷ queue) (v ∷ with-one w queue)) → (place ≡ w.place) ⊎ IsIn place (v ∷ queue)
in-one-cond true place w v queue rest (inl here) = inl (sym here)
in-one-cond true place w v queue rest (inr old) = inr old
in-one-cond false place w v queue rest (inl here) = inr (inl here)
in-one-cond false place w v queue rest (inr more) = elim (rest more) [
  | inl same ↦ inl same
  | inr old ↦ inr (inr old)
]

-- and no others
pub in-one : (place : ℕ) (w : Waiting) (queue : List Waiting) → IsIn place (with-one w queue)
    → (place ≡ w.place) ⊎ IsIn place queue
in-one place w [] (inl here) = inl (sym here)
in-one place w [] (inr rest) = inr rest
in-one place w (v ∷ queue) here = in-one-cond (nat_lt w.turn v.turn) place w v queue (in-one place w queue) here

module _ {X : Type 0} where
  -- what holds of each holds of those that are left where one is taken out
  pub all-remove : (P : X → Type 0) (xs : List X) (i : ℕ) → AllByRecursion P xs → AllByRecursion P (remove xs i)
  all-remove P [] zero all = tt
  all-remove P [] (suc i) all = tt
  all-remove P (x ∷ xs) zero all = all.1
  all-remove P (x ∷ xs) (suc i) all = (all.0, all-remove P xs i all.1)

  ascends-remove : (number : X → ℕ) (xs : List X) (i : ℕ) → AscendBy number xs → AscendBy number (remove xs i)
  ascends-remove number [] zero up = tt
  ascends-remove number [] (suc i) up = tt
  ascends-remove number (x ∷ xs) zero up = up.1
  ascends-remove number (x ∷ xs) (suc i) up =
      (all-remove (λ y. number x < number y) xs i up.0, ascends-remove number xs i up.1)

  -- two facts of each
  pub all-both : (P Q R : X → Type 0) (xs : List X) → ((x : X) → P x → Q x → R x) → AllByRecursion P xs
      → AllByRecursion Q xs → AllByRecursion R xs
  all-both P Q R [] step ps qs = tt
  all-both P Q R (x ∷ xs) step ps qs = (step x ps.0 qs.0, all-both P Q R xs step ps.1 qs.1)

-- others than the one that is taken out stay
pub in-rest : (place : ℕ) (queue : List Waiting) (i : ℕ) (d : Waiting) → i < length queue → (get_or queue i d).place ≢ place
    → IsIn place queue → IsIn place (remove queue i)
in-rest place [] i d lt differ here = absurd here
in-rest place (w ∷ queue) zero d lt differ (inl here) = absurd (differ here)
in-rest place (w ∷ queue) zero d lt differ (inr rest) = rest
in-rest place (w ∷ queue) (suc i) d lt differ (inl here) = inl here
in-rest place (w ∷ queue) (suc i) d lt differ (inr rest) = inr (in-rest place queue i d (omega arith) differ rest)

-- those that are left were in the queue
pub in-removed : (place : ℕ) (queue : List Waiting) (i : ℕ) → IsIn place (remove queue i) → IsIn place queue
in-removed place [] zero here = here
in-removed place [] (suc i) here = here
in-removed place (w ∷ queue) zero here = inr here
in-removed place (w ∷ queue) (suc i) (inl here) = inl here
in-removed place (w ∷ queue) (suc i) (inr rest) = inr (in-removed place queue i rest)

some-within : (items : List Flow) (place : ℕ) (e : ℕ × ℕ × BucketView × Bool) → option_map entry_of (slice_get items place) ≡ Some e
    → place < length items
some-within [] place e at = absurd (cc)
some-within (f ∷ items) zero e at = omega arith
some-within (f ∷ items) (suc place) e at = omega (arith, some-within items place e at)

-- what is the same as some is the same
pub same-some : (d e : ℕ × ℕ × BucketView × Bool) → Some d ≡ Some e → d ≡ e
same-some d e same = cc

-- where none in the queue has the place none has it
pub none-at : (place : ℕ) (queue : List Waiting) → position (λ w. w.place == place) queue ≡ None
    → AllByRecursion (λ w. w.place ≢ place) queue
none-at place queue none =
    let p : Waiting → Bool = λ w. w.place == place in
    let past : length queue ≤ position_or_len p queue = grind (arith, common_steps) in
    recursion_from_All (λ w. w.place ≢ place) queue (λ k d lt.
    let fails : ((get_or queue k d).place == place) ≡ false = fails_before_first p queue k d (omega arith) in
    (λ same. absurd (grind (arith, nat_tests))))

-- what is told of the flow of one that waits
abbrev pub told : Waiting → ℕ × ℕ × BucketView × Bool
told w = (w.turn, w.wants, w.sustained, w.tier == NO_TIER)

module _ (items : List Flow) where
  -- its place is one of the flows'
  pub at-within : (w : Waiting) → IsAt items w → w.place < length items
  at-within w at = some-within items w.place (told w) at

  -- there is a flow at its place
  pub flow-at : (w : Waiting) (o : Option Flow) → slice_get items w.place ≡ o → IsAt items w
      → (f : Flow) × (slice_get items w.place ≡ Some f)
  flow-at w None e at =
      let no : option_map entry_of None ≡ Some (told w) = ap (option_map entry_of) (sym e) ∙ at in absurd (cc)
  flow-at w (Some f) e at = (f, e)

  -- its entry
  pub entry-at : (w : Waiting) (f : Flow) → IsAt items w → slice_get items w.place ≡ Some f
      → entry_of f ≡ told w
  entry-at w f at found = same-some (entry_of f) (told w) (ap (option_map entry_of) (sym found) ∙ at)

  -- the flow that waits has this turn
  pub turn-at : (w : Waiting) (f : Flow) → IsAt items w → slice_get items w.place ≡ Some f → f.turn ≡ w.turn
  turn-at w f at found = ap (λ (e : ℕ × ℕ × BucketView × Bool). e.0) (entry-at w f at found)

  -- and waits for these bytes
  pub wants-at : (w : Waiting) (f : Flow) → IsAt items w → slice_get items w.place ≡ Some f
      → outstanding (live f) ≡ w.wants
  wants-at w f at found = ap (λ (e : ℕ × ℕ × BucketView × Bool). e.1) (entry-at w f at found)

  -- and its maximum sustained rate leaves this to it
  pub sustained-at : (w : Waiting) (f : Flow) → IsAt items w → slice_get items w.place ≡ Some f
      → (queue_limits f).sustained ≡ w.sustained
  sustained-at w f at found = ap (λ (e : ℕ × ℕ × BucketView × Bool). e.2) (entry-at w f at found)

  -- and it has a tier where it has a peak rate or a reservation
  pub tier-at : (w : Waiting) (f : Flow) → IsAt items w → slice_get items w.place ≡ Some f
      → is_plain f ≡ (w.tier == NO_TIER)
  tier-at w f at found = ap (λ (e : ℕ × ℕ × BucketView × Bool). e.3) (entry-at w f at found)

  -- at one place there is one turn
  pub same-turn : (v w : Waiting) → IsAt items v → IsAt items w → v.place ≡ w.place → v.turn ≡ w.turn
  same-turn v w at at' same =
      ap (λ (e : ℕ × ℕ × BucketView × Bool). e.0) (same-some (told v) (told w)
      (sym at ∙ ap (λ k. option_map entry_of (slice_get items k)) same ∙ at'))

  pub later : (w : Waiting) (queue : List Waiting) → IsAt items w → AllByRecursion (IsAt items) queue
      → AllByRecursion (λ v. w.turn < v.turn) queue → AllByRecursion (λ v. v.place ≢ w.place) queue
  later w [] at all above = tt
  later w (v ∷ queue) at all above =
      ((λ same. absurd (omega (arith, above.0, same-turn v w all.0 at same))), later w queue at all.1 above.1)

  -- no place is twice in the queue
  pub alone : (queue : List Waiting) (i : ℕ) (d : Waiting) → i < length queue → AllByRecursion (IsAt items) queue
      → AscendBy (λ w. w.turn) queue → AllByRecursion (λ v. v.place ≢ (get_or queue i d).place) (remove queue i)
  alone [] i d lt all up = absurd (omega arith)
  alone (w ∷ queue) zero d lt all up = later w queue all.0 all.1 up.0
  alone (w ∷ queue) (suc i) d lt all up =
      let at : IsAt items (get_or queue i d) = All-from_recursion (IsAt items) queue all.1 i d (omega arith) in
      let above : w.turn < (get_or queue i d).turn =
      All-from_recursion (λ v. w.turn < v.turn) queue up.0 i d (omega arith) in (
        (λ same. absurd (omega (arith, above, same-turn w (get_or queue i d) all.0 at same))),
        alone queue i d (omega arith) all.1 up.1,
      )

  -- the queue without the one at its i-th place is one of the flows at other places
  pub taken-among : (some : ℕ → Type 0) (queue : List Waiting) (i : ℕ) (d : Waiting) → i < length queue
      → IsQueueAmong items some queue
      → IsQueueAmong items (λ other. some other × (other ≢ (get_or queue i d).place)) (remove queue i)
  taken-among some queue i d lt is = record {
    ascending = ascends-remove (λ w. w.turn) queue i is.ascending;
    each = all-remove (IsAt items) queue i is.each;
    among = all-both (λ w. some w.place) (λ w. w.place ≢ (get_or queue i d).place)
        (λ w. some w.place × (w.place ≢ (get_or queue i d).place)) (remove queue i) (λ w here other. (here, other))
        (all-remove (λ w. some w.place) queue i is.among) (alone queue i d lt is.each is.ascending);
    whole = λ place f found other waits. in-rest place queue i d lt (λ same. other.1 (sym same))
        (is.whole place f found other.0 waits);
  }

  -- a queue of some flows is one of the same flows by other words
  pub among-as : (some more : ℕ → Type 0) (queue : List Waiting) → ((k : ℕ) → some k → more k)
      → ((k : ℕ) → more k → some k) → IsQueueAmong items some queue → IsQueueAmong items more queue
  among-as some more queue to from is = record {
    ascending = is.ascending;
    each = is.each;
    among = all-both (IsAt items) (λ w. some w.place) (λ w. more w.place) queue
        (λ w at may. to w.place may) is.each is.among;
    whole = λ place f found may waits. is.whole place f found (from place may) waits;
  }

  -- and so of the flows at other places
  pub taken-out : (queue : List Waiting) (i : ℕ) (d : Waiting) → i < length queue → IsQueue items queue
      → IsQueueAmong items (λ other. other ≢ (get_or queue i d).place) (remove queue i)
  taken-out queue i d lt is =
      among-as (λ other. Unit {0} × (other ≢ (get_or queue i d).place)) (λ other. other ≢ (get_or queue i d).place)
      (remove queue i) (λ k both. both.1) (λ k other. (tt, other)) (taken-among (λ other. Unit {0}) queue i d lt is)

  -- and so is the queue itself where it has no such place
  pub none-out : (queue : List Waiting) (place : ℕ) → AllByRecursion (λ w. w.place ≢ place) queue → IsQueue items queue
      → IsQueueAmong items (λ other. other ≢ place) queue
  none-out queue place none is = record {
    ascending = is.ascending;
    each = is.each;
    among = none;
    whole = λ other f found differ waits. is.whole other f found tt waits;
  }

  -- nor without the one that has it
  pub taken-at : (queue : List Waiting) (place i : ℕ) (d : Waiting) → position (λ w. w.place == place) queue ≡ Some i
      → IsQueue items queue → IsQueueAmong items (λ other. other ≢ place) (remove queue i)
  taken-at queue place i d at is =
      let found = position-Some (λ w. w.place == place) queue i d at in
      let passes : ((get_or queue i d).place == place) ≡ true = found.1 in
      let e : (get_or queue i d).place ≡ place = grind (arith, nat_tests) in
      rw (sym e) (taken-out queue i d found.0 is)

-- what is known of some flows at other places stays
pub among-same : (some : ℕ → Type 0) (place : ℕ) (old new : List Flow) (queue : List Waiting)
    → ((k : ℕ) → some k → k ≢ place) → AreSameBut place old new → IsQueueAmong old some queue
    → IsQueueAmong new some queue
among-same some place old new queue others same is = record {
  ascending = is.ascending;
  each = all-both (IsAt old) (λ w. some w.place) (IsAt new) queue
      (λ w at may. ap (option_map entry_of) (same w.place (others w.place may)) ∙ at) is.each is.among;
  among = is.among;
  whole = λ other f found may waits. is.whole other f (sym (same other (others other may)) ∙ found) may waits;
}

-- and of all of them
pub among-others : (place : ℕ) (old new : List Flow) (queue : List Waiting) → AreSameBut place old new
    → IsQueueAmong old (λ other. other ≢ place) queue → IsQueueAmong new (λ other. other ≢ place) queue
among-others place old new queue = among-same (λ other. other ≢ place) place old new queue (λ k other. other)

module _ {X : Type 0} where
  -- what is put at a place is there
  pub set-here : (xs : List X) (i : ℕ) (x : X) → i < length xs → slice_get (set xs i x) i ≡ Some x
  set-here xs i x lt =
      slice_get-get_or (set xs i x) i x (omega (arith, length-set xs i x)) ∙ ap Some (get_or-set_same xs i x x lt)

  -- and the others are where they were
  pub set-other : (xs : List X) (i : ℕ) (x : X) (j : ℕ) → j ≢ i → slice_get (set xs i x) j ≡ slice_get xs j
  set-other [] zero x j differ = refl
  set-other [] (suc i) x j differ = refl
  set-other (y ∷ xs) zero x zero differ = absurd (differ refl)
  set-other (y ∷ xs) zero x (suc j) differ = refl
  set-other (y ∷ xs) (suc i) x zero differ = refl
  set-other (y ∷ xs) (suc i) x (suc j) differ = set-other xs i x j (λ same. differ (ap suc same))

-- the flows are the same at each place but where another is put
pub same-but : (items : List Flow) (place : ℕ) (e : Flow) → AreSameBut place items (set items place e)
same-but items place e = set-other items place e

-- a flow that is put at a place has there what is told of it
pub stands-at : (items : List Flow) (w : Waiting) (place : ℕ) (e : Flow) → place < length items → w.turn ≡ e.turn
    → w.wants ≡ outstanding (live e) → w.sustained ≡ (queue_limits e).sustained
    → (w.tier == NO_TIER) ≡ is_plain e → w.place ≡ place → IsAt (set items place e) w
stands-at items w place e lt turn wants sustained tier at =
    let here = set-here items place e lt in
    rw (at, turn, wants, sustained, tier, here) refl

none-found : (turn : ℕ) (queue : List Waiting) → AllByRecursion (λ v. v.turn ≢ turn) queue
    → find (λ v. v.turn == turn) queue ≡ None
none-found turn [] all = refl
none-found turn (v ∷ queue) all =
    let fails : (v.turn == turn) ≡ false = let differ = all.0 in grind (arith, nat_tests) in
    rw fails (none-found turn queue all.1)

module _ (c : Config) (items : List Flow) (are : IsBook c items) where
  -- the flow at a place knows its turn
  pub knows-at : (place : ℕ) (f : Flow) → slice_get items place ≡ Some f → KnowsTurn f
  knows-at place f found =
      let within = slice_get_within items place f found in
      let e : Some (get_or items place f) ≡ Some f = sym (slice_get-get_or items place f within) ∙ found in
      let is : get_or items place f ≡ f = cc in
      (subst (KeepsSums c) is (All-from_recursion (KeepsSums c) items are.sums place f within)).turn

  -- flows of one SID are at one place
  pub place-of-sid : (i j : ℕ) (f g : Flow) → slice_get items i ≡ Some f → slice_get items j ≡ Some g → f.sid ≡ g.sid
      → i ≡ j
  place-of-sid i j f g at at' sids =
      let p = slice_get_within items i f at in
      let q = slice_get_within items j g at' in
      let e : Some (get_or items i f) ≡ Some f = sym (slice_get-get_or items i f p) ∙ at in
      let e' : Some (get_or items j f) ≡ Some g = sym (slice_get-get_or items j f q) ∙ at' in
      let is : get_or items i f ≡ f = cc in
      let is' : get_or items j f ≡ g = cc in
      let mine = ap (λ (h : Flow). h.sid) is in
      let yours = ap (λ (h : Flow). h.sid) is' in
      elim (cases_lt i j) [
        | inl less ↦ absurd (omega (arith, below items are.sound.ascending f i j less q, mine, yours, sids))
        | inr more ↦ elim (cases_eq i j) [
          | inl equal ↦ equal
          | inr differ ↦ absurd (omega (
            arith,
            below items are.sound.ascending f j i (omega arith) p,
            mine,
            yours,
            sids,
          ))
        ]
      ]

  -- and so are flows of one turn
  pub one-place : (i j : ℕ) (f g : Flow) → slice_get items i ≡ Some f → slice_get items j ≡ Some g → f.turn ≡ g.turn
      → i ≡ j
  one-place i j f g at at' same =
      let knows = knows-at i f at in
      let knows' = knows-at j g at' in
      place-of-sid i j f g at at' (turn-sid (top_rank f.spec) (top_rank g.spec) (last_start f.grants.items)
      (last_start g.grants.items) f.sid g.sid f.turn knows.1 (rw (sym same) at knows'.1))

  module _ (some more : ℕ → Type 0) (queue : List Waiting) (place : ℕ) (f : Flow)
      (here : slice_get items place ≡ Some f)
      (only : (k : ℕ) → more k → (k ≡ place) ⊎ some k) (keeps : (k : ℕ) → some k → more k)
      (is : IsQueueAmong items some queue) where
    all-more : (ws : List Waiting) → AllByRecursion (λ w. some w.place) ws → AllByRecursion (λ w. more w.place) ws
    all-more [] all = tt
    all-more (w ∷ ws) all = (keeps w.place all.0, all-more ws all.1)

    all-differ : (some place → ⊥) → (ws : List Waiting) → AllByRecursion (IsAt items) ws
        → AllByRecursion (λ w. some w.place) ws → AllByRecursion (λ w. w.turn ≢ f.turn) ws
    all-differ out [] each among = tt
    all-differ out (w ∷ ws) each among = (
      (λ same.
          let within : w.place < length items = at-within items w each.0 in
          let found = slice_get-get_or items w.place f within in
          let turn = turn-at items w (get_or items w.place f) each.0 found in
          let e : w.place ≡ place = one-place w.place place (get_or items w.place f) f found here (turn ∙ same) in
          out (subst some e among.0)),
      all-differ out ws each.1 among.1,
    )

    -- a queue with the flow at one more place
    pub put-among : (w : Waiting) → w.place ≡ place → w.turn ≡ f.turn → w.wants ≡ outstanding (live f)
        → w.sustained ≡ (queue_limits f).sustained → (w.tier == NO_TIER) ≡ is_plain f → (some place → ⊥)
        → more place → IsQueueAmong items more (with-one w queue)
    put-among w at turn wants sustained tier out new =
        let stands : IsAt items w = rw (at, turn, wants, sustained, tier, here) refl in
        let differ = rw (sym turn) at (all-differ out queue is.each is.among) in
        record {
          ascending = ascends-put_in (λ v. v.turn) w queue (none-found w.turn queue differ) is.ascending;
          each = all-put_in (λ v. v.turn) (IsAt items) w queue stands is.each;
          among = all-put_in (λ v. v.turn) (λ v. more v.place) w queue (rw at new) (all-more queue is.among);
          whole = λ k g found may waits. elim (only k may) [
            | inl same ↦ subst (λ n. IsIn n (with-one w queue)) (at ∙ sym same) (in-new w queue)
            | inr old ↦ in-old k w queue (is.whole k g found old waits)
          ];
        }

    -- where it waits for nothing the queue is the same
    pub pass-among : (0 < outstanding (live f) → ⊥) → IsQueueAmong items more queue
    pass-among idle = record {
      ascending = is.ascending;
      each = is.each;
      among = all-more queue is.among;
      whole = λ k g found may waits. elim (only k may) [
        | inl same ↦ (
            let e : Some g ≡ Some f = sym found ∙ ap (slice_get items) same ∙ here in
            let equal : g ≡ f = cc in
            absurd (idle (subst (λ h. 0 < outstanding (live h)) equal waits)))
        | inr old ↦ is.whole k g found old waits
      ];
    }

-- a queue of the flows at all places is one of all flows
pub whole-among : (items : List Flow) (some : ℕ → Type 0) (queue : List Waiting)
    → ((place : ℕ) → place < length items → some place) → IsQueueAmong items some queue → IsQueue items queue
whole-among items some queue all is = record {
  ascending = is.ascending;
  each = is.each;
  among = all-both (IsAt items) (λ w. some w.place) (λ w. Unit {0}) queue (λ w at may. tt) is.each is.among;
  whole = λ place f found any waits. is.whole place f found (all place (slice_get_within items place f found)) waits;
}
