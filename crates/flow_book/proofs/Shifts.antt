-- The places in the queue where a flow is put in among the others or taken out from among them.
use Rattle.std.proofs.Common.{◌≡◌, ◌≢◌, refl, sym, ap, ◌∙◌, subst, ℕ, zero, suc, ◌+◌, ◌-◌, ◌<◌, ◌≤◌, ◌==◌, inl, inr}
use Rattle.std.proofs.Common.{nat_le, nat_lt, not, true, false, List, [], ◌∷◌, map, filter, length, get_or, remove}
use Rattle.std.proofs.Common.{insert, position, slice_get, Option, Some, None, option_map, if◌then◌else◌, arith}
use Rattle.std.specs.List.{AllByRecursion}
use Rattle.std.proofs.lemmas.Bool.{cases_eq, cases_lt}
use Rattle.std.proofs.lemmas.Bool.Decides.{nat_tests}
use Rattle.std.proofs.lemmas.List.Quantifiers.{position-Some}
use Rattle.std.proofs.lemmas.Option.{slice_get-map}
use Rattle.flow_book.specs.declared.flow.Flow.{Flow}
use Rattle.flow_book.specs.declared.waiting.Waiting.{Waiting}
use Rattle.flow_book.specs.Flows.{LiveFlow, outstanding}
use Rattle.flow_book.specs.Entry.{live}
use Rattle.flow_book.specs.Book.{Ascend}
use Rattle.sched_calls.specs.Sids.{AscendBy}
use Rattle.flow_book.specs.Queue.{entry_of, IsAt, IsIn, IsQueue, IsQueueAmong, moved_up, moved_down}
use Rattle.flow_book.proofs.Queues.{at-within}
use Rattle.flow_book.proofs.Searches.{below}
use Rattle.flow_book.proofs.Places.{position-map}

module _ {X : Type 0} where
  -- before the one that is put in each stands where it stood
  insert-before : (xs : List X) (i k : ℕ) (x : X) → k < i → i ≤ length xs → slice_get (insert xs i x) k ≡ slice_get xs k
  insert-before [] i k x lt within = absurd (omega arith)
  insert-before (y ∷ xs) zero k x lt within = absurd (omega arith)
  insert-before (y ∷ xs) (suc i) zero x lt within = refl
  insert-before (y ∷ xs) (suc i) (suc k) x lt within = insert-before xs i k x (omega arith) (omega arith)

  -- and there it stands itself
  insert-here : (xs : List X) (i : ℕ) (x : X) → i ≤ length xs → slice_get (insert xs i x) i ≡ Some x
  insert-here [] zero x within = refl
  insert-here [] (suc i) x within = absurd (omega arith)
  insert-here (y ∷ xs) zero x within = refl
  insert-here (y ∷ xs) (suc i) x within = insert-here xs i x (omega arith)

  -- and those from there on stand one place behind
  insert-after : (xs : List X) (i k : ℕ) (x : X) → i ≤ k → i ≤ length xs
      → slice_get (insert xs i x) (suc k) ≡ slice_get xs k
  insert-after [] zero k x le within = refl
  insert-after [] (suc i) k x le within = absurd (omega arith)
  insert-after (y ∷ xs) zero k x le within = refl
  insert-after (y ∷ xs) (suc i) zero x le within = absurd (omega arith)
  insert-after (y ∷ xs) (suc i) (suc k) x le within = insert-after xs i k x (omega arith) (omega arith)

  -- before the one that is taken out each stands where it stood
  remove-before : (xs : List X) (i k : ℕ) → k < i → slice_get (remove xs i) k ≡ slice_get xs k
  remove-before [] zero k lt = absurd (omega arith)
  remove-before [] (suc i) k lt = refl
  remove-before (y ∷ xs) zero k lt = absurd (omega arith)
  remove-before (y ∷ xs) (suc i) zero lt = refl
  remove-before (y ∷ xs) (suc i) (suc k) lt = remove-before xs i k (omega arith)

  -- and those behind it stand one place before
  remove-after : (xs : List X) (i k : ℕ) → i ≤ k → i < length xs → slice_get (remove xs i) k ≡ slice_get xs (suc k)
  remove-after [] i k le within = absurd (omega arith)
  remove-after (y ∷ xs) zero k le within = refl
  remove-after (y ∷ xs) (suc i) zero le within = absurd (omega arith)
  remove-after (y ∷ xs) (suc i) (suc k) le within = remove-after xs i k (omega arith) (omega arith)

  -- what holds of the value of each holds of each value
  all-map : {Y : Type 0} (P : Y → Type 0) (h : X → Y) (xs : List X) → AllByRecursion (λ x. P (h x)) xs
      → AllByRecursion P (map h xs)
  all-map P h [] all = tt
  all-map P h (x ∷ xs) all = (all.0, all-map P h xs all.1)

-- the one that waits stands at another place
moved : (ℕ → ℕ) → Waiting → Waiting
moved to w =
    record { turn = w.turn; wants = w.wants; place = to w.place; tier = w.tier; sustained = w.sustained }

ascends-moved : (to : ℕ → ℕ) (queue : List Waiting) → AscendBy (λ w. w.turn) queue
    → AscendBy (λ w. w.turn) (map (moved to) queue)
unfolding moved
ascends-moved to [] up = tt
ascends-moved to (w ∷ queue) up =
    (all-map (λ v. w.turn < v.turn) (moved to) queue up.0, ascends-moved to queue up.1)

in-moved : (to : ℕ → ℕ) (place : ℕ) (queue : List Waiting) → IsIn place queue
    → IsIn (to place) (map (moved to) queue)
unfolding moved
in-moved to place [] here = absurd here
in-moved to place (w ∷ queue) (inl here) = inl (ap to here)
in-moved to place (w ∷ queue) (inr rest) = inr (in-moved to place queue rest)

module _ (old new : List Flow) (some : ℕ → Type 0) (to : ℕ → ℕ)
    (stays : (k : ℕ) → some k → slice_get new (to k) ≡ slice_get old k)
    (comes : (j : ℕ) (f : Flow) → slice_get new j ≡ Some f → 0 < outstanding (live f)
    → (k : ℕ) × (to k ≡ j) × some k × (slice_get old k ≡ Some f)) where
  each-moved : (queue : List Waiting) → AllByRecursion (IsAt old) queue → AllByRecursion (λ w. some w.place) queue
      → AllByRecursion (IsAt new) (map (moved to) queue)
  unfolding moved
  each-moved [] all among = tt
  each-moved (w ∷ queue) all among =
      (ap (option_map entry_of) (stays w.place among.0) ∙ all.0, each-moved queue all.1 among.1)

  any-moved : (queue : List Waiting) → AllByRecursion (λ w. Unit {0}) (map (moved to) queue)
  any-moved [] = tt
  any-moved (w ∷ queue) = (tt, any-moved queue)

  -- where the flows stand at other places, so do those in the queue
  queue-moved : (queue : List Waiting) → IsQueueAmong old some queue → IsQueue new (map (moved to) queue)
  queue-moved queue is = record {
    ascending = ascends-moved to queue is.ascending;
    each = each-moved queue is.each is.among;
    among = any-moved queue;
    whole = λ j f found any waits. let from = comes j f found waits in
        subst (λ k. IsIn k (map (moved to) queue)) from.1
        (in-moved to from.0 queue (is.whole from.0 f from.3 from.2 waits));
  }

some-is : (f g : Flow) (o : Option Flow) → o ≡ Some f → o ≡ Some g → f ≡ g
some-is f g o is also = let e : Some f ≡ Some g = sym is ∙ also in cc

-- a flow that waits for nothing is put in among the others
pub queue-up : (items : List Flow) (place : ℕ) (e : Flow) (queue : List Waiting) → place ≤ length items
    → outstanding (live e) ≡ 0 → IsQueue items queue → IsQueue (insert items place e) (map (moved_up place) queue)
unfolding moved
queue-up items place e queue within idle is =
    let to : ℕ → ℕ = λ k. if nat_le place k then k + 1 else k in
    queue-moved items (insert items place e) (λ k. Unit {0}) to
    (λ k any. elim (cases_lt k place) [
      | inl low ↦ (
          let stay : to k ≡ k = grind (arith, nat_tests) in
          rw stay (insert-before items place k e low within))
      | inr high ↦ (
          let up : to k ≡ suc k = grind (arith, nat_tests) in
          rw up (insert-after items place k e high within))
    ])
    (λ j f found waits. elim (cases_lt j place) [
      | inl low ↦ (
          let stay : to j ≡ j = grind (arith, nat_tests) in
          (j, stay, tt, sym (insert-before items place j e low within) ∙ found))
      | inr high ↦ elim (cases_eq j place) [
        | inl same ↦ (
            let equal : e ≡ f =
            some-is e f (slice_get (insert items place e) j)
            (ap (slice_get (insert items place e)) same ∙ insert-here items place e within) found in
            absurd (omega (arith, waits, idle, ap (λ (g : Flow). outstanding (live g)) equal)))
        | inr differ ↦ (
            let next : suc (j - 1) ≡ j = omega arith in
            let up : to (j - 1) ≡ j = grind (arith, nat_tests) in (
              j - 1,
              up,
              tt,
              sym (insert-after items place (j - 1) e (omega arith) within)
                  ∙ ap (slice_get (insert items place e)) next ∙ found,
            ))
      ]
    ])
    queue is

-- a flow that isn't in the queue is taken out from among the others
pub queue-down : (items : List Flow) (place : ℕ) (queue : List Waiting) → place < length items
    → IsQueueAmong items (λ other. other ≢ place) queue
    → IsQueue (remove items place) (map (moved_down place) queue)
unfolding moved
queue-down items place queue within is =
    let to : ℕ → ℕ = λ k. if nat_lt place k then k - 1 else k in
    queue-moved items (remove items place) (λ k. k ≢ place) to
    (λ k differ. elim (cases_lt k place) [
      | inl low ↦ (
          let stay : to k ≡ k = grind (arith, nat_tests) in
          rw stay (remove-before items place k low))
      | inr high ↦ (
          let next : suc (k - 1) ≡ k = omega (arith, differ) in
          let down : to k ≡ k - 1 = grind (arith, nat_tests, differ) in
          rw down (remove-after items place (k - 1) (omega (arith, differ)) within ∙ ap (slice_get items) next))
    ])
    (λ j f found waits. elim (cases_lt j place) [
      | inl low ↦ (
          let stay : to j ≡ j = grind (arith, nat_tests) in
          (j, stay, (λ same. absurd (omega (arith, same))), sym (remove-before items place j low) ∙ found))
      | inr high ↦ (
          let down : to (suc j) ≡ j = grind (arith, nat_tests) in (
            suc j,
            down,
            (λ same. absurd (omega (arith, same))),
            sym (remove-after items place j high within) ∙ found,
          ))
    ])
    queue is

-- each place in the queue leaves room for one more
pub places-bounded : (items : List Flow) (bound : ℕ) (queue : List Waiting) → length items + 1 < bound
    → AllByRecursion (IsAt items) queue → AllByRecursion (λ w. w.place + 1 < bound) queue
places-bounded items bound [] lt all = tt
places-bounded items bound (w ∷ queue) lt all =
    (omega (arith, at-within items w all.0), places-bounded items bound queue lt all.1)

filter-above : (sid : ℕ) (items : List Flow) → AllByRecursion (λ (g : LiveFlow). sid < g.sid) (map live items)
    → filter (λ f. not (f.sid == sid)) items ≡ items
filter-above sid [] all = refl
filter-above sid (f ∷ items) all =
    let differ : (f.sid == sid) ≡ false = let above = all.0 in grind (arith, nat_tests) in
    rw differ (ap (λ fs. f ∷ fs) (filter-above sid items all.1))

-- to leave the flows of other SIDs is to take out the one that has the SID
pub filter-remove : (sid : ℕ) (items : List Flow) (i : ℕ) (d : Flow) → Ascend (map live items) → i < length items
    → (get_or items i d).sid ≡ sid → filter (λ f. not (f.sid == sid)) items ≡ remove items i
filter-remove sid [] i d up lt here = absurd (omega arith)
filter-remove sid (f ∷ items) zero d up lt here =
    let same : (f.sid == sid) ≡ true = grind (arith, nat_tests) in
    rw same (filter-above sid items (subst (λ n. AllByRecursion (λ (g : LiveFlow). n < g.sid) (map live items)) here
    up.0))
filter-remove sid (f ∷ items) (suc i) d up lt here =
    let less : f.sid < (get_or items i d).sid = below (f ∷ items) up d 0 (suc i) (omega arith) lt in
    let differ : (f.sid == sid) ≡ false = grind (arith, nat_tests) in
    rw differ (ap (λ fs. f ∷ fs) (filter-remove sid items i d up.1 (omega arith) here))

-- and so it is at the place that is found for it
pub filter-at : (sid : ℕ) (items : List Flow) (i : ℕ) → Ascend (map live items)
    → position (λ f. f.sid == sid) (map live items) ≡ Some i
    → (i < length items) × (filter (λ f. not (f.sid == sid)) items ≡ remove items i)
filter-at sid [] i up at = absurd (cc)
filter-at sid (f ∷ items) i up at =
    let found =
    position-Some (λ (g : Flow). g.sid == sid) (f ∷ items) i f
    (sym (position-map live (λ g. g.sid == sid) (f ∷ items)) ∙ at) in
    let passes : ((get_or (f ∷ items) i f).sid == sid) ≡ true = found.1 in
    let here : (get_or (f ∷ items) i f).sid ≡ sid = grind (arith, nat_tests) in
    (found.0, filter-remove sid (f ∷ items) i f up found.0 here)

-- flows that show the same and have the same entries are the same to the queue
module _ (old new : List Flow) (shown : map live new ≡ map live old)
    (entries : map entry_of new ≡ map entry_of old) where
  same-each : (queue : List Waiting) → AllByRecursion (IsAt old) queue → AllByRecursion (IsAt new) queue
  same-each [] all = tt
  same-each (w ∷ queue) all = (
    sym (slice_get-map entry_of new w.place) ∙ ap (λ es. slice_get es w.place) entries
        ∙ slice_get-map entry_of old w.place ∙ all.0,
    same-each queue all.1,
  )

  shown-at : (place : ℕ) (o : Option Flow) (f : Flow) → slice_get old place ≡ o → slice_get new place ≡ Some f
      → (g : Flow) × (slice_get old place ≡ Some g) × (live g ≡ live f)
  shown-at place None f here found =
      let e : Some (live f) ≡ None =
      ap (option_map live) (sym found) ∙ sym (slice_get-map live new place) ∙ ap (λ fs. slice_get fs place) shown
      ∙ slice_get-map live old place ∙ ap (option_map live) here in
      absurd (cc)
  shown-at place (Some g) f here found =
      let e : Some (live f) ≡ Some (live g) =
      ap (option_map live) (sym found) ∙ sym (slice_get-map live new place) ∙ ap (λ fs. slice_get fs place) shown
      ∙ slice_get-map live old place ∙ ap (option_map live) here in
      let same : live g ≡ live f = cc in
      (g, here, same)

  -- flows that show the same and have the same turns have the same queue
  pub same-queue : (queue : List Waiting) → IsQueue old queue → IsQueue new queue
  same-queue queue is = record {
    ascending = is.ascending;
    each = same-each queue is.each;
    among = is.among;
    whole = λ place f found any waits. let at = shown-at place (slice_get old place) f refl found in
        is.whole place at.0 at.1 tt (subst (λ (g : LiveFlow). 0 < outstanding g) (sym at.2) waits);
  }
