-- Those served that still wait are put into the queue of the others.
use Rattle.std.proofs.Common.{◌≡◌, ◌≢◌, refl, sym, ℕ, ◌⊎◌, inl, inr, List, [], ◌∷◌, filter, slice_get}
use Rattle.std.specs.List.{AllByRecursion}
use Rattle.minislots.specs.declared.config.Config.{Config}
use Rattle.flow_book.specs.declared.flow.Flow.{Flow}
use Rattle.flow_book.specs.declared.waiting.Waiting.{Waiting}
use Rattle.flow_book.specs.Entry.{IsBook}
use Rattle.flow_book.specs.Gap.{all_put_in}
use Rattle.sched_calls.specs.Sids.{AscendBy}
use Rattle.sched_calls.proofs.Removal.{all-filter, ascends-filter}
use Rattle.flow_book.specs.Queue.{IsAt, IsIn, IsQueue, IsQueueAmong, IsQueueIn, still_waits}
use Rattle.flow_book.proofs.Order.{all-implied}
use Rattle.flow_book.proofs.Queues.{flow-at, turn-at, wants-at, sustained-at, tier-at, later, put-among}
use Rattle.flow_book.proofs.StillWaiting.{in-or-out, stays-in}

every : {X : Type 0} (P : X → Type 0) (xs : List X) → ((x : X) → P x) → AllByRecursion P xs
every P [] all = tt
every P (x ∷ xs) all = (all x, every P xs all)

none-in : (place : ℕ) (queue : List Waiting) → AllByRecursion (λ v. v.place ≢ place) queue → IsIn place queue → ⊥
none-in place [] all here = here
none-in place (w ∷ queue) all (inl same) = all.0 same
none-in place (w ∷ queue) all (inr rest) = none-in place queue all.1 rest

all-in : (P : ℕ → Type 0) (queue : List Waiting) → ((place : ℕ) → IsIn place queue → P place)
    → AllByRecursion (λ w. P w.place) queue
all-in P [] step = tt
all-in P (w ∷ queue) step = (step w.place (inl refl), all-in P queue (λ place here. step place (inr here)))

one-or-others : (some : ℕ → Type 0) (w : Waiting) (ones : List Waiting) (k : ℕ) → some k ⊎ IsIn k (w ∷ ones)
    → (k ≡ w.place) ⊎ (some k ⊎ IsIn k ones)
one-or-others some w ones k (inl other) = inr (inl other)
one-or-others some w ones k (inr (inl same)) = inl (sym same)
one-or-others some w ones k (inr (inr here)) = inr (inr here)

with-others : (some : ℕ → Type 0) (w : Waiting) (ones : List Waiting) (k : ℕ) → some k ⊎ IsIn k ones
    → some k ⊎ IsIn k (w ∷ ones)
with-others some w ones k (inl other) = inl other
with-others some w ones k (inr here) = inr (inr here)

not-twice : (some : ℕ → Type 0) (w : Waiting) (ones : List Waiting) → (some w.place → ⊥)
    → AllByRecursion (λ v. v.place ≢ w.place) ones → some w.place ⊎ IsIn w.place ones → ⊥
not-twice some w ones out differ (inl other) = out other
not-twice some w ones out differ (inr here) = none-in w.place ones differ here

module _ (c : Config) (items : List Flow) (are : IsBook c items) where
  -- these are put into a queue of the flows at other places
  pub put-each : (some : ℕ → Type 0) (queue ones : List Waiting) → AllByRecursion (IsAt items) ones
      → AscendBy (λ w. w.turn) ones → AllByRecursion (λ w. some w.place → ⊥) ones → IsQueueAmong items some queue
      → IsQueueAmong items (λ k. some k ⊎ IsIn k ones) (all_put_in ones queue)
  put-each some queue [] at up out is = record {
    ascending = is.ascending;
    each = is.each;
    among = all-implied (λ w. some w.place) (λ w. some w.place ⊎ IsIn w.place []) queue (λ w other. inl other) is.among;
    whole = λ place f found may waits. elim may [
      | inl other ↦ is.whole place f found other waits
      | inr here ↦ absurd here
    ];
  }
  put-each some queue (w ∷ ones) at up out is =
      let f = flow-at items w (slice_get items w.place) refl at.0 in
      put-among c items are (λ k. some k ⊎ IsIn k ones) (λ k. some k ⊎ IsIn k (w ∷ ones)) (all_put_in ones queue) w.place
      f.0 f.1 (λ k. one-or-others some w ones k) (λ k. with-others some w ones k)
      (put-each some queue ones at.1 up.1 out.1 is) w refl (sym (turn-at items w f.0 at.0 f.1))
      (sym (wants-at items w f.0 at.0 f.1)) (sym (sustained-at items w f.0 at.0 f.1)) (sym (tier-at items w f.0 at.0 f.1))
      (not-twice some w ones out.0 (later items w ones at.0 at.1 up.0)) (inr (inl refl))

  -- all that wait are in one queue
  pub merged : (from served : List Waiting) → IsQueueIn items from served
      → IsQueue items (all_put_in (filter still_waits served) (filter still_waits from))
  merged from served parts =
      let ones = filter still_waits served in
      let out = all-in (λ k. (IsIn k served → ⊥) → ⊥) served (λ k here not-here. not-here here) in
      let all =
      put-each (λ k. IsIn k served → ⊥) (filter still_waits from) ones
      (all-filter (IsAt items) still_waits served parts.served_ones.each)
      (ascends-filter (λ w. w.turn) still_waits served parts.served_ones.ascending)
      (all-filter (λ w. (IsIn w.place served → ⊥) → ⊥) still_waits served out) parts.others in
      record {
        ascending = all.ascending;
        each = all.each;
        among = every (λ w. Unit {0}) (all_put_in ones (filter still_waits from)) (λ w. tt);
        whole = λ place f found any waits. elim (in-or-out place served) [
          | inl here ↦ all.whole place f found
              (inr (stays-in items served place f found waits parts.served_ones.each here)) waits
          | inr out' ↦ all.whole place f found (inl out') waits
        ];
      }
