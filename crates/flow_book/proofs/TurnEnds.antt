-- Where those of a queue that come no later than a turn end.
use Rattle.std.proofs.Common.{◌≡◌, sym, nat_lt, nat_le, ◌≤◌, ℕ, List, length, get_or, inl, inr, ap, true, false, arith}
use Rattle.std.specs.List.{position_or_len}
use Rattle.std.specs.List.Sorted.{IsPartitionedBy, IsPartitionPoint}
use Rattle.std.proofs.lemmas.Bool.{cases_lt}
use Rattle.std.proofs.lemmas.Bool.Decides.{nat_tests}
use Rattle.std.proofs.lemmas.List.Sorted.{IsPartitionedBy-leb}
use Rattle.std.proofs.lemmas.List.Sums.{position_or_len_is}
use Rattle.sched_calls.specs.Sids.{AscendBy}
use Rattle.flow_book.specs.Bucket.{BucketView}
use Rattle.flow_book.specs.declared.waiting.Waiting.{Waiting}
use Rattle.flow_book.proofs.Searches.{rises}

pub nobody : Waiting
nobody =
    let none : BucketView = record { per_slot = 0; full = 0; level = 0; since = 0 } in
    record { turn = 0; wants = 0; place = 0; tier = 0; sustained = none }

module _ (queue : List Waiting) (turn : ℕ) (up : AscendBy (λ w. w.turn) queue) where
  -- those that come no later stand before the others
  pub parted : IsPartitionedBy (λ w. nat_le w.turn turn) queue
  parted =
      IsPartitionedBy-leb (λ (w : Waiting). w.turn) queue turn (λ i j d le lt. elim (cases_lt i j) [
        | inl less ↦ omega (arith, rises (λ (w : Waiting). w.turn) queue i j d up less lt)
        | inr more ↦ let same : i ≡ j = omega arith in omega (arith, ap (λ k. (get_or queue k d).turn) same)
      ])

  -- and where they end the first of a later turn stands
  pub ends-at : (at : ℕ) → at ≤ length queue
      → IsPartitionPoint (λ w. nat_le w.turn turn ≡ true) (λ w. nat_le w.turn turn ≡ false) queue at
      → at ≡ position_or_len (λ w. nat_lt turn w.turn) queue
  ends-at at bound halves =
      sym (position_or_len_is (λ (w : Waiting). nat_lt turn w.turn) queue at nobody bound
      (λ k lt. let early = halves.0 k nobody (omega arith) lt in grind (arith, nat_tests))
      (λ lt. let late = halves.1 at nobody (omega arith) lt in grind (arith, nat_tests)))
