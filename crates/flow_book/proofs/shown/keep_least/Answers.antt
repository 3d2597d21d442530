-- The first so many with a number more.
use Rattle.std.proofs.Common.{◌≡◌, ◌∙◌, ap, sym, take, map-id, insert, nat_lt, nat_le, rules, arith}
use Rattle.std.specs.List.{position_or_len}
use Rattle.std.specs.List.Sorted.{IsNonDecreasingBy}
use Rattle.std.proofs.lemmas.Bool.Decides.{nat_tests}
use Rattle.std.proofs.lemmas.List.Sorted.{IsPartitionPoint-from_clause, IsPartitionedBy-leb}
use Rattle.std.proofs.lemmas.List.Sums.{position_or_len_is}
use Rattle.sched_calls.specs.Sids.{put_in}
use Rattle.flow_book.specs.Line.{itself}
use Rattle.sched_calls.proofs.Insertion.{insert-put_in}
use Rattle.flow_book.proofs.Lines.{order-rises}
use Rattle.flow_book.proofs.shown.keep_least.Goals as goal

pub is_behind-requires : goal.is_behind-requires
is_behind-requires c = rw c.deref.ensures.value c.requires

pub returns-then-is_behind : goal.returns-then-is_behind
returns-then-is_behind c =
    sym (rw c.deref.ensures.value at c.is_behind.ensures c.if-is_behind.true)

pub returns : goal.returns
returns c =
    let line = c.args.line.now.items in
    let n = c.args.number in
    let place = c.partition_point-place in
    let up : IsNonDecreasingBy itself line = λ i j d le lt. order-rises line i j d c.requires le lt in
    let halves =
    IsPartitionPoint-from_clause (λ m. nat_le m n) line place.result (rw c.deref-2.ensures.value at place.ensures.partitioned)
    (IsPartitionedBy-leb itself line n up) (λ a r f k. search rules) in
    let bound = rw c.deref-2.ensures.value at place.ensures.bound in
    let at : place.result ≡ position_or_len (λ m. nat_lt n m) line =
    sym (position_or_len_is (λ m. nat_lt n m) line place.result 0 bound
    (λ k lt. let early = halves.0 k 0 (omega arith) lt in grind (arith, nat_tests))
    (λ lt. let late = halves.1 place.result 0 (omega arith) lt in grind (arith, nat_tests))) in
    let put = insert-put_in itself itself n line in
    c.truncate.ensures.items ∙ ap (take c.args.most) (c.in_ok-insert.ensures.items
    ∙ ap (λ k. insert line k n) at ∙ sym (map-id (insert line (position_or_len (λ m. nat_lt n m) line) n)) ∙ put
    ∙ ap (put_in itself n) (map-id line))
