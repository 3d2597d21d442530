-- The order of a stable sort by a key.
use Rattle.std.proofs.Common.{rules, ◌≡◌, ◌<◌, ◌^◌, ℕ, Bool, List, Result, Ok, Err, OnOk}
use Rattle.std.specs.declared.cmp.Reverse.{Reverse}
use Rattle.std.specs.List.Sorted.{IsPermutation, IsSortedBy, IsStableBy}
use Rattle.std.proofs.lemmas.List.Sorted.{All-permutation, answers_always}
use Rattle.sched_report.specs.declared.life.LifeNumbers.{LifeNumbers}
use Rattle.report_writing.specs.Flows.{AreByBytes, stands_before}
use Rattle.report_writing.proofs.tables.flows.order_lives.Goals as goal

-- where there was memory the lives are in order
in_order : {E : Type 0} (r : Result (Unit {0}) E) (old new : List LifeNumbers) (P : Type 0) → IsPermutation old new
    → IsStableBy stands_before old new → OnOk r P → (P → IsSortedBy stands_before new) → OnOk r (AreByBytes old new)
in_order (Ok v) old new P all stable sorted is = record { all = all; sorted = is sorted; stable = stable }
in_order (Err e) old new P all stable sorted is = tt

-- what the lives are sorted by
abbrev key : LifeNumbers → Reverse ℕ × Bool
key n = (record { 0 = n.sums.asked }, n.ended)

pub returns-then-all-clause-ordered : goal.returns-then-all-clause-ordered
returns-then-all-clause-ordered c = rw (c.if-all.true) (search rules)

pub returns-clause-ordered : goal.returns-clause-ordered
returns-clause-ordered c =
    let sort = c.sort_by_key.ensures in
    rw (c.if-all.false)
    (in_order c.sort_by_key.result c.args.lives.now.items c.sort_by_key.new.self.items _ sort.permutation
    (sort.stable key (answers_always _ (λ a r. r ≡ key a.0.now) _ (λ q a r q2 k. search rules))) sort.sorted
    (λ sorted. sorted key (answers_always _ (λ a r. r ≡ key a.0.now) _ (λ q a r q2 k. search rules))))

pub returns-clause-small : goal.returns-clause-small
returns-clause-small c =
    All-permutation (λ (n : LifeNumbers). n.granted < 2 ^ 90) c.args.lives.now.items c.sort_by_key.new.self.items
    c.sort_by_key.ensures.permutation c.requires
