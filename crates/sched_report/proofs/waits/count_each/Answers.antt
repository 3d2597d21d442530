-- One SID more.
use Rattle.std.proofs.Common.{◌<◌, ℕ, List, [], ◌∷◌, take, get_or, length, sym, subst, arith}
use Rattle.std.proofs.lemmas.List.{take_more, take_all, length-take-le}
use Rattle.sched_report.specs.declared.life.LifeTally.{LifeTally}
use Rattle.sched_report.specs.Waits.{HasCounted}
use Rattle.sched_report.proofs.WaitsLaws.{counted-most, HasCounted-then}
use Rattle.sched_report.proofs.WaitsSteps.{some_of}
use Rattle.sched_report.proofs.waits.count_each.Goals as goal

pub count_at-requires-clause-few : goal.count_at-requires-clause-few
count_at-requires-clause-few c = λ k n below.
    let within : k < length c.args.counts.now = omega (arith, below, c.loop-i.auto.counts) in
    let told : k < length c.args.lives.now = omega (arith, within, c.requires.long) in
    let t : LifeTally = some_of c.args.lives.now k told in
    omega (
      arith,
      c.requires.few k n within,
      c.loop-i.invariant k n t told,
      counted-most (take c.loop-i.i c.args.sids.now) (get_or c.args.lives.now k t),
      length-take-le c.loop-i.i c.args.sids.now (omega (arith, c.loop-i-test.true)),
      c.loop-i-test.true,
    )

pub loop-i-preserved : goal.loop-i-preserved
loop-i-preserved c =
    let sids = c.args.sids.now in
    let i = c.loop-i.i in
    subst (λ (some : List ℕ). HasCounted some c.args.lives.now c.args.counts.now c.count_at.new.counts)
    (sym (take_more sids i 0 (omega (arith, c.loop-i-test.true))))
    (HasCounted-then (take i sids) (get_or sids i 0 ∷ []) c.args.lives.now c.args.counts.now c.loop-i.counts
    c.count_at.new.counts c.loop-i.invariant c.count_at.ensures)

pub returns : goal.returns
returns c =
    subst (λ (some : List ℕ). HasCounted some c.args.lives.now c.args.counts.now c.loop-i.counts)
    (take_all c.loop-i.i c.args.sids.now (omega (arith, c.loop-i-test.false))) c.loop-i.invariant
