-- Those of a life are added.
use Rattle.std.proofs.Common.{◌≡◌, ◌∙◌, ap, arith}
use Rattle.flow_book.specs.Flows.{bytes_of}
use Rattle.sched_report.specs.Lives.{spec_of}
use Rattle.sched_report.specs.Said.{granted_in, grants_in, unsolicited_in}
use Rattle.sched_report.specs.Ranks.{both_least, both_greatest}
use Rattle.sched_report.proofs.Ranked.{AreRankSums-push, granted_under-asking}
use Rattle.sched_report.proofs.ranks.RankSums.add.Goals as goal

pub returns-clause-sums : goal.returns-clause-sums
returns-clause-sums c = λ k ls l is asks are.
    let s = c.args.self.now in
    let sums = c.sums-sums.ensures.sums k l is in
    let granted : granted_in k l ≡ bytes_of (grants_in l) =
    granted_under-asking (spec_of l) (unsolicited_in k l) (bytes_of (grants_in l)) asks in
    AreRankSums-push k s _ ls l are
    (omega (arith, c.from.ensures, sums.asks))
    (omega (arith, c.from-2.ensures, sums.granted, granted))
    (omega (arith, c.from-3.ensures, c.waiting.ensures k l is))
    (omega (arith, c.from-4.ensures, c.dropped.ensures k l is))
    (omega (arith, c.from-5.ensures, sums.replaced))
    (omega (arith, c.from-6.ensures, sums.delays.served))
    (c.both_least-self.ensures ∙ ap (λ o. both_least s.least o) sums.delays.least)
    (c.both_greatest-self.ensures ∙ ap (λ o. both_greatest s.greatest o) sums.delays.greatest)

pub overflow_add-self : goal.overflow_add-self
overflow_add-self c = omega (arith, c.requires.few.1.asks, c.requires.few.2, c.from.ensures)

pub overflow_add-self-2 : goal.overflow_add-self-2
overflow_add-self-2 c = omega (arith, c.requires.few.1.granted, c.requires.few.2, c.from-2.ensures)

pub overflow_add-self-3 : goal.overflow_add-self-3
overflow_add-self-3 c = omega (arith, c.requires.few.1.waiting, c.requires.few.2, c.from-3.ensures)

pub overflow_add-self-4 : goal.overflow_add-self-4
overflow_add-self-4 c = omega (arith, c.requires.few.1.dropped, c.requires.few.2, c.from-4.ensures)

pub overflow_add-self-5 : goal.overflow_add-self-5
overflow_add-self-5 c =
    omega (arith, c.requires.few.1.replaced, c.requires.few.2, c.from-5.ensures)

pub overflow_add-self-6 : goal.overflow_add-self-6
overflow_add-self-6 c =
    omega (arith, c.requires.few.1.served, c.requires.few.2, c.from-6.ensures, c.sums-sums.ensures.few)

pub returns-clause-few : goal.returns-clause-few
returns-clause-few c = λ n are. record {
  asks = omega (arith, are.asks, c.from.ensures);
  granted = omega (arith, are.granted, c.from-2.ensures);
  waiting = omega (arith, are.waiting, c.from-3.ensures);
  dropped = omega (arith, are.dropped, c.from-4.ensures);
  replaced = omega (arith, are.replaced, c.from-5.ensures);
  served = omega (arith, are.served, c.from-6.ensures, c.sums-sums.ensures.few);
}
