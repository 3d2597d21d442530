-- The delays of one life more.
use Rattle.std.proofs.Common.{◌≡◌, ◌+◌, ◌<◌, ◌++◌, [], ◌∷◌, List, length, take, get_or, sym, ap, ◌∙◌, subst, arith}
use Rattle.std.proofs.lemmas.List.{take_all}
use Rattle.sched_report.specs.Lives.{PastLife}
use Rattle.sched_report.specs.Ranks.{chosen, delays_in_all}
use Rattle.sched_report.specs.Steps.{CountsUpto}
use Rattle.sched_report.proofs.LivesEach.{no_life}
use Rattle.sched_report.proofs.NearTold.{CountsUpto-none, CountsUpto-append}
use Rattle.sched_report.proofs.Ranked.{chosen-more, delays_in_all-append, life_at}
use Rattle.sched_report.proofs.percentiles.upto.Goals as goal

pub upto_of-requires : goal.upto_of-requires
upto_of-requires c =
    let i = c.loop-life.life-index in (
      c.requires.0,
      get_or c.requires.1 i no_life,
      life_at c.requires.0 c.args.lives.now c.requires.1 c.requires.2 i c.life-item.result no_life
          c.loop-life-test.true c.life-item.is,
    )

pub loop-life-init : goal.loop-life-init
loop-life-init c = record { counts = λ k ls are. CountsUpto-none c.args.delay; few = omega arith }

pub loop-life-preserved : goal.loop-life-preserved
loop-life-preserved c =
    let i = c.loop-life.life-index in
    let rank = c.args.rank in
    record {
      counts = λ k ls are.
          let inside : i < length ls = omega (arith, c.loop-life-test.true, are.long) in
          let l : PastLife = get_or ls i no_life in
          let more : delays_in_all k (chosen rank (take (i + 1) ls))
          ≡ delays_in_all k (chosen rank (take i ls)) ++ delays_in_all k (chosen rank (l ∷ [])) =
          ap (delays_in_all k) (chosen-more rank ls i no_life inside)
          ∙ delays_in_all-append k (chosen rank (take i ls)) (chosen rank (l ∷ [])) in
          let own : CountsUpto c.args.delay c.upto_of.result (delays_in_all k (chosen rank (l ∷ []))) =
          c.upto_of.ensures.counts k l
          (life_at k c.args.lives.now ls are i c.life-item.result no_life c.loop-life-test.true c.life-item.is) in
          subst (λ ds. CountsUpto c.args.delay (c.loop-life.count + c.from-count.result) ds) (sym more)
          (subst (λ n. CountsUpto c.args.delay (c.loop-life.count + n)
          (delays_in_all k (chosen rank (take i ls)) ++ delays_in_all k (chosen rank (l ∷ []))))
          (sym c.from-count.ensures)
          (CountsUpto-append c.args.delay c.loop-life.count c.upto_of.result
          (delays_in_all k (chosen rank (take i ls))) (delays_in_all k (chosen rank (l ∷ [])))
          (c.loop-life.invariant.counts k ls are) own));
      few = omega (arith, c.loop-life.invariant.few, c.from-count.ensures, c.upto_of.ensures.few);
    }

pub returns-clause-counts : goal.returns-clause-counts
returns-clause-counts c = λ k ls are.
    subst (λ (some : List PastLife). CountsUpto c.args.delay c.loop-life.count
    (delays_in_all k (chosen c.args.rank some)))
    (take_all c.loop-life.life-index ls (omega (arith, c.loop-life-test.false, are.long)))
    (c.loop-life.invariant.counts k ls are)
