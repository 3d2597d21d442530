-- One life more.
use Rattle.std.proofs.Common.{◌<◌, List, Some, length, take, get_or}
use Rattle.std.proofs.Common.{sym, subst, arith}
use Rattle.std.proofs.lemmas.List.{take_all}
use Rattle.sched_report.specs.Lives.{PastLife}
use Rattle.sched_report.specs.Ranks.{lives_of_rank, AreRankSums}
use Rattle.sched_report.proofs.LivesEach.{no_life}
use Rattle.sched_report.proofs.Ranked.{chosen-more, life_at}
use Rattle.sched_report.proofs.ranks.sums_of.Goals as goal

pub add_of-requires-clause-few : goal.add_of-requires-clause-few
add_of-requires-clause-few c =
    (c.loop-life.life-index, c.loop-life.invariant.few, omega (arith, c.loop-life-test.true))

pub add_of-requires-clause-life : goal.add_of-requires-clause-life
add_of-requires-clause-life c =
    let i = c.loop-life.life-index in (
      c.requires.0,
      get_or c.requires.1 i no_life,
      life_at c.requires.0 c.args.lives.now c.requires.1 c.requires.2 i c.life-item.result no_life
          c.loop-life-test.true c.life-item.is,
    )

pub loop-life-preserved : goal.loop-life-preserved
loop-life-preserved c =
    let i = c.loop-life.life-index in
    let rank = c.args.rank in
    record {
      sums = λ k ls are.
          let inside : i < length ls = omega (arith, c.loop-life-test.true, are.long) in
          let l : PastLife = get_or ls i no_life in
          subst (AreRankSums k c.add_of.new.self) (sym (chosen-more (Some rank) ls i no_life inside))
          (c.add_of.ensures.sums k (lives_of_rank rank (take i ls)) l
          (life_at k c.args.lives.now ls are i c.life-item.result no_life c.loop-life-test.true c.life-item.is)
          (c.loop-life.invariant.sums k ls are));
      few = c.add_of.ensures.few i c.loop-life.invariant.few;
    }

pub loop-life-init : goal.loop-life-init
loop-life-init c = record { sums = λ k ls are. c.none-sums.ensures.sums k; few = c.none-sums.ensures.few }

pub returns-clause-few : goal.returns-clause-few
returns-clause-few c =
    omega (arith, c.loop-life.invariant.few.served, c.loop-life-test.false, c.requires.2.long)

pub returns-clause-sums : goal.returns-clause-sums
returns-clause-sums c = λ k ls are.
    subst (λ (some : List PastLife). AreRankSums k c.loop-life.sums (lives_of_rank c.args.rank some))
    (take_all c.loop-life.life-index ls (omega (arith, c.loop-life-test.false, are.long)))
    (c.loop-life.invariant.sums k ls are)
