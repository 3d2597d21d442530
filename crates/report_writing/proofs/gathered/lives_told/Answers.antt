-- The numbers of one life more, where it is told of.
use Rattle.std.proofs.Common.{◌<◌, ◌^◌, sym, ◌∙◌, arith}
use Rattle.std.proofs.lemmas.List.Elements.{All-push}
use Rattle.sched_report.specs.declared.life.LifeNumbers.{LifeNumbers}
use Rattle.sched_report.proofs.LivesEach.{no_life}
use Rattle.report_writing.proofs.Gathering.{first-lives-more, first-lives-same}
use Rattle.report_writing.proofs.gathered.lives_told.Goals.{then-is_told+in_ok-push, else-is_told}
use Rattle.report_writing.proofs.gathered.lives_told.Goals as goal

pub loop-place-preserved : goal.loop-place-preserved
loop-place-preserved c =
    let w = c.args.reporter.now in
    let at = c.loop-place in
    elim c.if-is_told.branch [
      | then-is_told+in_ok-push b ↦
          rw (b.lives-is, b.in_ok-push.ensures.items) (
            first-lives-more w at.lives.items at.place no_life (omega (arith, c.loop-place-test.true)) at.invariant.0
                b.life.result (sym b.if-is_told.true ∙ c.is_told.ensures no_life) (b.life.ensures.told no_life),
            All-push (λ (n : LifeNumbers). n.granted < 2 ^ 90) at.lives.items b.life.result at.invariant.1
                b.life.ensures.few,
          )
      | else-is_told b ↦
          rw (b.lives-is) (
            first-lives-same w at.lives.items at.place no_life (omega (arith, c.loop-place-test.true)) at.invariant.0
                (sym b.if-is_told.false ∙ c.is_told.ensures no_life),
            at.invariant.1,
          )
    ]
