-- One step more.
use Rattle.std.proofs.Common.{◌∷◌, [], ◌++◌, List, ap, ◌∙◌, sym, length, map, arith}
use Rattle.std.specs.List.{range_with_len}
use Rattle.std.proofs.lemmas.List.{length_push}
use Rattle.std.proofs.lemmas.List.FromFn.{map-range_with_len_more}
use Rattle.report_picture.specs.declared.over_time.Step.{Step}
use Rattle.report_picture.specs.OverTime.{step_at}
use Rattle.report_picture.proofs.over_time.UseOverTime.all_steps.Goals as goal

pub loop-i-preserved : goal.loop-i-preserved
loop-i-preserved c =
    let i = c.loop-i.i in
    let w = c.args.self.now.width in (
      omega (arith, ap length c.push.ensures, length_push c.loop-i.steps c.step.result, c.loop-i.invariant.0),
      λ k fs is.
          c.push.ensures
          ∙ ap (λ (ss : List Step). ss ++ c.step.result ∷ []) (c.loop-i.invariant.1 k fs is)
          ∙ ap (λ (s : Step). map (step_at k w fs) (range_with_len 0 i) ++ s ∷ []) (c.step.ensures k fs is)
          ∙ sym (map-range_with_len_more (step_at k w fs) 0 i i (omega arith)),
    )
