-- One delay more in its step, or in a new one.
use Rattle.std.proofs.Common.{◌<◌, ◌++◌, [], ◌∷◌, List, length, sym, ap, ◌∙◌, subst, if◌then◌else◌}
use Rattle.std.proofs.Common.{arith}
use Rattle.std.specs.Prelude.{is_ok}
use Rattle.std.specs.List.{insert}
use Rattle.sched_report.specs.declared.spread.Step.{Step}
use Rattle.sched_report.specs.Steps.{AreStepsOf}
use Rattle.sched_report.proofs.Steps.{few_counted, AreStepsOf-set, AreStepsOf-insert}
use Rattle.sched_report.proofs.spread.Spread.add.Goals as goal

pub overflow_add-index_mut : goal.overflow_add-index_mut
overflow_add-index_mut c =
    let v = c.args.self.now.steps in
    let inside : c.in-Ok.place < length v.items = omega (arith, c.in-Ok.ensures.inside, v.ok.0) in
    omega (
      arith,
      few_counted v.items c.requires.few.0 c.requires.few.1 c.in-Ok.place c.index_mut.result.now inside
          c.index_mut.ensures.value,
      c.requires.few.2,
    )

pub returns-in-Ok-clause-steps : goal.returns-in-Ok-clause-steps
returns-in-Ok-clause-steps c = λ ns are.
    let v = c.args.self.now.steps in
    let s = c.index_mut.result.now in
    let inside : c.in-Ok.place < length v.items = omega (arith, c.in-Ok.ensures.inside, v.ok.0) in
    AreStepsOf-set v.items ns are c.args.delay c.told_of-value.result c.told_of-value.ensures.near c.in-Ok.place s
    inside c.index_mut.ensures.value
    (ap (λ (s : Step). s.value) c.index_mut.ensures.value ∙ c.in-Ok.ensures.found s)

pub returns-in-Err-clause-steps : goal.returns-in-Err-clause-steps
returns-in-Err-clause-steps c = λ ns are.
    let steps = c.args.self.now.steps.items in
    let new : List Step =
    insert steps c.in-Err.place (record { value = c.told_of-value.result; count = 1 }) in
    subst (λ (ss : List Step). AreStepsOf ss (ns ++ c.args.delay ∷ []))
    (sym (c.insert.ensures.items ∙ ap (λ r. if is_ok r then new else steps) c.unwrap.ensures))
    (AreStepsOf-insert steps ns are c.args.delay c.told_of-value.result c.told_of-value.ensures.near c.in-Err.place)
