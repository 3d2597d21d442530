-- The first few.
use Rattle.std.proofs.Common.{rules, take, ◌<◌, ◌^◌, ap, ◌∙◌}
use Rattle.std.proofs.lemmas.List.{take_min}
use Rattle.std.proofs.lemmas.List.Elements.{All-take}
use Rattle.sched_report.specs.declared.life.LifeNumbers.{LifeNumbers}
use Rattle.report_writing.proofs.tables.flows.told_of.Goals as goal

pub returns-then-all-clause-told : goal.returns-then-all-clause-told
returns-then-all-clause-told c = rw (c.if-all.true) (search rules)

pub returns-clause-told : goal.returns-clause-told
returns-clause-told c =
    rw (c.if-all.false)
    (ap (λ n. take n c.args.lives.now) c.min.ensures ∙ take_min 30 c.args.lives.now)

pub returns-clause-small : goal.returns-clause-small
returns-clause-small c = All-take (λ (n : LifeNumbers). n.granted < 2 ^ 90) c.min.result c.args.lives.now c.requires
