-- What is kept are the lives that pass.
use Rattle.std.proofs.Common.{rules, ◌<◌, ◌^◌}
use Rattle.std.proofs.lemmas.Fn.{filter_same}
use Rattle.std.proofs.lemmas.List.Elements.{All-filter}
use Rattle.sched_report.specs.declared.life.LifeNumbers.{LifeNumbers}
use Rattle.report_writing.specs.Reserved.{has_reservation}
use Rattle.report_writing.proofs.reserved.keep_reserved.Goals as goal

pub returns-clause-kept : goal.returns-clause-kept
returns-clause-kept c = filter_same _ _ _ (λ x b f' k. search rules) _ _ c.retain.ensures.filtered

pub returns-clause-few : goal.returns-clause-few
returns-clause-few c =
    rw (returns-clause-kept c)
    (All-filter has_reservation (λ (n : LifeNumbers). n.granted < 2 ^ 90) c.args.lives.now.items c.requires)
