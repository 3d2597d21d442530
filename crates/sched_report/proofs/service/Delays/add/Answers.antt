-- One delay more.
use Rattle.std.proofs.Common.{Some, sym, ap, ◌∙◌, arith}
use Rattle.std.specs.Prelude.{min, max}
use Rattle.std.specs.Option.{option_map_or}
use Rattle.std.proofs.lemmas.List.{length_push}
use Rattle.sched_report.proofs.Reaching.{least_of-push, greatest_of-push}
use Rattle.sched_report.proofs.service.Delays.add.Goals as goal

pub returns-clause-delays : goal.returns-clause-delays
returns-clause-delays c = λ delays are.
    let d = c.args.delay in
    record {
      served = omega (arith, are.served, length_push delays d);
      least = ap Some (c.least_with.ensures ∙ ap (λ o. option_map_or (λ least. min least d) o d) are.least)
          ∙ sym (least_of-push delays d);
      greatest = ap Some (c.greatest_with.ensures
          ∙ ap (λ o. option_map_or (λ greatest. max greatest d) o d) are.greatest)
          ∙ sym (greatest_of-push delays d);
    }
