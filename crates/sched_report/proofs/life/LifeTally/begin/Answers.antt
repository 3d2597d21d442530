-- Nothing is asked before any entry.
use Rattle.std.proofs.Common.{refl, sym, ap, ◌∙◌, arith}
use Rattle.std.proofs.lemmas.List.{append-nil}
use Rattle.sched_history.specs.Time.{next_after}
use Rattle.sched_report.proofs.life.LifeTally.begin.Goals as goal

pub returns-clause-life : goal.returns-clause-life
returns-clause-life c = λ config upto from. record {
  sid = refl;
  spec = refl;
  from = from ∙ ap (next_after config) (sym (append-nil upto));
  to = refl;
  service = c.new.ensures config;
  before = refl;
  carried = refl;
  told = refl;
  few = omega arith;
  unsolicited = refl;
  bounded = omega arith;
}
