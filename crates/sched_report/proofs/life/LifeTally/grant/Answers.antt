-- A life that goes on has the element, and one that has ended is as it was.
use Rattle.std.proofs.Common.{◌≡◌, true, false, refl, sym, ap, ◌∙◌, arith}
use Rattle.std.specs.Prelude.{is_some}
use Rattle.sched_report.proofs.GrantedLaws.{HasMore-none}
use Rattle.sched_report.proofs.LifeTold.{no_end}
use Rattle.sched_report.proofs.life.LifeTally.grant.Goals as goal

pub returns-then-is_some : goal.returns-then-is_some
returns-then-is_some c =
    HasMore-none c.args.config.now _ 0 0 c.args.self.now
    (λ alive. absurd (let both : true ≡ false = sym c.if-is_some.true ∙ c.is_some.ensures ∙ ap is_some alive in cc))
    (λ alive. refl)

pub grant_element-requires-clause-granted : goal.grant_element-requires-clause-granted
grant_element-requires-clause-granted c =
    c.requires.granted (no_end c.args.self.now.to (sym c.is_some.ensures ∙ c.if-is_some.false))

pub returns : goal.returns
returns c = record {
  sid = refl;
  spec = refl;
  beginning = refl;
  to = refl;
  ended = λ never. absurd (never (no_end c.args.self.now.to (sym c.is_some.ensures ∙ c.if-is_some.false)));
  service = λ alive claims bytes before is. c.grant_element.ensures claims bytes before is;
  counted = λ alive. omega arith;
  few = omega arith;
}
