-- A life that goes on has the bytes of the allocation where it is an unsolicited grant to it.
use Rattle.std.proofs.Common.{◌≡◌, true, false, List, [], map, refl, sym, ap, ◌∙◌, subst, append-nil, arith}
use Rattle.std.specs.Prelude.{is_some}
use Rattle.sched_report.specs.Delays.{Claim}
use Rattle.sched_report.specs.Served.{IsServiceOf, with_grants}
use Rattle.sched_report.proofs.GrantedLaws.{HasMore-none}
use Rattle.sched_report.proofs.LifeTold.{no_end}
use Rattle.sched_report.proofs.Reaching.{same_claims}
use Rattle.sched_report.proofs.life.LifeTally.count_grant.Goals as goal

pub returns-then-is_some : goal.returns-then-is_some
returns-then-is_some c = λ k.
    HasMore-none k _ 1 _ c.args.self.now (λ alive. refl)
    (λ alive. absurd (let both : true ≡ false = sym c.if-is_some.true ∙ c.is_some.ensures ∙ ap is_some alive in cc))

pub returns : goal.returns
returns c = λ k. record {
  sid = refl;
  spec = refl;
  beginning = refl;
  to = refl;
  ended = λ never. absurd (never (no_end c.args.self.now.to (sym c.is_some.ensures ∙ c.if-is_some.false)));
  service = λ alive claims bytes before is.
      subst (IsServiceOf k c.args.self.now.service (map (with_grants []) claims) bytes) (sym (append-nil before))
      (subst (λ (ms : List Claim). IsServiceOf k c.args.self.now.service ms bytes before)
      (sym (same_claims claims)) is);
  counted = λ alive. omega (arith, c.from.ensures, c.unsolicited_at.ensures);
  few = omega (arith, c.from.ensures);
}
