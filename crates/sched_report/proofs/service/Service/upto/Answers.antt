-- The steps count the delays.
use Rattle.std.proofs.Common.{ℕ, List, sym, subst, arith}
use Rattle.sched_report.specs.Delays.{delays_of}
use Rattle.sched_report.specs.Steps.{CountsUpto}
use Rattle.std.proofs.lemmas.List.Sums.{count_by-le-length}
use Rattle.std.proofs.Common.{nat_le}
use Rattle.sched_report.proofs.Serving.{few_served}
use Rattle.sched_report.proofs.service.Service.upto.Goals as goal

pub upto-requires : goal.upto-requires
upto-requires c =
    let r = c.requires in (
      delays_of r.0 r.1,
      r.4.steps,
      omega (arith, r.4.delays.served, few_served r.0 c.args.self.now r.1 r.2 r.3 r.4, r.5),
    )

pub returns-clause-counts : goal.returns-clause-counts
returns-clause-counts c = λ k claims bytes grants is.
    subst (λ n. CountsUpto c.args.delay n (delays_of k claims)) (sym c.upto.ensures)
    (is.steps c.args.delay)

pub returns-clause-few : goal.returns-clause-few
returns-clause-few c =
    let r = c.requires in
    let ds : List ℕ = delays_of r.0 r.1 in
    omega (
      arith,
      c.upto.ensures,
      (r.4.steps c.args.delay).within,
      count_by-le-length (λ (m : ℕ). nat_le m c.args.delay) ds,
      r.4.delays.served,
      few_served r.0 c.args.self.now r.1 r.2 r.3 r.4,
      r.5,
    )
