-- The least delay of which enough is told.
use Rattle.std.proofs.Common.{◌≡◌, ℕ, ◌*◌, ◌≤◌, List, length, Option, None, Some, sym, ap, ◌∙◌, subst, arith}
use Rattle.std.specs.Prelude.{option_map}
use Rattle.std.proofs.lemmas.Nat.{mul-le}
use Rattle.sched_report.specs.Delays.{greatest_of}
use Rattle.sched_report.specs.Spread.{is_enough, first_from, AreNear}
use Rattle.sched_report.specs.Ranks.{chosen, delays_in_all}
use Rattle.sched_report.proofs.NearTold.{all_within_greatest, part_of_all, IsNear-searched}
use Rattle.sched_report.proofs.percentiles.percentile.Goals as goal

pub overflow_mul-wanted : goal.overflow_mul-wanted
overflow_mul-wanted c =
    let self : c.args.served ≤ c.args.served = omega arith in
    omega (
      arith,
      mul-le c.from.result c.args.served 100 c.args.served (omega (arith, c.from.ensures, c.requires.percent)) self,
      c.requires.lives.3,
    )

pub search-requires-clause-enough : goal.search-requires-clause-enough
search-requires-clause-enough c = λ k ls are.
    let ds : List ℕ = delays_in_all k (chosen c.args.rank ls) in
    let is : greatest_of ds ≡ Some c.in-Some.greatest = sym (c.requires.greatest k ls are) ∙ c.in-Some.is in
    let wanted : c.from.result * c.args.served ≡ c.args.percent * length ds =
    ap (λ n. n * c.args.served) c.from.ensures ∙ ap (λ n. c.args.percent * n) (c.requires.served k ls are) in
    omega (
      arith,
      wanted,
      part_of_all c.args.percent (length ds) c.requires.percent,
      all_within_greatest ds c.in-Some.greatest is,
    )

pub returns-in-Some : goal.returns-in-Some
returns-in-Some c = λ k ls are.
    let ds : List ℕ = delays_in_all k (chosen c.args.rank ls) in
    let is : greatest_of ds ≡ Some c.in-Some.greatest = sym (c.requires.greatest k ls are) ∙ c.in-Some.is in
    let wanted : c.from.result * c.args.served ≡ c.args.percent * length ds =
    ap (λ n. n * c.args.served) c.from.ensures ∙ ap (λ n. c.args.percent * n) (c.requires.served k ls are) in
    subst (λ (o : Option ℕ). AreNear (option_map (first_from (is_enough c.args.percent ds) 0) o)
    (Some c.search.result)) (sym is)
    (IsNear-searched c.args.percent ds c.in-Some.greatest c.search.result c.requires.percent is
    (omega (arith, wanted, c.search.ensures.enough k ls are))
    (λ m before. omega (arith, wanted, c.search.ensures.least k ls are m before)))

pub returns-in-None : goal.returns-in-None
returns-in-None c = λ k ls are.
    let ds : List ℕ = delays_in_all k (chosen c.args.rank ls) in
    let is : greatest_of ds ≡ None = sym (c.requires.greatest k ls are) ∙ c.in-None.is in
    subst (λ (o : Option ℕ). AreNear (option_map (first_from (is_enough c.args.percent ds) 0) o) None) (sym is) tt
