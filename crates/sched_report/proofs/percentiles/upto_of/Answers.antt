-- All delays of a life of the rank, and none of another.
use Rattle.std.proofs.Common.{◌≡◌, [], ◌∷◌, true, false, cond, sym, ◌∙◌, subst}
use Rattle.std.proofs.lemmas.List.{append-nil}
use Rattle.sched_report.specs.Lives.{spec_of}
use Rattle.sched_report.specs.Said.{delays_in}
use Rattle.sched_report.specs.Ranks.{is_chosen, delays_in_all}
use Rattle.sched_report.specs.Steps.{CountsUpto}
use Rattle.sched_report.proofs.NearTold.{CountsUpto-none}
use Rattle.sched_report.proofs.percentiles.upto_of.Goals as goal

pub returns-then-is_chosen-clause-counts : goal.returns-then-is_chosen-clause-counts
returns-then-is_chosen-clause-counts c = λ k l is.
    let here : is_chosen c.args.rank (spec_of l) ≡ true = sym (c.is_chosen.ensures k l is) ∙ c.if-is_chosen.true in
    subst (λ b. CountsUpto c.args.delay c.upto.result (delays_in_all k (cond b (l ∷ []) []))) (sym here)
    (subst (CountsUpto c.args.delay c.upto.result) (sym (append-nil (delays_in k l))) (c.upto.ensures.counts k l is))

pub returns-else-is_chosen-clause-counts : goal.returns-else-is_chosen-clause-counts
returns-else-is_chosen-clause-counts c = λ k l is.
    let gone : is_chosen c.args.rank (spec_of l) ≡ false = sym (c.is_chosen.ensures k l is) ∙ c.if-is_chosen.false in
    subst (λ b. CountsUpto c.args.delay 0 (delays_in_all k (cond b (l ∷ []) []))) (sym gone)
    (CountsUpto-none c.args.delay)
