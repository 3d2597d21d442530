-- The life at the place of the SID has the allocation, and to no other it is an unsolicited grant.
use Rattle.std.proofs.Common.{ℕ, [], refl, sym, ◌∙◌, arith}
use Rattle.sched_calls.specs.declared.spec.FlowSpec.{FlowSpec}
use Rattle.sched_report.specs.Said.{unsolicited_at}
use Rattle.sched_report.proofs.GrantedLaws.{HaveMore-none, HaveMore-set, no_unsolicited-apart}
use Rattle.sched_report.proofs.lives.count_at.Goals as goal

pub returns-then-place-lives : goal.returns-then-place-lives
returns-then-place-lives c = λ k.
    HaveMore-set k (λ (sid : ℕ). []) 1
    (λ (spec : FlowSpec) (sid : ℕ). unsolicited_at c.args.met.now spec sid c.args.allocation)
    c.args.lives.now c.place_under-place.result c.index-lives-place.result c.count_grant.new.self
    (omega (arith, c.if-place-lives.true))
    (c.count_grant.ensures k) (λ i t below apart alive. refl)
    (λ i t below apart alive. no_unsolicited-apart c.args.places.now c.args.lives.now c.requires.live i t below alive
    c.args.met.now c.args.allocation (λ at. apart (at ∙ sym c.place_under-place.ensures)))

pub returns-else-place-lives : goal.returns-else-place-lives
returns-else-place-lives c = λ k.
    HaveMore-none k (λ (sid : ℕ). []) 1
    (λ (spec : FlowSpec) (sid : ℕ). unsolicited_at c.args.met.now spec sid c.args.allocation)
    c.args.lives.now (λ i t below alive. refl)
    (λ i t below alive. no_unsolicited-apart c.args.places.now c.args.lives.now c.requires.live i t below alive
    c.args.met.now c.args.allocation
    (λ at. omega (arith, at, below, c.place_under-place.ensures, c.if-place-lives.false)))
