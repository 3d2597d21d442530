-- The life at the place of the SID has the element, and to no other it is a data grant.
use Rattle.std.proofs.Common.{ℕ, [], get_or, Option, refl, sym, ap, ◌∙◌, arith}
use Rattle.std.specs.List.{cons_option}
use Rattle.flow_book.specs.declared.flow.Grant.{Grant}
use Rattle.sched_calls.specs.declared.spec.FlowSpec.{FlowSpec}
use Rattle.sched_history.specs.Life.{grant_by}
use Rattle.sched_report.proofs.GrantedLaws.{HaveMore-none, HaveMore-set, no_grant-apart}
use Rattle.sched_report.proofs.Naming.{no_grant}
use Rattle.sched_report.proofs.lives.grant_at.Goals as goal

pub returns-then-place-lives : goal.returns-then-place-lives
returns-then-place-lives c =
    HaveMore-set c.args.config.now
    (λ (sid : ℕ). cons_option (grant_by sid c.args.start (c.args.element, c.args.bytes)) [])
    0 (λ (spec : FlowSpec) (sid : ℕ). 0) c.args.lives.now c.place_under-place.result
    c.index-lives-place.result c.grant.new.self
    (omega (arith, c.if-place-lives.true)) c.grant.ensures
    (λ k t below apart alive. no_grant-apart c.args.places.now c.args.lives.now c.requires.live k t below alive
    c.args.start c.args.bytes c.args.element (λ at. apart (at ∙ sym c.place_under-place.ensures)))
    (λ k t below apart alive. refl)

pub returns-else-place-lives : goal.returns-else-place-lives
returns-else-place-lives c =
    HaveMore-none c.args.config.now
    (λ (sid : ℕ). cons_option (grant_by sid c.args.start (c.args.element, c.args.bytes)) []) 0
    (λ (spec : FlowSpec) (sid : ℕ). 0) c.args.lives.now
    (λ k t below alive. no_grant-apart c.args.places.now c.args.lives.now c.requires.live k t below alive
    c.args.start c.args.bytes c.args.element
    (λ at. omega (arith, at, below, c.place_under-place.ensures, c.if-place-lives.false)))
    (λ k t below alive. refl)

pub returns-then-bytes-eq0 : goal.returns-then-bytes-eq0
returns-then-bytes-eq0 c =
    HaveMore-none c.args.config.now
    (λ (sid : ℕ). cons_option (grant_by sid c.args.start (c.args.element, c.args.bytes)) []) 0
    (λ (spec : FlowSpec) (sid : ℕ). 0) c.args.lives.now
    (λ k t below alive. ap (λ (o : Option Grant). cons_option o [])
    (no_grant (get_or c.args.lives.now k t).sid c.args.start c.args.bytes c.args.element
    (λ some. absurd (omega (arith, some, c.if-bytes-eq0.true)))))
    (λ k t below alive. refl)
