-- One element more.
use Rattle.std.proofs.Common.{ℕ, refl, ap, arith}
use Rattle.std.specs.List.{zip, filter_map}
use Rattle.std.proofs.lemmas.List.{take_all}
use Rattle.std.proofs.lemmas.Slice.Zip.{length-zip}
use Rattle.sched_calls.specs.declared.spec.FlowSpec.{FlowSpec}
use Rattle.sched_history.specs.Life.{grant_by}
use Rattle.sched_report.proofs.Fronts.{first_grants}
use Rattle.sched_report.proofs.GrantedLaws.{HaveMore-none, HaveMore-is, HaveMore-next, HaveMore-live, MayGrantEach-next}
use Rattle.sched_report.proofs.lives.grant_each.Goals as goal

pub grant_at-requires-clause-live : goal.grant_at-requires-clause-live
grant_at-requires-clause-live c =
    HaveMore-live c.args.config.now
    (λ (sid : ℕ). first_grants sid c.args.start c.args.elements.now c.args.counts.now c.loop-i.i)
    0 (λ (spec : FlowSpec) (sid : ℕ). 0) c.args.lives.now c.loop-i.lives c.loop-i.auto.lives c.loop-i.invariant
    c.args.places.now c.requires.live

pub grant_at-requires-clause-granted : goal.grant_at-requires-clause-granted
grant_at-requires-clause-granted c =
    MayGrantEach-next c.args.config.now c.args.start c.args.elements.now c.args.counts.now c.loop-i.i _ _
    (omega (arith, c.min-i-end.ensures)) (omega (arith, c.min-i-end.ensures)) c.args.lives.now c.loop-i.lives
    c.loop-i.auto.lives c.loop-i.invariant c.requires.granted

pub loop-i-preserved : goal.loop-i-preserved
loop-i-preserved c =
    HaveMore-next c.args.config.now c.args.start c.args.elements.now c.args.counts.now c.loop-i.i _ _
    (omega (arith, c.min-i-end.ensures)) (omega (arith, c.min-i-end.ensures)) c.args.lives.now c.loop-i.lives
    c.grant_at.new.lives c.loop-i.auto.lives c.loop-i.invariant c.grant_at.ensures

pub loop-i-init : goal.loop-i-init
loop-i-init c =
    HaveMore-none c.args.config.now
    (λ (sid : ℕ). first_grants sid c.args.start c.args.elements.now c.args.counts.now 0)
    0 (λ (spec : FlowSpec) (sid : ℕ). 0) c.args.lives.now (λ k t below alive. refl) (λ k t below alive. refl)

pub returns : goal.returns
returns c =
    let z = zip c.args.elements.now c.args.counts.now in
    HaveMore-is c.args.config.now
    (λ (sid : ℕ). first_grants sid c.args.start c.args.elements.now c.args.counts.now c.loop-i.i)
    0 (λ (spec : FlowSpec) (sid : ℕ). 0) (λ (sid : ℕ). filter_map (grant_by sid c.args.start) z)
    0 (λ (spec : FlowSpec) (sid : ℕ). 0) c.args.lives.now c.loop-i.lives
    (λ sid. ap (filter_map (grant_by sid c.args.start)) (take_all c.loop-i.i z (omega (
      arith,
      length-zip c.args.elements.now c.args.counts.now,
      c.min-i-end.ensures,
      c.loop-i-test.false,
    ))))
    (omega arith) (λ spec sid. refl) c.loop-i.invariant
