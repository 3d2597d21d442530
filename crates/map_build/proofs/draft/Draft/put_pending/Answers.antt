-- A pending grant more is put.
use Rattle.std.proofs.Common.{◌∙◌, sym, ap, subst, get_or, rules, arith}
use Rattle.std.proofs.lemmas.List.{take_all, take_more}
use Rattle.map_build.specs.Draft.{Puts, PutsPending}
use Rattle.map_build.specs.UsageCodes.{long_iuc}
use Rattle.map_build.proofs.Pendings.{PutsPending-more}
use Rattle.map_build.proofs.draft.Draft.put_pending.Goals as goal

pub loop-sid-init : goal.loop-sid-init
loop-sid-init c = search rules

pub loop-sid-preserved : goal.loop-sid-preserved
loop-sid-preserved c =
    let pending = c.args.pending.now in
    let old = c.args.self.now in
    let mid = c.loop-sid.self in
    let i = c.loop-sid.sid-index in
    let sid = get_or pending i 0 in
    let iuc = c.long_iuc-iuc.ensures ∙ ap long_iuc c.config.ensures.value in
    rw (take_more pending i 0 c.loop-sid-test.true)
    (PutsPending-more _ sid old mid c.put.new.self
    (c.loop-sid.invariant.offset ∙ c.requires ∙ sym (ap (λ o. o.config.frame) c.loop-sid.invariant.overlay))
    c.loop-sid.invariant (subst (λ code. Puts sid code 0 0 mid c.put.new.self) iuc c.in_ok-put.ensures))

pub returns : goal.returns
returns c =
    subst (λ sids. PutsPending sids c.args.self.now c.loop-sid.self)
    (take_all _ _ (omega (arith, c.loop-sid-test.false))) c.loop-sid.invariant
