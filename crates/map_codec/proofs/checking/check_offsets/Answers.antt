-- The descent that is met is the least; past a Null, or past the last element, there is none.
use Rattle.std.proofs.Common.{◌≡◌, ◌<◌, ◌≤◌, false, refl, sym, ap, ◌∙◌, below_more, add-one, eq-eqb, ne_eqb, arith}
use Rattle.std.proofs.lemmas.Bool.{and_right, le-ltb}
use Rattle.map_codec.specs.Element.{element_at, is_null}
use Rattle.map_codec.specs.DecodeFault.{offset_before}
use Rattle.map_codec.specs.MapFault.{judged}
use Rattle.map_codec.proofs.Nulls.{nulls_more_no}
use Rattle.map_codec.proofs.MapFaults.{descent_found, descent_nowhere, descent_not_past}
use Rattle.map_codec.proofs.checking.check_offsets.Goals as goal

pub returns-then-e-latest : goal.returns-then-e-latest
returns-then-e-latest c =
    let l = c.loop-i.invariant in
    let less : (element_at c.args.elements.now c.loop-i.i).offset < offset_before c.args.elements.now c.loop-i.i =
    omega (arith, l.latest, c.if-e-latest.true) in
    sym (ap judged (descent_found c.args.elements.now c.loop-i.i c.loop-i-test.true l.no_null less l.none))

pub returns-then-e-eq-NULL : goal.returns-then-e-eq-NULL
returns-then-e-eq-NULL c =
    let l = c.loop-i.invariant in
    let kept : offset_before c.args.elements.now c.loop-i.i ≤ (element_at c.args.elements.now c.loop-i.i).offset =
    omega (arith, l.latest, c.if-e-latest.false) in
    let null = eq-eqb _ _ c.if-e-eq-NULL.true in
    sym (ap judged (descent_not_past c.args.elements.now c.loop-i.i c.loop-i-test.true null kept l.none))

pub loop-i-preserved : goal.loop-i-preserved
loop-i-preserved c =
    let es = c.args.elements.now in
    let l = c.loop-i.invariant in
    let other : is_null (element_at es c.loop-i.i) ≡ false = ne_eqb _ _ c.if-e-eq-NULL.false in
    let kept : offset_before es c.loop-i.i ≤ (element_at es c.loop-i.i).offset =
    omega (arith, l.latest, c.if-e-latest.false) in
    record {
      none = below_more _ _ l.none (and_right _ _ (le-ltb _ _ kept));
      no_null = nulls_more_no es c.loop-i.i c.loop-i-test.true other ∙ l.no_null;
      latest = rw add-one refl;
    }

pub returns : goal.returns
returns c =
    sym (ap judged (descent_nowhere c.args.elements.now (λ k lt. c.loop-i.invariant.none k (omega arith))))
