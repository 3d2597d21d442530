-- The descent that is met is the least; past a Null, or past the last element, there is none.
use Rattle.std.proofs.Common.{◌≡◌, ◌<◌, ◌≤◌, false, length, sym, ap, ◌∙◌}
use Rattle.std.proofs.Common.{below_more, add-one, eq-eqb, ne_eqb, arith}
use Rattle.std.proofs.lemmas.Bool.{and_right, le-ltb}
use Rattle.map_codec.specs.declared.element.Element.{Element}
use Rattle.map_codec.specs.Element.{element_at, elements_in, is_null}
use Rattle.map_codec.specs.DecodeFault.{offset_before, checked}
use Rattle.map_codec.proofs.Words.{length-elements_in}
use Rattle.map_codec.proofs.Nulls.{nulls_more_no}
use Rattle.map_codec.proofs.Faults.{descending_found, descending_none, descending_none_past}
use Rattle.map_codec.proofs.decoding.check_order.Goals as goal

pub returns-then-e-latest : goal.returns-then-e-latest
returns-then-e-latest c =
    let es = elements_in c.args.words.now in
    let lt : c.loop-i.i < length es = omega (arith, length-elements_in c.args.words.now) in
    let offset = ap (λ (e : Element). e.offset) c.read_element-e.ensures in
    let l = c.loop-i.invariant in
    sym (ap checked (descending_found es c.loop-i.i lt l.no_null (omega (arith, offset)) l.none))

pub returns-then-e-eq-NULL : goal.returns-then-e-eq-NULL
returns-then-e-eq-NULL c =
    let es = elements_in c.args.words.now in
    let lt : c.loop-i.i < length es = omega (arith, length-elements_in c.args.words.now) in
    let offset = ap (λ (e : Element). e.offset) c.read_element-e.ensures in
    let null = ap (λ (e : Element). e.iuc) (sym c.read_element-e.ensures) ∙ c.if-e-eq-NULL.true in
    let below = c.loop-i.invariant.none in
    sym (ap checked (descending_none_past es c.loop-i.i lt (eq-eqb _ _ null) (omega (arith, offset)) below))

pub loop-i-preserved : goal.loop-i-preserved
loop-i-preserved c =
    let es = elements_in c.args.words.now in
    let lt : c.loop-i.i < length es = omega (arith, length-elements_in c.args.words.now) in
    let offset = ap (λ (e : Element). e.offset) c.read_element-e.ensures in
    let iuc = ap (λ (e : Element). e.iuc) c.read_element-e.ensures in
    let other : is_null (element_at es c.loop-i.i) ≡ false =
    ne_eqb _ _ (λ e. c.if-e-eq-NULL.false (iuc ∙ e)) in
    let kept : offset_before es c.loop-i.i ≤ (element_at es c.loop-i.i).offset = omega (arith, offset) in
    record {
      none = below_more _ _ c.loop-i.invariant.none (and_right _ _ (le-ltb _ _ kept));
      no_null = nulls_more_no es c.loop-i.i lt other ∙ c.loop-i.invariant.no_null;
      latest = rw add-one offset;
    }

pub returns : goal.returns
returns c =
    let es = elements_in c.args.words.now in
    let count = length-elements_in c.args.words.now in
    sym (ap checked (descending_none es (λ k lt. c.loop-i.invariant.none k (omega (arith, count, lt)))))
