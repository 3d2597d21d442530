-- The second Null that is met is the least; at the end there is one Null or none.
use Rattle.std.proofs.Common.{◌≡◌, ◌<◌, ◌≤◌, length, sym, ap, ◌∙◌, eq-eqb, arith}
use Rattle.std.proofs.lemmas.Bool.{ltb-true, ltb-false}
use Rattle.std.proofs.lemmas.List.{take_all}
use Rattle.map_codec.specs.declared.element.Element.{Element}
use Rattle.map_codec.specs.Element.{elements_in, nulls}
use Rattle.map_codec.specs.DecodeFault.{checked}
use Rattle.map_codec.proofs.Words.{length-elements_in}
use Rattle.map_codec.proofs.Faults.{null_repeated, null_missing, null_fine}
use Rattle.map_codec.proofs.decoding.check_nulls.Goals as goal

pub returns-then-is_met : goal.returns-then-is_met
returns-then-is_met c =
    let es = elements_in c.args.words.now in
    let lt : c.loop-i.i < length es = omega (arith, length-elements_in c.args.words.now) in
    let null = ap (λ (e : Element). e.iuc) (sym c.read_element.ensures) ∙ c.if-read_element-eq-NULL.true in
    let seen = ltb-true _ _ (sym c.loop-i.invariant.is_met ∙ c.if-is_met.true) in
    sym (ap checked (null_repeated es c.loop-i.i lt (eq-eqb _ _ null) seen c.loop-i.invariant.none))

pub returns-then-is_met-2 : goal.returns-then-is_met-2
returns-then-is_met-2 c =
    let es = elements_in c.args.words.now in
    let past : length es ≤ c.loop-i.i = omega (arith, length-elements_in c.args.words.now) in
    let all = ap nulls (take_all c.loop-i.i es past) in
    let seen = ltb-true _ _ (sym c.loop-i.invariant.is_met ∙ c.if-is_met-2.true) in
    let some : nulls es ≡ 0 → ⊥ = λ e. absurd (omega (arith, all, seen, e)) in
    sym (ap checked (null_fine es some (λ k lt. c.loop-i.invariant.none k (omega (arith, past, lt)))))

pub returns-else-is_met-2 : goal.returns-else-is_met-2
returns-else-is_met-2 c =
    let es = elements_in c.args.words.now in
    let past : length es ≤ c.loop-i.i = omega (arith, length-elements_in c.args.words.now) in
    let all = ap nulls (take_all c.loop-i.i es past) in
    let unseen = ltb-false _ _ (sym c.loop-i.invariant.is_met ∙ c.if-is_met-2.false) in
    sym (ap checked (null_missing es (omega (arith, all, unseen))))
