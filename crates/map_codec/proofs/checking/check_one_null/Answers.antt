-- The second Null that is met is the least; at the end there is one Null or none.
use Rattle.std.proofs.Common.{◌≡◌, ◌≤◌, length, sym, ap, ◌∙◌, eq-eqb, arith}
use Rattle.std.proofs.lemmas.Bool.{ltb-true, ltb-false}
use Rattle.std.proofs.lemmas.List.{take_all}
use Rattle.map_codec.specs.Element.{nulls}
use Rattle.map_codec.specs.MapFault.{judged}
use Rattle.map_codec.proofs.MapFaults.{null_twice, null_nowhere, null_once}
use Rattle.map_codec.proofs.checking.check_one_null.Goals as goal

pub returns-then-is_met : goal.returns-then-is_met
returns-then-is_met c =
    let l = c.loop-i.invariant in
    let seen = ltb-true _ _ (sym l.is_met ∙ c.if-is_met.true) in
    sym (ap judged (null_twice c.args.elements.now c.loop-i.i c.loop-i-test.true (eq-eqb _ _ c.if-e-eq-NULL.true)
    seen l.none))

pub returns-then-is_met-2 : goal.returns-then-is_met-2
returns-then-is_met-2 c =
    let es = c.args.elements.now in
    let past : length es ≤ c.loop-i.i = omega arith in
    let all = ap nulls (take_all c.loop-i.i es past) in
    let seen = ltb-true _ _ (sym c.loop-i.invariant.is_met ∙ c.if-is_met-2.true) in
    let some : nulls es ≡ 0 → ⊥ = λ e. absurd (omega (arith, all, seen, e)) in
    sym (ap judged (null_once es some (λ k lt. c.loop-i.invariant.none k (omega (arith, past, lt)))))

pub returns-else-is_met-2 : goal.returns-else-is_met-2
returns-else-is_met-2 c =
    let es = c.args.elements.now in
    let past : length es ≤ c.loop-i.i = omega arith in
    let all = ap nulls (take_all c.loop-i.i es past) in
    let unseen = ltb-false _ _ (sym c.loop-i.invariant.is_met ∙ c.if-is_met-2.false) in
    sym (ap judged (null_nowhere es (omega (arith, all, unseen))))
