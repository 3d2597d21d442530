-- The element out of range that is met is the least; past the last element there is none.
use Rattle.std.proofs.Common.{◌≡◌, true, false, not, sym, ap, ◌∙◌, arith, below_more}
use Rattle.map_codec.specs.MapFault.{is_out_at, judged}
use Rattle.map_codec.proofs.MapFaults.{out_found, out_nowhere}
use Rattle.map_codec.proofs.checking.check_range.Goals as goal

pub returns-then-not-is_element : goal.returns-then-not-is_element
returns-then-not-is_element c =
    let here : is_out_at c.args.elements.now c.loop-i.i ≡ true =
    ap not (sym c.is_element.ensures ∙ c.if-not-is_element.true) in
    sym (ap judged (out_found c.args.elements.now c.loop-i.i c.loop-i-test.true here c.loop-i.invariant))

pub loop-i-preserved : goal.loop-i-preserved
loop-i-preserved c =
    let here : is_out_at c.args.elements.now c.loop-i.i ≡ false =
    ap not (sym c.is_element.ensures ∙ c.if-not-is_element.false) in
    below_more _ _ c.loop-i.invariant here

pub returns : goal.returns
returns c =
    sym (ap judged (out_nowhere c.args.elements.now (λ k lt. c.loop-i.invariant k (omega arith))))
