-- The expansion that is met is the least; past the last element there is none.
use Rattle.std.proofs.Common.{◌<◌, length, sym, ap, ◌∙◌, eq-eqb, arith}
use Rattle.map_codec.specs.declared.element.Element.{Element}
use Rattle.map_codec.specs.Element.{elements_in}
use Rattle.map_codec.specs.DecodeFault.{checked}
use Rattle.map_codec.proofs.Words.{length-elements_in}
use Rattle.map_codec.proofs.Faults.{expansion_found, expansion_none}
use Rattle.map_codec.proofs.decoding.check_expansions.Goals as goal

pub returns-then-read_element-eq-EXPANSION : goal.returns-then-read_element-eq-EXPANSION
returns-then-read_element-eq-EXPANSION c =
    let es = elements_in c.args.words.now in
    let lt : c.loop-i.i < length es = omega (arith, length-elements_in c.args.words.now) in
    let read = ap (λ (e : Element). e.iuc) (sym c.read_element.ensures) in
    let here = read ∙ c.if-read_element-eq-EXPANSION.true in
    sym (ap checked (expansion_found es c.loop-i.i lt (eq-eqb _ _ here) c.loop-i.invariant))

pub returns : goal.returns
returns c =
    let es = elements_in c.args.words.now in
    let count = length-elements_in c.args.words.now in
    sym (ap checked (expansion_none es (λ k lt. c.loop-i.invariant k (omega (arith, count, lt)))))
