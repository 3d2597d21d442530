-- One place more.
use Rattle.std.proofs.Common.{◌≡◌, ◌*◌, inl, inr, get_or, ◌∙◌, ap, sym, arith}
use Rattle.std.proofs.lemmas.Bool.{cases_lt}
use Rattle.std.proofs.lemmas.Grind.{get_or-set_at}
use Rattle.std.proofs.lemmas.List.{get_or-set_other, get_or_default, length-set}
use Rattle.report_picture.proofs.over_time.join.Goals as goal

pub loop-i-preserved : goal.loop-i-preserved
loop-i-preserved g c =
    let row = c.loop-i.row in
    let i = c.loop-i.i in
    let was = c.loop-i.invariant in
    record {
      long = length-set row i _ ∙ was.long;
      joined = λ j t below. elim (cases_lt j i) [
        | inl before ↦ get_or-set_other row i j _ t (λ same. omega (arith, before, same)) ∙ was.joined j t before
        | inr behind ↦
            let here : j ≡ i = omega (arith, below, behind) in
            get_or-set_at row i j _ t here (omega (arith, c.loop-i-test.true, was.long))
            ∙ c.index-row-i.is
            ∙ get_or_default row (2 * i) _ t (omega (arith, c.loop-i-test.true, was.long))
            ∙ was.same (2 * i) t (omega arith)
            ∙ ap (λ k. get_or c.args.row.now (2 * k) t) (sym here)
      ];
      same = λ j t above. get_or-set_other row i j _ t (λ same. omega (arith, above, same))
          ∙ was.same j t (omega (arith, above));
    }
