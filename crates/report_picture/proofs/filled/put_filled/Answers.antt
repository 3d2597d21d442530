-- One character more.
use Rattle.std.proofs.Common.{◌≡◌, ◌∙◌, ◌+◌, Bool, true, false, take, get_or, slice_get, if◌then◌else◌, sym, ap, arith}
use Rattle.frame_picture.proofs.Drawn.{text_more}
use Rattle.report_picture.specs.Filled.{is_hole, part_text, holes}
use Rattle.report_picture.proofs.Filling.{holes-more}
use Rattle.report_picture.proofs.filled.put_filled.Goals.{then-is_hole, else-is_hole}
use Rattle.report_picture.proofs.filled.put_filled.Goals as goal

pub loop-i-preserved : goal.loop-i-preserved
loop-i-preserved g c =
    let cs = c.args.template.now in
    let i = c.loop-i.i in
    let more = holes-more cs i c.loop-i-test.true in
    let counted : c.if-is_hole.next ≡ holes (take (i + 1) cs) = elim c.if-is_hole.branch [
      | then-is_hole w ↦
          let hole : is_hole (get_or cs i 0) ≡ true = sym c.is_hole.ensures ∙ w.if-is_hole.true in
          w.next-is ∙ ap (λ n. n + 1) c.loop-i.invariant.0
          ∙ sym (more ∙ ap (λ (b : Bool). holes (take i cs) + (if b then 1 else 0)) hole)
      | else-is_hole w ↦
          let none : is_hole (get_or cs i 0) ≡ false = sym c.is_hole.ensures ∙ w.if-is_hole.false in
          let same = more ∙ ap (λ (b : Bool). holes (take i cs) + (if b then 1 else 0)) none in
          omega (arith, w.next-is, c.loop-i.invariant.0, same)
    ] in (
      counted,
      text_more _ _ _ (λ j. part_text (get_or cs j 0) (slice_get c.args.numbers.now (holes (take j cs)))) i
          c.loop-i.invariant.1 (rw (c.number_at.ensures, c.loop-i.invariant.0) at c.in_ok-put_part.ensures.0),
      c.in_ok-put_part.ensures.1 ∙ c.loop-i.invariant.2,
    )
