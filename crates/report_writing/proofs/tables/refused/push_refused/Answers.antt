-- One number more.
use Rattle.std.proofs.Common.{ℕ, List, ◌+◌, ◌++◌, ◌∙◌, get_or, nat_lt, sym, ap, append_assoc, append-nil, arith}
use Rattle.std.proofs.lemmas.Bool.{lt-ltb, le-ltb}
use Rattle.std.proofs.lemmas.List.Sums.{count_by_more_yes, count_by_more_no}
use Rattle.report_writing.specs.Tables.{refused_at, refused_begin, refused_cells}
use Rattle.report_writing.proofs.Appended.{one_more}
use Rattle.report_writing.proofs.RefusalsTold.{refused_at-some, refused_at-none}
use Rattle.report_writing.proofs.tables.refused.push_refused.Goals.{then-count-gt0+in_ok-push_begin+in_ok-push_cells, else-count-gt0}
use Rattle.report_writing.proofs.tables.refused.push_refused.Goals as goal

pub loop-place-preserved : goal.loop-place-preserved
loop-place-preserved c =
    let counts = c.args.refused.now in
    let i = c.loop-place.place in
    let told = c.loop-place.told in
    let count = get_or counts i 0 in
    let start = c.args.words.now.items in
    let so_far = c.loop-place.words.items in
    let at = c.loop-place.invariant in
    let below = c.loop-place-test.true in
    elim c.if-count-gt0.branch [
      | then-count-gt0+in_ok-push_begin+in_ok-push_cells w ↦
          let some = w.if-count-gt0.true in
          let end = w.push_cells.new.words.items in (
            omega (arith, w.told-is, at.0, count_by_more_yes (nat_lt 0) counts i 0 below (lt-ltb 0 count some)),
            rw (w.words-is) (one_more (refused_at counts) i start so_far end at.1
                (w.in_ok-push_cells.ensures
                ∙ ap (λ (t : List ℕ). t ++ refused_cells (i + 1) count) w.in_ok-push_begin.ensures
                ∙ append_assoc so_far (refused_begin told) (refused_cells (i + 1) count)
                ∙ ap (λ (t : List ℕ). so_far ++ t) (sym (refused_at-some counts i told at.0 some)))),
          )
      | else-count-gt0 w ↦
          let none = w.if-count-gt0.false in (
            omega (arith, w.told-is, at.0, count_by_more_no (nat_lt 0) counts i 0 below (le-ltb 0 count none)),
            rw (w.words-is) (one_more (refused_at counts) i start so_far so_far at.1
                (sym (ap (λ (t : List ℕ). so_far ++ t) (refused_at-none counts i none) ∙ append-nil so_far))),
          )
    ]
