-- One line more, and all lines.
use Rattle.std.proofs.Common.{◌≡◌, ℕ, ◌+◌, ◌<◌, List, [], ◌∷◌, ◌++◌, length, get_or, take, sym, subst}
use Rattle.std.proofs.Common.{ap, ◌∙◌, append_assoc, append-nil}
use Rattle.std.proofs.lemmas.List.{take_all, take_more}
use Rattle.std.proofs.lemmas.List.Concat.{flat_map-append}
use Rattle.std.specs.Prelude.{flat_map}
use Rattle.sched_calls.specs.declared.reply.Entry.{Entry}
use Rattle.sched_lines.proofs.Fitting.{all-more}
use Rattle.history_writing.specs.Fits.{EntryFits}
use Rattle.history_writing.specs.Journal.{opening_line, entry_line}
use Rattle.history_writing.proofs.journal.journal_text.Goals as goal

lines-more : (es : List Entry) (i : ℕ) (d e : Entry) (front old new : List ℕ) → i < length es → e ≡ get_or es i d
    → old ≡ front ++ flat_map entry_line (take i es) → new ≡ old ++ entry_line e
    → new ≡ front ++ flat_map entry_line (take (i + 1) es)
lines-more es i d e front old new below is so_far more =
    let lines = flat_map entry_line (take i es) in
    let one_more : flat_map entry_line (take (i + 1) es) ≡ lines ++ entry_line e =
    ap (flat_map entry_line) (take_more es i d below)
    ∙ ap (λ y. flat_map entry_line (take i es ++ y ∷ [])) (sym is)
    ∙ flat_map-append entry_line (take i es) (e ∷ [])
    ∙ ap (λ (rest : List ℕ). lines ++ rest) (append-nil (entry_line e)) in
    more ∙ ap (λ (known : List ℕ). known ++ entry_line e) so_far ∙ append_assoc front lines (entry_line e)
    ∙ ap (λ (rest : List ℕ). front ++ rest) (sym one_more)

pub loop-entry-preserved : goal.loop-entry-preserved
loop-entry-preserved c =
    let at = c.loop-entry in
    let one = c.in_ok-extend_by_line.ensures in (
      lines-more c.args.entries.now at.entry-index c.entry-item.result c.entry-item.result
          (opening_line c.args.config.now) _ _ c.loop-entry-test.true c.entry-item.is at.invariant.0 one.ok,
      all-more EntryFits c.args.entries.now at.entry-index c.entry-item.result c.loop-entry-test.true at.invariant.1
          (subst EntryFits c.entry-item.is one.fits),
    )

pub returns-clause-ok : goal.returns-clause-ok
returns-clause-ok c =
    let at = c.loop-entry in
    at.invariant.0 ∙ ap (λ part. opening_line c.args.config.now ++ flat_map entry_line part)
    (take_all at.entry-index c.args.entries.now c.loop-entry-test.false)
