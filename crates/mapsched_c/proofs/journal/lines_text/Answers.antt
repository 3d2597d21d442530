-- One line more, and all lines.
use Rattle.std.proofs.Common.{◌≡◌, ℕ, ◌+◌, ◌<◌, List, [], ◌∷◌, ◌++◌, length, get_or, take, sym, ap, ◌∙◌}
use Rattle.std.proofs.Common.{append-nil}
use Rattle.std.proofs.lemmas.List.{take_all, take_more}
use Rattle.std.proofs.lemmas.List.Concat.{flat_map-append}
use Rattle.sched_calls.specs.declared.reply.Entry.{Entry}
use Rattle.history_writing.specs.Journal.{entry_line}
use Rattle.mapsched_c.specs.Journal.{lines_of}
use Rattle.mapsched_c.proofs.journal.lines_text.Goals as goal

-- the lines of one entry more
lines-more : (es : List Entry) (i : ℕ) (d e : Entry) (old new : List ℕ) → i < length es → e ≡ get_or es i d
    → old ≡ lines_of (take i es) → new ≡ old ++ entry_line e → new ≡ lines_of (take (i + 1) es)
lines-more es i d e old new below is so_far more =
    let lines = lines_of (take i es) in
    let one_more : lines_of (take (i + 1) es) ≡ lines ++ entry_line e =
    ap lines_of (take_more es i d below)
    ∙ ap (λ y. lines_of (take i es ++ y ∷ [])) (sym is)
    ∙ flat_map-append entry_line (take i es) (e ∷ [])
    ∙ ap (λ (rest : List ℕ). lines ++ rest) (append-nil (entry_line e)) in
    more ∙ ap (λ (known : List ℕ). known ++ entry_line e) so_far ∙ sym one_more

pub loop-entry-preserved : goal.loop-entry-preserved
loop-entry-preserved c =
    let at = c.loop-entry in
    lines-more c.args.entries.now at.entry-index c.entry-item.result c.entry-item.result _ _
    c.loop-entry-test.true c.entry-item.is at.invariant c.in_ok-add_entry.ensures.ok

pub returns : goal.returns
returns c =
    let at = c.loop-entry in
    at.invariant ∙ ap lines_of (take_all at.entry-index c.args.entries.now c.loop-entry-test.false)
