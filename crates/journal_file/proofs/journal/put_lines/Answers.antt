-- One line more, and all lines.
use Rattle.std.proofs.Common.{◌≡◌, ℕ, ◌+◌, ◌<◌, List, [], ◌∷◌, ◌++◌, length, get_or, take, sym, ap, ◌∙◌, append-nil}
use Rattle.std.proofs.lemmas.List.{take_all, take_more}
use Rattle.std.proofs.lemmas.List.Concat.{flat_map-append}
use Rattle.std.specs.Prelude.{flat_map}
use Rattle.sched_calls.specs.declared.reply.Entry.{Entry}
use Rattle.history_writing.specs.Journal.{entry_line}
use Rattle.journal_file.proofs.journal.put_lines.Goals as goal

lines-more : (es : List Entry) (i : ℕ) (d e : Entry) (old new : List ℕ) → i < length es → e ≡ get_or es i d
    → old ≡ flat_map entry_line (take i es) → new ≡ old ++ entry_line e → new ≡ flat_map entry_line (take (i + 1) es)
lines-more es i d e old new below is so_far more =
    let one_more : flat_map entry_line (take (i + 1) es) ≡ flat_map entry_line (take i es) ++ entry_line e =
    ap (flat_map entry_line) (take_more es i d below)
    ∙ ap (λ y. flat_map entry_line (take i es ++ y ∷ [])) (sym is)
    ∙ flat_map-append entry_line (take i es) (e ∷ [])
    ∙ ap (λ (rest : List ℕ). flat_map entry_line (take i es) ++ rest) (append-nil (entry_line e)) in
    more ∙ ap (λ (known : List ℕ). known ++ entry_line e) so_far ∙ sym one_more

pub loop-entry-preserved : goal.loop-entry-preserved
loop-entry-preserved c =
    let at = c.loop-entry in
    lines-more c.args.entries.now at.entry-index c.entry-item.result c.entry-item.result _ _ c.loop-entry-test.true
    c.entry-item.is at.invariant c.in_ok-add_entry.ensures.ok

pub returns : goal.returns
returns c =
    let at = c.loop-entry in
    at.invariant ∙ ap (flat_map entry_line) (take_all at.entry-index c.args.entries.now c.loop-entry-test.false)
