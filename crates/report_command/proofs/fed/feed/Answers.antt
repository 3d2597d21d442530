-- Before any entry none is taken; the first entry that may not follow is the one that is named.
use Rattle.std.proofs.Common.{◌≡◌, ℕ, List, [], ◌++◌, length, take, drop, refl, sym, ap, ◌∙◌, subst, arith}
use Rattle.std.proofs.lemmas.List.{take-append-drop, drop_all}
use Rattle.minislots.specs.declared.config.Config.{Config as Configuration}
use Rattle.sched_calls.specs.declared.reply.Entry.{Entry}
use Rattle.std.proofs.lemmas.Option.{slice_get_read}
use Rattle.sched_history.specs.History.{IsStep, IsLegal}
use Rattle.sched_report.specs.Window.{Window}
use Rattle.report_command.specs.declared.range.Range.{Range}
use Rattle.report_command.specs.Range.{Ranged, GoesOn, ends_here, IsCut, window_of}
use Rattle.report_command.proofs.Ranges.{cut-any}
use Rattle.report_command.proofs.fed.feed.Goals as goal

pub loop-index-init : goal.loop-index-init
loop-index-init c = record { taken = c.in-Ok.ensures; legal = tt }

pub returns-in-Err-Illegal-clause-ok : goal.returns-in-Err-Illegal-clause-ok
returns-in-Err-Illegal-clause-ok c =
    let h = c.args.entries.now in
    let index = c.loop-index.index in
    let e = c.index-entries-index.result in
    let goes_on : GoesOn c.args.config.now c.args.range (take index h) =
    subst (λ (p : Ranged). GoesOn p.config p.range p.history) c.loop-index.invariant.taken
    (c.is_over.ensures.goes_on (c.if-is_over.false)) in (
      record {
        entry = e;
        stands = slice_get_read h (length h) index e refl (omega arith) c.index-entries-index.is;
        legal_before = c.loop-index.invariant.legal;
        no_step = subst (λ (p : Ranged). IsStep p.config p.history e.call e.reply → ⊥) c.loop-index.invariant.taken
            ((rw c.in-Err-Illegal.field-0-is at c.in-Err-Illegal.ensures).illegal refl);
      },
      goes_on,
    )

-- what was taken is legal, and what the reporter tells of
fed : (c : Configuration) (r : Range) (h : List Entry) (i : ℕ) (v : Ranged) (w : Window)
    → v ≡ record { config = c; range = r; history = take i h } → IsLegal c (take i h)
    → (w ≡ window_of v.config v.range (v.history ++ drop i h)) → w.history ≡ v.history
    → (w ≡ window_of c r h) × IsLegal c (window_of c r h).history
fed c r h i v w taken legal told same =
    let is : w ≡ window_of c r h =
    told ∙ ap (λ (v : Ranged). window_of v.config v.range (v.history ++ drop i h)) taken
    ∙ ap (window_of c r) (take-append-drop i h) in (
      is,
      subst (IsLegal c)
          (sym (ap (λ (v : Ranged). v.history) taken) ∙ sym same ∙ ap (λ (w : Window). w.history) is) legal,
    )

pub returns-then-is_over-clause-ok : goal.returns-then-is_over-clause-ok
returns-then-is_over-clause-ok c =
    let h = c.args.entries.now in
    let i = c.loop-index.index in
    let v = c.loop-index.reporter in
    fed c.args.config.now c.args.range h i v c.end.result c.loop-index.invariant.taken c.loop-index.invariant.legal
    (c.end.ensures.told (drop i h) (cut-any (drop i h) (ends_here v) (sym c.is_over.ensures.over ∙ c.if-is_over.true)))
    c.end.ensures.same

pub returns-clause-ok : goal.returns-clause-ok
returns-clause-ok c =
    let h = c.args.entries.now in
    let i = c.loop-index.index in
    let v = c.loop-index.reporter in
    let none : drop i h ≡ [] = drop_all i h (omega (arith, c.loop-index-test.false, c.loop-index.auto.index-end)) in
    fed c.args.config.now c.args.range h i v c.end-2.result c.loop-index.invariant.taken c.loop-index.invariant.legal
    (c.end-2.ensures.told (drop i h) (subst (λ (es : List Entry). IsCut es (ends_here v)) (sym none) tt))
    c.end-2.ensures.same
