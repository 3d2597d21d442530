-- One entry more is counted.
use Rattle.std.proofs.Common.{◌≡◌, ◌+◌, ◌++◌, List, ap, ◌∙◌, subst, refl, arith}
use Rattle.map_build.specs.declared.met.Met.{Met}
use Rattle.map_drawing.specs.Allocation.{allocations_of}
use Rattle.sched_calls.specs.declared.reply.Reply.{Reply}
use Rattle.sched_history.specs.History.{IsStep, map_by}
use Rattle.sched_history.specs.Reserves.{met_after}
use Rattle.sched_history.proofs.steps.LegalHistories.{IsNextMap-from_step}
use Rattle.frame_picture.specs.Frames.{is_unsolicited_after}
use Rattle.sched_report.specs.declared.totals.Totals.{Totals}
use Rattle.sched_report.specs.Uses.{slots_in, slots_among}
use Rattle.sched_report.specs.Totals.{with_frame}
use Rattle.sched_report.proofs.Frames.{of_next_frame, next_start-most}
use Rattle.sched_report.proofs.Totalled.{AreTotals-built, AreTotals-unbuilt, neither}
use Rattle.sched_report.proofs.totals.Totals.add.Goals as goal

pub add_frame-requires-clause-start : goal.add_frame-requires-clause-start
add_frame-requires-clause-start c =
    let k = c.args.config.now in
    let h = c.requires.0 ++ c.requires.1 in
    let e = c.args.entry.now in
    omega (
      arith,
      next_start-most k c.frame-frame.ensures.lawful h c.in-Built.map c.requires.2.legal
          (IsNextMap-from_step k h e.call c.in-Built.map
          (subst (λ (r : Reply). IsStep k h e.call r) c.in-Built.is c.requires.2.step)),
    )

pub add_frame-requires-clause-elements : goal.add_frame-requires-clause-elements
add_frame-requires-clause-elements c =
    let k = c.args.config.now in
    let h = c.requires.0 ++ c.requires.1 in
    let e = c.args.entry.now in
    of_next_frame k c.frame-frame.ensures.lawful h c.in-Built.map c.requires.2.legal
    (IsNextMap-from_step k h e.call c.in-Built.map
    (subst (λ (r : Reply). IsStep k h e.call r) c.in-Built.is c.requires.2.step))

pub returns-in-Built : goal.returns-in-Built
returns-in-Built c = λ before es counted.
    let k = c.args.config.now in
    let t = c.args.self.now in
    let m = c.in-Built.map in
    let calls = c.add.ensures es (ap (λ (t : Totals). t.calls) counted.counted.value) in
    let replaces = t.replaces + c.replacements_in.result in
    let new = c.add_frame.new.self in
    AreTotals-built k before es c.args.entry.now t c.add.new.self replaces counted.counted calls
    (ap (λ n. t.replaces + n) c.replacements_in.ensures) m new c.in-Built.is
    (subst (λ frame. new ≡ with_frame frame (record t { calls = c.add.new.self; replaces = replaces }) m
    (slots_in k (record { before = before ++ es; built = m }))) c.frame-frame.ensures.value
    (subst (λ (met : List Met). new ≡ with_frame c.frame-frame.result
    (record t { calls = c.add.new.self; replaces = replaces }) m
    (slots_among met (is_unsolicited_after (before ++ es)) (allocations_of m.wire.elements)))
    (counted.meets ∙ ap (met_after k (before ++ es)) c.in-Built.is)
    (c.add_frame.ensures.value (before ++ es) counted.told)))
    c.add_frame.ensures.bounded

pub returns-in-Skipped : goal.returns-in-Skipped
returns-in-Skipped c = λ before es counted.
    let t = c.args.self.now in
    let calls = c.add.ensures es (ap (λ (t : Totals). t.calls) counted.counted.value) in
    AreTotals-unbuilt c.args.config.now before es c.args.entry.now t c.add.new.self (t.replaces + c.replacements_in.result)
    counted.counted calls (ap (λ n. t.replaces + n) c.replacements_in.ensures)
    (t.skips + 1) (ap map_by c.in-Skipped.is) (rw c.in-Skipped.is refl)

pub returns-in_default : goal.returns-in_default
returns-in_default c = λ before es counted.
    let t = c.args.self.now in
    let e = c.args.entry.now in
    let calls = c.add.ensures es (ap (λ (t : Totals). t.calls) counted.counted.value) in
    let none = neither e.reply (λ m is. c.in_default.not-Built m is) (λ n is. c.in_default.not-Skipped n is) in
    AreTotals-unbuilt c.args.config.now before es e t c.add.new.self (t.replaces + c.replacements_in.result)
    counted.counted calls
    (ap (λ n. t.replaces + n) c.replacements_in.ensures) t.skips none.0
    (rw none.1 (omega arith))
