-- A MAP may raise or lower the extremes, and other replies leave them.
use Rattle.std.proofs.Common.{◌-◌, ◌++◌, ℕ, List, Some, length-append, ap, ◌∙◌, arith}
use Rattle.std.specs.Prelude.{max, slice_index}
use Rattle.map_build.specs.declared.met.Met.{Met}
use Rattle.map_drawing.specs.Allocation.{allocations_of}
use Rattle.minislots.proofs.Bounds.{bounds_of}
use Rattle.sched_history.specs.Reserves.{met_after}
use Rattle.frame_picture.specs.Frames.{is_unsolicited_after}
use Rattle.sched_report.specs.Extremes.{clock_of, lesser_with}
use Rattle.sched_report.specs.Gaps.{is_free_in, longest_run}
use Rattle.sched_report.proofs.Extremal.{extremes-built, extremes-unbuilt}
use Rattle.sched_report.proofs.Frames.{of_next_frame}
use Rattle.sched_report.proofs.Watched.{no_map, lapsed_of, lapsed_few, next_map}
use Rattle.sched_report.proofs.extremes.Extremes.add.Goals as goal

pub overflow_sub-self : goal.overflow_sub-self
overflow_sub-self c = omega (
  arith,
  lapsed_of c.requires.0 c.requires.1 c.requires.2 _ _ _ _ _ _ c.args.entry.now c.in-Built.map c.requires.3 c.in-Built.is,
)

pub overflow_sub-self-in-Built : goal.overflow_sub-self-in-Built
overflow_sub-self-in-Built c = omega (
  arith,
  lapsed_of c.requires.0 c.requires.1 c.requires.2 _ _ _ _ _ _ c.args.entry.now c.in-Built.map c.requires.3 c.in-Built.is,
)

pub overflow_add-self : goal.overflow_add-self
overflow_add-self c =
    let w = c.requires.3 in
    omega (
      arith,
      lapsed_of c.requires.0 c.requires.1 c.requires.2 _ _ _ _ _ _ c.args.entry.now c.in-Built.map w c.in-Built.is,
      lapsed_few c.requires.0 c.requires.1 c.requires.2 _ _ _ _ _ _ c.args.entry.now c.in-Built.map w c.in-Built.is,
      w.watched.few,
      w.short,
      length-append c.requires.1 c.requires.2,
    )

pub add_map-requires : goal.add_map-requires
add_map-requires c =
    let w = c.requires.3 in
    of_next_frame c.requires.0 w.lawful (c.requires.1 ++ c.requires.2) c.in-Built.map w.legal
    (next_map c.requires.0 c.requires.1 c.requires.2 _ _ _ _ _ _ c.args.entry.now c.in-Built.map w c.in-Built.is)

pub returns-in-Built : goal.returns-in-Built
returns-in-Built c = λ k before es w.
    let e = c.args.entry.now in
    let m = c.in-Built.map in
    let old = c.args.self.now in
    let new = c.add_map.new.self in
    let h = before ++ es in
    let margin : ℕ = m.start - clock_of e.call in
    extremes-built k before es e old w.watched m new c.in-Built.is
    c.add_map.ensures.elements
    c.add_map.ensures.margin
    (c.add_map.ensures.gap h w.told
    ∙ ap (λ (met : List Met). Some (lesser_with
    (longest_run (is_free_in met (is_unsolicited_after h)) (allocations_of m.wire.elements)) old.gap))
    (w.meets ∙ ap (met_after k h) c.in-Built.is))
    c.add_map.ensures.places
    (λ receiver below. c.add_map.ensures.lags receiver (omega (arith, below, (bounds_of k w.lawful).receivers_most))
    ∙ ap (λ n. max (slice_index old.lags receiver) (m.start - n)) (w.heard receiver below))
    (omega (
      arith,
      c.add_map.ensures.lapsed,
      lapsed_of k before es _ _ _ _ _ _ e m w c.in-Built.is,
    ))
    (lapsed_few k before es _ _ _ _ _ _ e m w c.in-Built.is)

pub returns-in_default : goal.returns-in_default
returns-in_default c = λ k before es w.
    let e = c.args.entry.now in
    extremes-unbuilt k before es e c.args.self.now w.watched (no_map e.reply (λ m is. c.in_default.not-Built m is))
