-- A frame more, where there is one.
use Rattle.std.proofs.Common.{◌≡◌, ◌<◌, ◌++◌, ◌∷◌, [], length, take, drop, inl, inr, refl, sym, subst, ap, ◌∙◌, arith}
use Rattle.std.proofs.lemmas.Bool.{cases_lt}
use Rattle.std.proofs.lemmas.List.{length_push}
use Rattle.frame_picture.specs.Frames.{Frame}
use Rattle.sched_calls.specs.declared.reply.TheConstants.{MAX_WHOLE_HISTORY}
use Rattle.sched_history.specs.History.{IsStep}
use Rattle.sched_report.specs.declared.totals.Totals.{Totals}
use Rattle.sched_report.specs.Uses.{slots_of}
use Rattle.sched_report.specs.Window.{Window, frames_told}
use Rattle.report_picture.specs.OverTime.{use_in}
use Rattle.report_picture.specs.Kept.{IsOverTime, IsTimed}
use Rattle.report_picture.proofs.Kept.{few_frames, no_map, frames-built, frames-unbuilt}
use Rattle.report_picture.proofs.timed.TimedReporter.take.Goals as goal

pub add-requires : goal.add-requires
add-requires c =
    let w = c.self.inside.reporter in
    let h = w.history in
    let short : length h < MAX_WHOLE_HISTORY = elim (cases_lt (length h) MAX_WHOLE_HISTORY) [
      | inl below ↦ below
      | inr full ↦ absurd (cc (c.in_ok-take.ensures.full.1 full))
    ] in (
      w.config,
      frames_told w,
      rw c.deref_mut.ensures.value c.self.invariant.over_time,
      omega (arith, few_frames w, short),
    )

pub invariant_of-self-in-Built : goal.invariant_of-self-in-Built
invariant_of-self-in-Built c =
    let w = c.self.inside.reporter in
    let h = w.history in
    let e = c.args.entry.now in
    let i = c.self.invariant in
    let more : Window = record w { history = h ++ e ∷ [] } in
    let f : Frame = record { before = take w.passed h ++ drop w.passed h; built = c.in-Built.map } in
    let frames : frames_told more ≡ frames_told w ++ f ∷ [] = frames-built w e c.in-Built.map i.passed c.in-Built.is in
    let taken : c.take.new.self ≡ more = c.in_ok-take.ensures.taken in
    let over_time : IsOverTime w.config c.add.new.self (frames_told more) =
    subst (IsOverTime w.config c.add.new.self) (sym frames)
    (c.add.ensures w.config (frames_told w) f (rw c.deref_mut.ensures.value i.over_time)
    (ap (λ (t : Totals). t.slots) c.totals.ensures
    ∙ ap (λ (w : Window). slots_of w.config (frames_told w)) taken ∙ ap (use_in w.config) frames) refl) in
    let short : length h < MAX_WHOLE_HISTORY = elim (cases_lt (length h) MAX_WHOLE_HISTORY) [
      | inl below ↦ below
      | inr full ↦ absurd (cc (c.in_ok-take.ensures.full.1 full))
    ] in
    subst (λ (w : Window). IsTimed w c.add.new.self) (sym taken) (record {
      over_time = over_time;
      short = omega (arith, short, length_push h e);
      passed = omega (arith, i.passed, length_push h e);
    })

pub invariant_of-self-in_default : goal.invariant_of-self-in_default
invariant_of-self-in_default c =
    let w = c.self.inside.reporter in
    let h = w.history in
    let e = c.args.entry.now in
    let i = c.self.invariant in
    let more : Window = record w { history = h ++ e ∷ [] } in
    let none = no_map e.reply (λ m is. c.in_default.not-Built m is) in
    let u = c.self.inside.over_time.value in
    let short : length h < MAX_WHOLE_HISTORY = elim (cases_lt (length h) MAX_WHOLE_HISTORY) [
      | inl below ↦ below
      | inr full ↦ absurd (cc (c.in_ok-take.ensures.full.1 full))
    ] in
    subst (λ (w : Window). IsTimed w u) (sym c.in_ok-take.ensures.taken) (record {
      over_time = subst (IsOverTime w.config u) (sym (frames-unbuilt w e i.passed none)) i.over_time;
      short = omega (arith, short, length_push h e);
      passed = omega (arith, i.passed, length_push h e);
    })

-- an entry that is taken is a step
pub returns-in-Built-clause-step : goal.returns-in-Built-clause-step
returns-in-Built-clause-step c =
    subst (λ (w : Window). IsStep w.config w.history c.args.entry.now.call c.args.entry.now.reply) c.self.view_is
    c.in_ok-take.ensures.step
