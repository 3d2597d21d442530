-- A MAP is a frame more, and a skip says where the next one starts.
use Rattle.std.proofs.Common.{◌≡◌, ℕ, ◌+◌, false, None, refl, sym, ap, ◌∙◌}
use Rattle.sched_calls.specs.declared.frame_map.FrameMap.{FrameMap}
use Rattle.sched_calls.specs.declared.reply.Reply.{Reply}
use Rattle.sched_calls.specs.declared.reply.Reply.TheVariants as replies
use Rattle.sched_history.specs.Time.{skip_by, is_built}
use Rattle.sched_history.proofs.time.TimeAfter.{next_after-built, next_after-skipped, next_after-same}
use Rattle.sched_report.proofs.lives.next_with.Goals as goal

pub returns-in-Built : goal.returns-in-Built
returns-in-Built c = λ h is.
    ap (λ n. c.args.next + n) (c.from.ensures ∙ c.frame.ensures.value) ∙ ap (λ n. n + c.args.config.now.frame) is
    ∙ sym (next_after-built c.args.config.now h c.args.entry.now c.in-Built.field-0 c.in-Built.is)

pub returns-in-Skipped : goal.returns-in-Skipped
returns-in-Skipped c = λ h is.
    sym (next_after-skipped c.args.config.now h c.args.entry.now c.in-Skipped.start c.in-Skipped.is)

-- a reply that has no MAP and leaves out no frame
unmoved : (reply : Reply) → ((m : FrameMap) → reply ≡ replies.Built m → ⊥)
    → ((n : ℕ) → reply ≡ replies.Skipped n → ⊥)
    → (skip_by reply ≡ None) × (is_built reply ≡ false)
unmoved (replies.Built m) unbuilt unskipped = absurd (unbuilt m refl)
unmoved (replies.Skipped n) unbuilt unskipped = absurd (unskipped n refl)
unmoved (replies.Admitted placement) unbuilt unskipped = (refl, refl)
unmoved (replies.Changed placement) unbuilt unskipped = (refl, refl)
unmoved replies.Removed unbuilt unskipped = (refl, refl)
unmoved replies.Taken unbuilt unskipped = (refl, refl)
unmoved replies.Noted unbuilt unskipped = (refl, refl)
unmoved replies.Reserved unbuilt unskipped = (refl, refl)
unmoved (replies.Flow asked granted outstanding) unbuilt unskipped = (refl, refl)
unmoved (replies.Refused refusal) unbuilt unskipped = (refl, refl)

pub returns-in_default : goal.returns-in_default
returns-in_default c = λ h is.
    let e = c.args.entry.now in
    let still =
    unmoved e.reply (λ m built. c.in_default.not-Built m built) (λ n skips. c.in_default.not-Skipped n skips) in
    is ∙ sym (next_after-same c.args.config.now h e still.0 still.1)
