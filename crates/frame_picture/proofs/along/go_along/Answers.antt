-- A MAP more is counted, and the next frame starts where its own ends.
use Rattle.std.proofs.Common.{◌≡◌, ℕ, Option, ap, ◌∙◌, sym, arith}
use Rattle.frame_picture.proofs.FrameLists.{count-push}
use Rattle.sched_history.proofs.lists.Latests.{said-push, or_else}
use Rattle.frame_picture.specs.Along.{end_by, next_start}
use Rattle.frame_picture.proofs.along.go_along.Goals as goal

pub returns : goal.returns
returns c = λ h known.
    let e = c.args.entry.now in
    let scale = c.args.scale in
    let chosen : c.unwrap_or-along.result ≡ or_else (end_by scale.frame e.reply) (next_start scale h) =
    c.unwrap_or-along.ensures ∙ ap (λ (o : Option ℕ). or_else o (c.args.along.now.next)) c.end_by.ensures
    ∙ ap (λ (n : ℕ). or_else (end_by scale.frame e.reply) n) known.next in
    record {
      flows = c.note.ensures h known.flows;
      number = omega (arith, known.number, c.count_map.ensures.value, count-push h e);
      next = chosen ∙ sym (said-push (λ e. end_by scale.frame e.reply) scale.start h e);
    }
