-- The rows are those of the frames that are drawn.
use Rattle.std.proofs.Common.{◌≡◌, ◌-◌, ◌≤◌, length, ap, ◌∙◌, arith}
use Rattle.std.specs.Prelude.{min}
use Rattle.std.proofs.lemmas.Result.{err_from_is_err_and}
use Rattle.sched_calls.specs.declared.reply.TheConstants.{MAX_ENTRIES}
use Rattle.frame_picture.specs.Frames.{frames_of, frames_in}
use Rattle.frame_picture.specs.Picture.{frames_text}
use Rattle.frame_picture.proofs.Drawn.{then_text}
use Rattle.frame_picture.proofs.Parts.{rows_are, rows_few}
use Rattle.frame_picture.proofs.picture.put_all.Goals as goal

pub put_head-requires : goal.put_head-requires
put_head-requires g c =
    let a = c.args in
    let is : c.min-rows.result ≡ min a.span.count (a.total - a.span.from) =
    c.min-rows.ensures ∙ ap (min a.span.count) c.saturating_sub.ensures in
    let few : min a.span.count (a.total - a.span.from) ≤ MAX_ENTRIES =
    rows_few a.scale c.requires.part.0 a.span a.along.now a.total _ a.entries.now c.requires.part.1.0
    c.requires.part.1.1 c.requires.few in
    omega (arith, is, few)

pub put_axes-requires-clause-few : goal.put_axes-requires-clause-few
put_axes-requires-clause-few g c =
    let a = c.args in
    let is : c.min-rows.result ≡ min a.span.count (a.total - a.span.from) =
    c.min-rows.ensures ∙ ap (min a.span.count) c.saturating_sub.ensures in
    let few : min a.span.count (a.total - a.span.from) ≤ MAX_ENTRIES =
    rows_few a.scale c.requires.part.0 a.span a.along.now a.total _ a.entries.now c.requires.part.1.0
    c.requires.part.1.1 c.requires.few in
    omega (arith, is, few)

pub returns-in_err-put_rows : goal.returns-in_err-put_rows
returns-in_err-put_rows g c = λ met h part.
    let p = err_from_is_err_and c.from_residual-in_err-put_rows.result c.from_residual-in_err-put_rows.ensures.1 in
    rw (p.1, p.2) (c.in_err-put_rows.ensures met part.before part.known part.tells)

pub returns : goal.returns
unfolding frames_text
returns g c = λ met h part.
    let a = c.args in
    let rows : c.min-rows.result ≡ length (frames_in a.span (frames_of h)) =
    c.min-rows.ensures ∙ ap (min a.span.count) c.saturating_sub.ensures
    ∙ rows_are a.scale met a.span a.along.now a.total _ a.entries.now h part in
    let head = rw (rows, part.count) at c.in_ok-put_head.ensures in
    let axes = rw rows at c.in_ok-put_axes.ensures in
    let drawn = rw part.drawn at (c.in_ok-put_rows.ensures met part.before part.known part.tells) in
    then_text _ _ _ _ _ _ _ _ _ head
    (then_text _ _ _ _ _ _ _ _ _ axes
    (then_text _ _ _ _ _ _ _ _ _ drawn c.put.ensures))
