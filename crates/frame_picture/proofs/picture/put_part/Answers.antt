-- The lines that waited at the end are written.
use Rattle.std.proofs.Common.{◌∙◌, arith}
use Rattle.std.proofs.lemmas.Result.{err_from_is_err_and}
use Rattle.sched_history.specs.Reserves.{met_after}
use Rattle.text_stream.proofs.Written.{where_written}
use Rattle.frame_picture.proofs.Drawn.{Appends-whole}
use Rattle.frame_picture.proofs.FrameLists.{frames_of-≤}
use Rattle.frame_picture.proofs.Parts.{part_of}
use Rattle.frame_picture.proofs.picture.put_part.Goals as goal

pub put_all-requires-clause-part : goal.put_all-requires-clause-part
put_all-requires-clause-part g c =
    let p = c.args.part.now in (
      met_after p.config,
      (
        p.auditor.history,
        rw (c.scale_of-scale.ensures.value, c.deref.ensures.value, c.deref-2.ensures.value)
            (part_of _ _ _ _ _ _ _ c.requires.known.keeps),
      ),
    )

pub put_all-requires-clause-near : goal.put_all-requires-clause-near
put_all-requires-clause-near g c =
    let p = c.args.part.now in
    omega (arith, c.requires.known.keeps.count, frames_of-≤ p.auditor.history, c.requires.known.most)

pub returns-in_err-put_all : goal.returns-in_err-put_all
returns-in_err-put_all g c =
    let q = c.args.part.now in
    let p = err_from_is_err_and c.from_residual.result c.from_residual.ensures.1 in
    rw (p.1, p.2)
    (c.in_err-put_all.ensures (met_after q.config) q.auditor.history
    (rw (c.scale_of-scale.ensures.value, c.deref.ensures.value, c.deref-2.ensures.value)
    (part_of _ _ _ _ _ _ _ c.requires.known.keeps)))

pub returns : goal.returns
returns g c =
    let q = c.args.part.now in
    let done = c.in_ok-put_all.ensures (met_after q.config) q.auditor.history
    (rw (c.scale_of-scale.ensures.value, c.deref.ensures.value, c.deref-2.ensures.value)
    (part_of _ _ _ _ _ _ _ c.requires.known.keeps)) in
    let drawn = rw (c.new-lines.ensures, c.scale_of-scale.ensures.value) at done in
    where_written _ c.write_out.result (λ out. Appends-whole _ _ _ _ _ drawn.0 out) (λ none. none ∙ drawn.1)
    c.write_out.ensures.written
