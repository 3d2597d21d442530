-- The lines that waited at the end are written.
use Rattle.std.proofs.Common.{◌∙◌, length}
use Rattle.std.proofs.lemmas.Result.{err_from_is_err_and}
use Rattle.sched_history.specs.Reserves.{met_after}
use Rattle.text_stream.proofs.Written.{where_written}
use Rattle.frame_picture.specs.Meeting.{met_within, met_lists}
use Rattle.frame_picture.proofs.Drawn.{Appends-whole}
use Rattle.frame_picture.proofs.Meetings.{tells-front, tells-legal}
use Rattle.frame_picture.proofs.Parts.{whole_part}
use Rattle.frame_picture.proofs.picture.put_picture.Goals as goal

pub put_all-requires-clause-part : goal.put_all-requires-clause-part
put_all-requires-clause-part g c =
    let h = c.args.entries.now in
    let k = c.args.config.now in
    let found = met_lists c.args.found.now in (
      met_within k (length found),
      (
        h,
        whole_part _ (met_within k (length found)) c.args.span _ _ found h c.along_none-along.ensures.known
            c.along_none-along.ensures.first c.count_maps-total.ensures.value (tells-front k h found c.requires.met),
      ),
    )

pub returns-in_err-put_all-clause-drawn : goal.returns-in_err-put_all-clause-drawn
returns-in_err-put_all-clause-drawn g c =
    let h = c.args.entries.now in
    let k = c.args.config.now in
    let found = met_lists c.args.found.now in
    let p = err_from_is_err_and c.from_residual.result c.from_residual.ensures.1 in
    rw (p.1, p.2)
    (c.in_err-put_all.ensures (met_within k (length found)) h
    (whole_part _ (met_within k (length found)) c.args.span _ _ found h c.along_none-along.ensures.known
    c.along_none-along.ensures.first c.count_maps-total.ensures.value (tells-front k h found c.requires.met)))

pub returns-in_err-put_all-clause-legal : goal.returns-in_err-put_all-clause-legal
returns-in_err-put_all-clause-legal g c = λ legal.
    let h = c.args.entries.now in
    let k = c.args.config.now in
    let found = met_lists c.args.found.now in
    let p = err_from_is_err_and c.from_residual.result c.from_residual.ensures.1 in
    rw (p.1, p.2)
    (c.in_err-put_all.ensures (met_after k) h
    (whole_part _ (met_after k) c.args.span _ _ found h c.along_none-along.ensures.known
    c.along_none-along.ensures.first c.count_maps-total.ensures.value (tells-legal k h found c.requires.met legal)))

pub returns-clause-drawn : goal.returns-clause-drawn
returns-clause-drawn g c =
    let h = c.args.entries.now in
    let k = c.args.config.now in
    let found = met_lists c.args.found.now in
    let done = c.in_ok-put_all.ensures (met_within k (length found)) h
    (whole_part _ (met_within k (length found)) c.args.span _ _ found h c.along_none-along.ensures.known
    c.along_none-along.ensures.first c.count_maps-total.ensures.value (tells-front k h found c.requires.met)) in
    let drawn = rw (c.new-lines.ensures, c.scale_of-scale.ensures.value) at done in
    where_written _ c.write_out.result (λ out. Appends-whole _ _ _ _ _ drawn.0 out) (λ none. none ∙ drawn.1)
    c.write_out.ensures.written

pub returns-clause-legal : goal.returns-clause-legal
returns-clause-legal g c = λ legal.
    let h = c.args.entries.now in
    let k = c.args.config.now in
    let found = met_lists c.args.found.now in
    let done = c.in_ok-put_all.ensures (met_after k) h
    (whole_part _ (met_after k) c.args.span _ _ found h c.along_none-along.ensures.known
    c.along_none-along.ensures.first c.count_maps-total.ensures.value
    (tells-legal k h found c.requires.met legal)) in
    let drawn = rw (c.new-lines.ensures, c.scale_of-scale.ensures.value) at done in
    where_written _ c.write_out.result (λ out. Appends-whole _ _ _ _ _ drawn.0 out) (λ none. none ∙ drawn.1)
    c.write_out.ensures.written
