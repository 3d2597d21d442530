-- The lines that waited at the end are written.
use Rattle.std.proofs.Common.{◌∙◌}
use Rattle.text_stream.proofs.Written.{where_written}
use Rattle.frame_picture.proofs.Drawn.{Appends-whole}
use Rattle.report_picture.proofs.picture.write_report.Goals as goal

pub returns : goal.returns
returns g c =
    let drawn = rw c.new-lines.ensures at c.in_ok-put_report.ensures in
    where_written _ c.write_out.result (λ out. Appends-whole _ _ _ _ _ drawn.0 out) (λ none. none ∙ drawn.1)
    c.write_out.ensures.written
