-- A line that is longer than the buffer is written behind those that waited.
use Rattle.std.proofs.Common.{◌∙◌, sym}
use Rattle.text_stream.proofs.Written.{where_written, Appends-past}
use Rattle.sched_lines.proofs.lines.LineBuffer.put_apart.Goals as goal

pub returns : goal.returns
returns g c =
    let out = c.in_ok-write_out.ensures in
    rw (sym c.self.view_is)
    (where_written _ c.put_reply_line-2.result (λ more. Appends-past _ _ _ _ _ _ out.written.0 more out.empty)
    (λ none. none ∙ out.written.1) c.put_reply_line-2.ensures)
