-- A text that is longer than the buffer is written behind those that waited.
use Rattle.std.proofs.Common.{◌∙◌}
use Rattle.text_stream.proofs.Written.{where_written, Appends-past}
use Rattle.text_stream.proofs.buffer.TextBuffer.put.Goals as goal

pub returns : goal.returns
returns g c =
    let out = c.in_ok-write_out.ensures in
    where_written _ c.put.result (λ more. Appends-past _ _ _ _ _ _ out.written.0 more out.empty)
    (λ none. none ∙ out.written.1) c.put.ensures
