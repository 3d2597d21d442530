-- A front of the line was read, and no read failed.
use Rattle.std.proofs.Common.{◌≡◌, false, length}
use Rattle.std.specs.Io.KnownBytes.{prepend_known}
use Rattle.text_stream.specs.declared.piece.TheConstants.{PIECE}
use Rattle.text_stream.proofs.Reading.{Reads}
use Rattle.text_stream.proofs.piece.read_line.Given as goal

abbrev pub invariant-loop : goal.invariant-loop
invariant-loop g l = record {
  reads : Reads (prepend_known l.fn.bytes.items (g.R.Source.remaining l.fn.reader)) (g.R.Source.remaining l.reader)
      l.is_long l.bytes.items l.counter l.count;
  short : l.fn.reads_on ≡ false → l.is_long ≡ false;
  piece : length l.piece ≡ PIECE;
  unfailed : g.R.Source.has_failed l.reader ≡ g.R.Source.has_failed l.fn.reader;
}
