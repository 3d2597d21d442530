-- The bytes before the place are the first ones of the opening's line.
use Rattle.std.proofs.Common.{◌≡◌, length}
use Rattle.journal_file.proofs.Comparing.{Compared}
use Rattle.journal_file.proofs.lacking.compare.Given as goal

abbrev pub invariant-loop-len : goal.invariant-loop-len
invariant-loop-len g l = record {
  compared : Compared (g.S.Store.contents l.fn.store) l.fn.opening l.rest l.at;
  room : length l.piece ≡ 256;
}

abbrev pub decreases-loop-len : goal.decreases-loop-len
decreases-loop-len g l = length l.rest
