-- The row is written up to `index`.
use Rattle.ticket_lock.proofs.Laid.{LaidTo}
use Rattle.ticket_lock.proofs.board.opening_words.Given as goal

abbrev pub invariant-loop-index : goal.invariant-loop-index
invariant-loop-index l = LaidTo l.first l.index l.words
