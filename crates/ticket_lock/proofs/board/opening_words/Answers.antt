-- Each word of the row is what the core's world grants.
use Rattle.std.proofs.Common.{rules}
use Rattle.ticket_lock.proofs.Laid.{LaidTo-none, LaidTo-more, LaidTo-all}
use Rattle.ticket_lock.proofs.board.opening_words.Goals as goal

pub loop-index-init : goal.loop-index-init
loop-index-init c = LaidTo-none c.args.first

pub loop-index-preserved : goal.loop-index-preserved
loop-index-preserved c = LaidTo-more c.args.first c.loop-index.index c.loop-index.words _ _ c.loop-index.invariant
    (search rules) (search rules) (search rules)

pub returns : goal.returns
returns c = record {
  words = LaidTo-all c.args.first c.loop-index.index c.loop-index.words (search rules) (search rules)
      c.loop-index.invariant;
}
