-- So many maps are published, and none waits.
use Rattle.std.proofs.Common.{◌≡◌, [], length}
use Rattle.bench.proofs.readers.publish_all.Given as goal

abbrev pub invariant-loop-before : goal.invariant-loop-before
invariant-loop-before g l = record { settled : l.press.waiting ≡ []; count : length l.press.list ≡ l.before }
