-- A line that is known is mended.
use Rattle.flow_book.proofs.shown.keep_line.Goals as goal

pub returns-then-is_known : goal.returns-then-is_known
returns-then-is_known c = λ c' items order are is. c.mend.ensures c' items are is
