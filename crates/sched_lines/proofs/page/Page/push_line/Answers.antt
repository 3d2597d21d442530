-- The text of a reply, and the newline.
use Rattle.std.proofs.Common.{append_assoc, refl}
use Rattle.sched_lines.specs.Line.{line_of}
use Rattle.sched_lines.proofs.page.Page.push_line.Goals as goal

pub returns-clause-put : goal.returns-clause-put
unfolding line_of
returns-clause-put c = rw (c.push.ensures, c.if-not-push_reply.ensures.put, append_assoc) refl
