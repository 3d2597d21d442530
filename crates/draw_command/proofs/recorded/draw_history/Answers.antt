-- The history that was read was drawn.
use Rattle.std.proofs.Common.{length}
use Rattle.frame_picture.specs.Meeting.{met_lists}
use Rattle.draw_command.proofs.recorded.draw_history.Goals as goal

pub returns-clause-ok : goal.returns-clause-ok
returns-clause-ok g c = record {
  history = record { config = c.in_ok-config.config; entries = c.in_ok-config.entries.items };
  read = c.in_ok-config.ensures.ok;
  legal = length (met_lists c.in-Ok.met.items);
  front = rw (c.deref.ensures.value) at c.in-Ok.ensures.front;
  written = rw (c.deref-2.ensures.value, c.deref-3.ensures.value) at c.in_ok-put_picture.ensures.drawn.0;
}
