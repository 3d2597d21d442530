-- The first line is told, unless it is the opening.
use Rattle.live_command.proofs.Front.{reads_front, misses_front, unfailed_front, front_long, front_none}
use Rattle.live_command.proofs.Failing.{unread}
use Rattle.live_command.proofs.going.read_front.Goals as goal

pub returns-in-Some-Line-clause-ok : goal.returns-in-Some-Line-clause-ok
returns-in-Some-Line-clause-ok g c =
    let found = rw (c.in-Some-Line.is, c.in-Some-Line.field-0-is) at c.in_ok-next_spoken.ensures.finds in
    reads_front _ _ _ _ c.tell_first.result found (rw c.line.ensures at c.tell_first.ensures.ok)

pub returns-in-Some-Line-clause-stops : goal.returns-in-Some-Line-clause-stops
returns-in-Some-Line-clause-stops g c =
    let found = rw (c.in-Some-Line.is, c.in-Some-Line.field-0-is) at c.in_ok-next_spoken.ensures.finds in
    misses_front _ _ _ _ _ c.tell_first.result found (rw c.line.ensures at c.tell_first.ensures.err)

pub returns-in-Some-Line-clause-failed : goal.returns-in-Some-Line-clause-failed
returns-in-Some-Line-clause-failed g c =
    let same = c.in_ok-next_spoken.ensures.failed in
    unread _ _ c.tell_first.result _ _ (unfailed_front _ _ c.tell_first.result c.tell_first.ensures.err _ _ same) same

pub returns-in-Some-Long-clause-ok : goal.returns-in-Some-Long-clause-ok
returns-in-Some-Long-clause-ok g c =
    let found = rw (c.in-Some-Long.is, c.in-Some-Long.field-0-is) at c.in_ok-next_spoken.ensures.finds in
    front_long c.args.config.now _ _ _ found

pub returns-in-None-clause-ok : goal.returns-in-None-clause-ok
returns-in-None-clause-ok g c =
    let found = rw c.in-None.is at c.in_ok-next_spoken.ensures.finds in
    front_none _ _ _ c.next_spoken.new.lines found
