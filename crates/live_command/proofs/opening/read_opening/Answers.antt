-- The line that was told is the opening.
use Rattle.std.proofs.Common.{inl}
use Rattle.std.proofs.lemmas.Result.{err_from_is_err_and}
use Rattle.text_stream.proofs.Outcome.{unfailed}
use Rattle.live_command.specs.Opening.{opening_in}
use Rattle.live_command.proofs.OpeningFaults.{faults-opening_in, opens_well, opens_badly, opens_long}
use Rattle.live_command.proofs.OpeningFaults.{stops_opening}
use Rattle.live_command.proofs.Failing.{unread}
use Rattle.live_command.proofs.opening.read_opening.Goals as goal

pub returns-in-Some-Line-clause-ok : goal.returns-in-Some-Line-clause-ok
returns-in-Some-Line-clause-ok g c =
    let found = rw (c.in-Some-Line.is, c.in-Some-Line.field-0-is) at c.in_ok-next_spoken.ensures.finds in
    let gives = rw c.line.ensures at c.opening_in.ensures in
    opens_well _ _ _ c.opening_in.result found gives

pub returns-in-Some-Line-clause-stops : goal.returns-in-Some-Line-clause-stops
returns-in-Some-Line-clause-stops g c =
    let found = rw (c.in-Some-Line.is, c.in-Some-Line.field-0-is) at c.in_ok-next_spoken.ensures.finds in
    let gives = rw c.line.ensures at c.opening_in.ensures in
    opens_badly _ _ _ _ c.opening_in.result found gives

pub returns-in-Some-Line-clause-failed : goal.returns-in-Some-Line-clause-failed
returns-in-Some-Line-clause-failed g c =
    let same = c.in_ok-next_spoken.ensures.failed in
    unread _ _ c.opening_in.result _ _ (unfailed (λ config. config) c.opening_in.result (opening_in c.line.result.now)
    (faults-opening_in c.line.result.now) c.opening_in.ensures _ _ same) same

pub returns-in-Some-Long-clause-stops : goal.returns-in-Some-Long-clause-stops
returns-in-Some-Long-clause-stops g c =
    let found = rw (c.in-Some-Long.is, c.in-Some-Long.field-0-is) at c.in_ok-next_spoken.ensures.finds in
    inl (_, opens_long _ _ _ found)

pub returns-in_err-next_spoken-clause-stops : goal.returns-in_err-next_spoken-clause-stops
returns-in_err-next_spoken-clause-stops g c =
    let p = err_from_is_err_and c.from_residual.result c.from_residual.ensures.1 in
    rw (p.1, p.2) (stops_opening _ _ _ c.in_err-next_spoken.ensures.stops)
