-- Why the lines behind the opening are not read to their end.
use Rattle.std.proofs.lemmas.Result.{err_from_is_err_and}
use Rattle.check_lines.proofs.Openings.{StopsLines-new}
use Rattle.check_lines.proofs.live.read_live.Goals as goal

pub returns-in_err-talk-in-Ok-Lawful-clause-stops : goal.returns-in_err-talk-in-Ok-Lawful-clause-stops
returns-in_err-talk-in-Ok-Lawful-clause-stops g c =
    let exit = c.from_residual-in_err-talk-in-Ok-Lawful in
    let p = err_from_is_err_and exit.result exit.ensures.1 in
    let at = (rw c.in-Ok-Lawful.field-0-is at c.in-Ok-Lawful.ensures).finds in
    rw (p.1, p.2) (StopsLines-new c.in_ok-lines.lines _ _ _ _ _ c.in_ok-lines.ensures at
    c.in_err-talk-in-Ok-Lawful.ensures.stops)
