-- The first bytes say what the file is checked as.
use Rattle.std.proofs.lemmas.Result.{err_from_is_err_and}
use Rattle.check_lines.proofs.Files.{StopsAny-look, unwritten, ChecksAny-as, StopsAny-as}
use Rattle.check_lines.proofs.check.run_check_any.Goals as goal

pub returns-in_err-look-clause-stops : goal.returns-in_err-look-clause-stops
returns-in_err-look-clause-stops g c =
    let p = err_from_is_err_and c.from_residual.result c.from_residual.ensures.1 in
    rw (p.1, p.2) (StopsAny-look _ _ _ c.in_err-look.ensures.err)

pub returns-in_err-look-clause-failed_write : goal.returns-in_err-look-clause-failed_write
returns-in_err-look-clause-failed_write g c =
    let p = err_from_is_err_and c.from_residual.result c.from_residual.ensures.1 in
    rw (p.1, p.2) (λ is. absurd (unwritten _ c.in_err-look.ensures.err is))

pub returns-clause-ok : goal.returns-clause-ok
returns-clause-ok g c =
    ChecksAny-as c.args.form g.R.Source.remaining c.look.new.self _ _ c.first.result.now c.in_ok-kind.kind
    c.in_ok-look.ensures.same c.in_ok-look.ensures.looked c.first.ensures c.in_ok-kind.ensures.ok _ _
    c.check_as.result c.check_as.ensures.ok

pub returns-clause-stops : goal.returns-clause-stops
returns-clause-stops g c =
    StopsAny-as c.args.form g.R.Source.remaining c.look.new.self _ _ c.first.result.now c.in_ok-kind.kind
    c.in_ok-look.ensures.same c.in_ok-look.ensures.looked c.first.ensures c.in_ok-kind.ensures.ok
    c.check_as.result c.check_as.ensures.stops
