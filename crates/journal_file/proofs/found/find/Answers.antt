-- A journal that was resumed.
use Rattle.std.proofs.Common.{inr}
use Rattle.std.proofs.lemmas.Result.{err_from_is_err_and}
use Rattle.journal_file.proofs.Finding.{found_to, too_torn}
use Rattle.journal_file.proofs.found.find.Goals as goal

pub returns-in_err-place-in-Ok-Ready-clause-stops : goal.returns-in_err-place-in-Ok-Ready-clause-stops
returns-in_err-place-in-Ok-Ready-clause-stops g c =
    let p = err_from_is_err_and c.from_residual.result c.from_residual.ensures.1 in
    let on = rw c.in-Ok-Ready.field-0-is at c.in-Ok-Ready.ensures.resumes in
    let stops = c.in_err-place-in-Ok-Ready.ensures.stops in
    rw (p.1, p.2, stops.0) (inr (too_torn (g.S.Store.contents c.args.store.now) _ c.args.size c.in-Ok-Ready.torn _
    c.requires c.ranges.size.fits stops.1 (rw c.new.ensures at on)))

pub returns-in_ok-place-in-Ok-Ready-clause-found : goal.returns-in_ok-place-in-Ok-Ready-clause-found
returns-in_ok-place-in-Ok-Ready-clause-found g c =
    let on = rw c.in-Ok-Ready.field-0-is at c.in-Ok-Ready.ensures.resumes in
    found_to (g.S.Store.contents c.args.store.now) _ c.args.size c.in-Ok-Ready.torn _ c.in-Ok-Ready.scheduler
    c.in_ok-place-in-Ok-Ready.place c.requires c.ranges.size.fits c.in_ok-place-in-Ok-Ready.ensures.ends
    c.recorded.ensures.value (rw c.new.ensures at on)
