-- It is told so of the life at the place.
use Rattle.std.proofs.Common.{◌<◌, ◌≡◌, length, get_or, sym, ap, subst, arith}
use Rattle.sched_report.specs.declared.life.LifeTally.{LifeTally}
use Rattle.sched_report.specs.Lives.{lives_in, is_told}
use Rattle.sched_report.specs.Told.{IsLifeOf}
use Rattle.sched_report.specs.Window.{Window, lives_told}
use Rattle.sched_report.proofs.reporter.Reporter.is_told.Goals as goal

pub returns : goal.returns
returns c = λ life.
    let i = c.self.invariant.tally in
    let t = c.self.inside.tally in
    let ls = lives_in t.passed c.self.inside.auditor.history in
    let place = c.args.place in
    let below : place < length ls =
    omega (arith, c.requires, ap (λ (w : Window). length (lives_told w)) c.self.view_is) in
    let is : IsLifeOf t.config c.index.result.now (get_or ls place life) =
    subst (λ (it : LifeTally). IsLifeOf t.config it (get_or ls place life)) (sym c.index.ensures)
    (i.lives.each place c.index.result.now life (omega (arith, below, i.lives.long))) in
    subst (λ (w : Window). c.is_told.result ≡ is_told (get_or (lives_told w) place life)) c.self.view_is
    (c.is_told.ensures t.config (get_or ls place life) is)
