-- The numbers are those of the life at the place.
use Rattle.std.proofs.Common.{◌<◌, ◌≡◌, ℕ, length, get_or, sym, ap, subst, arith}
use Rattle.sched_report.specs.declared.life.LifeTally.{LifeTally}
use Rattle.sched_report.specs.Lives.{lives_in}
use Rattle.sched_report.specs.Window.{Window, lives_told}
use Rattle.sched_report.specs.Told.{IsLifeOf}
use Rattle.sched_report.specs.ToldLives.{AreLifeNumbers}
use Rattle.sched_report.specs.WaitsIn.{under_in, held_in}
use Rattle.sched_report.proofs.LivesEach.{no_life}
use Rattle.sched_report.proofs.LiveNow.{live_now}
use Rattle.sched_report.proofs.reporter.Reporter.life.Goals as goal

pub numbers-requires : goal.numbers-requires
numbers-requires c =
    let i = c.self.invariant.tally in
    let t = c.self.inside.tally in
    let ls = lives_in t.passed c.self.inside.auditor.history in
    let place = c.args.place in
    let below : place < length ls =
    omega (arith, c.requires, ap (λ (w : Window). length (lives_told w)) c.self.view_is) in (
      t.config,
      get_or ls place no_life,
      subst (λ (it : LifeTally). IsLifeOf t.config it (get_or ls place no_life)) (sym c.index.ensures)
          (i.lives.each place c.index.result.now no_life (omega (arith, below, i.lives.long))),
    )

pub returns-clause-told : goal.returns-clause-told
returns-clause-told c = λ life.
    let i = c.self.invariant.tally in
    let t = c.self.inside.tally in
    let h = c.self.inside.auditor.history in
    let ls = lives_in t.passed h in
    let place = c.args.place in
    let below : place < length ls =
    omega (arith, c.requires, ap (λ (w : Window). length (lives_told w)) c.self.view_is) in
    let is : IsLifeOf t.config c.index.result.now (get_or ls place life) =
    subst (λ (it : LifeTally). IsLifeOf t.config it (get_or ls place life)) (sym c.index.ensures)
    (i.lives.each place c.index.result.now life (omega (arith, below, i.lives.long))) in
    subst (λ (w : Window). AreLifeNumbers w.config c.numbers.result (get_or (lives_told w) place life))
    c.self.view_is
    (c.numbers.ensures.told t.config (get_or ls place life) is
    (live_now t.config t.passed h i.legal i.passed_few place life below t.next i.next)
    (sym (subst (λ (n : ℕ). under_in t.config (get_or ls place life) ≡ n) (sym c.index-2.ensures)
    (sym (i.waited.under.each place c.index-2.result.now life (omega (arith, below, i.waited.under.long))))))
    (sym (subst (λ (n : ℕ). held_in t.config (get_or ls place life) ≡ n) (sym c.index-3.ensures)
    (sym (i.waited.held.each place c.index-3.result.now life (omega (arith, below, i.waited.held.long)))))))
