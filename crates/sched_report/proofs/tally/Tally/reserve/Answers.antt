-- Room alone is another.
use Rattle.std.proofs.Common.{ℕ, List, subst}
use Rattle.sched_report.specs.Live.{AreLive}
use Rattle.sched_report.specs.Lives.{lives_in}
use Rattle.sched_report.proofs.WaitsSteps.{AreWaited-same}
use Rattle.sched_report.proofs.tally.Tally.reserve.Goals as goal

pub returns-in_err-reserve_for-clause-same : goal.returns-in_err-reserve_for-clause-same
returns-in_err-reserve_for-clause-same c = λ h is.
    let t = c.args.self.now in
    record {
      lawful = is.lawful;
      legal = is.legal;
      passed_few = is.passed_few;
      told = is.told;
      totals = is.totals;
      extremes = is.extremes;
      refused = is.refused;
      sids = is.sids;
      next = is.next;
      lives = c.reserve_for.ensures.same t.config (lives_in t.passed h) is.lives;
      live = subst (λ (places : List ℕ). AreLive places c.reserve_for.new.lives.items) c.deref.ensures.value
          c.reserve_for.ensures.live;
      waited = is.waited;
    }

pub returns-clause-same : goal.returns-clause-same
returns-clause-same c = λ h is.
    let t = c.args.self.now in
    record {
      lawful = is.lawful;
      legal = is.legal;
      passed_few = is.passed_few;
      told = is.told;
      totals = is.totals;
      extremes = is.extremes;
      refused = is.refused;
      sids = is.sids;
      next = is.next;
      lives = c.reserve_for.ensures.same t.config (lives_in t.passed h) is.lives;
      live = subst (λ (places : List ℕ). AreLive places c.reserve_for.new.lives.items) c.deref.ensures.value
          c.reserve_for.ensures.live;
      waited = AreWaited-same t.config t.passed h t.waited c.reserve.new.self c.reserve.ensures.same_under
          c.reserve.ensures.same_held is.waited;
    }
