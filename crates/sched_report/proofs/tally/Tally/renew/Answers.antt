-- Nothing is counted since.
use Rattle.std.proofs.Common.{◌≡◌, ℕ, List, [], length, take, drop, refl, sym, ap, ◌∙◌, subst, arith}
use Rattle.std.specs.Vec.{with_items}
use Rattle.std.proofs.lemmas.List.{with_items_is, drop_all, get_or-replicate}
use Rattle.sched_calls.specs.declared.reply.Entry.{Entry}
use Rattle.sched_report.specs.declared.life.LifeTally.{LifeTally}
use Rattle.sched_report.specs.Counts.{CountsRefusals}
use Rattle.sched_report.specs.Extremes.{AreExtremes}
use Rattle.sched_report.specs.RefusedSids.{CountsRefusedSids}
use Rattle.sched_report.specs.Live.{AreLive}
use Rattle.sched_report.specs.Lives.{lives_in}
use Rattle.sched_report.specs.Totals.{AreTotals}
use Rattle.sched_report.specs.ToldLives.{AreLives}
use Rattle.sched_report.specs.Waits.{AreWaited}
use Rattle.sched_report.proofs.Renewed.{AreWaited-renewed}
use Rattle.sched_report.proofs.tally.Tally.renew.Goals as goal

pub returns-clause-renewed : goal.returns-clause-renewed
returns-clause-renewed c = λ h is same.
    let t = c.args.self.now in
    let k = t.config in
    let p = c.args.passed in
    let none : drop p h ≡ [] = drop_all p h (omega (arith, same)) in
    let lives : (with_items t.lives c.renew_each.new.lives).items ≡ c.renew_each.new.lives =
    with_items_is t.lives c.renew_each.new.lives (c.renew_each.auto.lives ∙ c.deref_mut-2.ensures.len) in
    let sids : (with_items t.refused_sids c.renew_counts.new.counts).items ≡ c.renew_counts.new.counts =
    with_items_is t.refused_sids c.renew_counts.new.counts (c.renew_counts.auto.counts ∙ c.deref_mut.ensures.len) in
    let places : length c.renew_counts.new.counts ≡ 65536 =
    omega (arith, c.renew_counts.ensures.len, ap (λ (ns : List ℕ). length ns) c.deref_mut.ensures.value, is.sids.places) in
    record {
      lawful = is.lawful;
      legal = is.legal;
      passed_few = omega (arith, same);
      told = is.told;
      totals = subst (λ (es : List Entry). AreTotals k (take p h) es c.none-self.result) (sym none)
          (c.none-self.ensures (take p h));
      extremes = subst (λ (es : List Entry). AreExtremes k (take p h) es c.none-self-2.result) (sym none)
          (c.none-self-2.ensures k (take p h));
      refused = subst (CountsRefusals _) (sym none)
          (record { places = refl; each = λ place below. get_or-replicate 23 place 0 0 below });
      sids = subst (λ (counts : List ℕ). CountsRefusedSids counts (drop p h)) (sym sids)
          (subst (CountsRefusedSids c.renew_counts.new.counts) (sym none)
          (record {
            places = places;
            each = λ sid below. c.renew_counts.ensures.none sid 0 (omega (arith, below, places));
          }));
      next = is.next;
      lives = subst (λ (ts : List LifeTally). AreLives k ts (lives_in p h)) (sym lives)
          (subst (λ (n : ℕ). AreLives k c.renew_each.new.lives (lives_in n h)) (sym same)
          (c.renew_each.ensures.lives k t.passed h is.legal is.next
          (subst (λ (ts : List LifeTally). AreLives k ts (lives_in t.passed h)) (sym c.deref_mut-2.ensures.value) is.lives)));
      live = subst (AreLive t.places.items) (sym lives)
          (c.renew_each.ensures.live t.places.items
          (subst (AreLive t.places.items) (sym c.deref_mut-2.ensures.value) is.live));
      waited = subst (λ (n : ℕ). AreWaited k n h c.renew.new.self) (sym same)
          (AreWaited-renewed k h is.legal t.passed t.waited c.renew.new.self is.waited c.renew.ensures.under_len
          c.renew.ensures.held_len c.renew.ensures.under c.renew.ensures.held);
    }
