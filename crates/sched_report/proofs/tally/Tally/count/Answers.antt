-- The history with the entry is counted.
use Rattle.std.proofs.Common.{List, ℕ, Bool, [], ◌∷◌, ◌++◌, take, drop, refl, sym, ◌∙◌, subst, arith}
use Rattle.std.proofs.lemmas.List.{with_items_is, length_push}
use Rattle.map_build.proofs.EachAfterLaws.{EachAfter-push}
use Rattle.sched_calls.specs.declared.reply.Entry.{Entry}
use Rattle.sched_history.specs.History.{IsStep}
use Rattle.frame_picture.specs.Frames.{TellsUnsolicited}
use Rattle.sched_report.specs.Counts.{CountsRefusals}
use Rattle.sched_report.specs.Extremes.{AreExtremes}
use Rattle.sched_report.specs.Live.{AreLive}
use Rattle.sched_report.specs.RefusedSids.{CountsRefusedSids}
use Rattle.sched_report.specs.Totals.{AreTotals}
use Rattle.sched_report.proofs.Tallied.{at_more, is_counted, is_watched, may_follow, may_wait_both}
use Rattle.sched_report.proofs.tally.Tally.count.Goals as goal

pub add-requires : goal.add-requires
add-requires c =
    let t = c.args.self.now in
    let h = c.requires.may.0 in (
      take t.passed h,
      drop t.passed h,
      is_counted h t c.args.outlook.now c.args.left c.args.entry.now c.requires.may.1 c.deref.result.now
          c.as_slice-met.result.now c.deref.ensures c.as_slice-met.ensures.value,
    )

pub add-requires-2 : goal.add-requires-2
add-requires-2 c =
    let t = c.args.self.now in
    let h = c.requires.may.0 in (
      t.config,
      take t.passed h,
      drop t.passed h,
      is_watched h t c.args.outlook.now c.args.left c.args.entry.now c.requires.may.1 c.deref-2.result.now
          c.as_slice-met.result.now _ c.deref-2.ensures c.as_slice-met.ensures.value refl,
    )

pub count-requires-clause-may : goal.count-requires-clause-may
count-requires-clause-may c =
    let t = c.args.self.now in
    let h = c.requires.may.0 in (
      t.config,
      t.passed,
      h,
      may_wait_both h t c.args.outlook.now c.args.left c.args.entry.now c.requires.may.1 c.deref-3.result.now
          c.deref-3.ensures.value,
    )

pub follow-self-requires-clause-may : goal.follow-self-requires-clause-may
follow-self-requires-clause-may c =
    let t = c.args.self.now in
    let h = c.requires.may.0 in (
      t.passed,
      h,
      may_follow h t c.args.outlook.now c.args.left c.args.entry.now c.requires.may.1 c.as_slice-met.result.now
          c.as_slice-met.ensures.value,
    )

pub returns-clause-counted : goal.returns-clause-counted
returns-clause-counted c = λ h may.
    let t = c.args.self.now in
    let o = c.args.outlook.now in
    let left = c.args.left in
    let e = c.args.entry.now in
    let k = t.config in
    let front : List Entry = take t.passed h in
    let rest : List Entry = drop t.passed h in
    let met = c.as_slice-met.ensures.value in
    record {
      lawful = may.tally.lawful;
      legal = EachAfter-push (λ before x. IsStep k before x.call x.reply) [] h e may.tally.legal may.step;
      passed_few = omega (arith, may.tally.passed_few, length_push h e);
      told = c.note.ensures h
          (subst (λ (fs : List Bool). TellsUnsolicited fs h) (sym c.deref_mut.ensures.value) may.tally.told);
      totals = at_more h t o left e may (λ before es. AreTotals k before es c.add.new.self)
          (c.add.ensures front rest (is_counted h t o left e may _ _ c.deref.ensures met));
      extremes = at_more h t o left e may (λ before es. AreExtremes k before es c.add-2.new.self)
          (c.add-2.ensures k front rest (is_watched h t o left e may _ _ _ c.deref-2.ensures met refl));
      refused = at_more h t o left e may (λ before es. CountsRefusals c.count_refusal.new.counts es)
          (c.count_refusal.ensures rest may.tally.refused);
      sids = subst (λ (counts : List ℕ). CountsRefusedSids counts (drop t.passed (h ++ e ∷ [])))
          (sym (with_items_is t.refused_sids c.count_refused_sid.new.counts
          (c.count_refused_sid.auto.counts ∙ c.deref_mut-2.ensures.len)))
          (at_more h t o left e may (λ before es. CountsRefusedSids c.count_refused_sid.new.counts es)
          (c.count_refused_sid.ensures rest
          (subst (λ (counts : List ℕ). CountsRefusedSids counts rest) (sym c.deref_mut-2.ensures.value) may.tally.sids)));
      next = c.follow-self.ensures.next t.passed h (may_follow h t o left e may _ met);
      lives = c.follow-self.ensures.lives t.passed h (may_follow h t o left e may _ met);
      live = subst (λ (places : List ℕ). AreLive places c.follow-self.new.lives.items)
          (sym (with_items_is t.places c.follow-self.new.places
          (c.follow-self.auto.places ∙ c.deref_mut-3.ensures.len)))
          c.follow-self.ensures.live;
      waited = c.count.ensures k t.passed h (may_wait_both h t o left e may _ c.deref-3.ensures.value);
    }
