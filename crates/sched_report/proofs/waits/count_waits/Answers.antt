-- The lives that there were are counted, and one that begins is counted from nothing.
use Rattle.std.proofs.Common.{◌≡◌, ℕ, ◌++◌, ◌∷◌, [], List, length, sym, ap, ◌∙◌, subst}
use Rattle.std.proofs.lemmas.List.{with_items_is}
use Rattle.sched_report.specs.Waits.{HasCounted, AreWaits}
use Rattle.sched_report.proofs.WaitsSteps.{no_opening, some_opening, AreWaits-more, AreWaits-push}
use Rattle.sched_report.proofs.waits.count_waits.Goals as goal

pub returns-then-is_some : goal.returns-then-is_some
returns-then-is_some c = λ s k p h may.
    let e = c.args.entry.now in
    let old = c.args.counts.now.items in
    let new = c.count_each.new.counts in
    let some = some_opening c.opening_of.result (sym c.is_some.ensures ∙ c.if-is_some.true) in
    let long : length new ≡ length old = c.count_each.auto.counts ∙ ap length c.deref_mut.ensures.value in
    let counted : HasCounted c.args.sids.now c.args.lives.now old new =
    subst (λ (a : List ℕ). HasCounted c.args.sids.now c.args.lives.now a new) c.deref_mut.ensures.value
    c.count_each.ensures in
    subst (AreWaits s k p (h ++ e ∷ []))
    (sym (c.push_reserved.ensures.items ∙ ap (λ (a : List ℕ). a ++ 0 ∷ [])
    (with_items_is c.args.counts.now new (c.count_each.auto.counts ∙ c.deref_mut.ensures.len))))
    (AreWaits-push s k p h c.args.lives.now old c.args.sids.now e may new long counted some.0
    (sym c.opening_of.ensures ∙ some.1))

pub returns-else-is_some : goal.returns-else-is_some
returns-else-is_some c = λ s k p h may.
    let e = c.args.entry.now in
    let old = c.args.counts.now.items in
    let new = c.count_each.new.counts in
    let none = no_opening c.opening_of.result (sym c.is_some.ensures ∙ c.if-is_some.false) in
    let long : length new ≡ length old = c.count_each.auto.counts ∙ ap length c.deref_mut.ensures.value in
    let counted : HasCounted c.args.sids.now c.args.lives.now old new =
    subst (λ (a : List ℕ). HasCounted c.args.sids.now c.args.lives.now a new) c.deref_mut.ensures.value
    c.count_each.ensures in
    subst (AreWaits s k p (h ++ e ∷ []))
    (sym (with_items_is c.args.counts.now new (c.count_each.auto.counts ∙ c.deref_mut.ensures.len)))
    (AreWaits-more s k p h c.args.lives.now old c.args.sids.now e may new long counted
    (sym c.opening_of.ensures ∙ none))
