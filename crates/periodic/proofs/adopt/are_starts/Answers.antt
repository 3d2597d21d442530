-- Each nominal frame has its lawful starts, or the first that has none says that these are no such starts.
use Rattle.std.proofs.Common.{◌≡◌, ◌∙◌, ◌+◌, ◌*◌, ◌/◌, ◌<◌, ap, sym, refl, subst, inl, inr, arith}
use Rattle.std.proofs.lemmas.Bool.{cases_lt}
use Rattle.periodic.specs.Placement.{group_at}
use Rattle.periodic.specs.Rows.{row_at}
use Rattle.periodic.specs.Search.{AreStartsIn}
use Rattle.periodic.proofs.Groups.{frame-within, range-group}
use Rattle.periodic.proofs.Seeking.{row-here}
use Rattle.periodic.proofs.adopt.are_starts.Goals as goal

pub returns-then-starts-count-clause-unlawful : goal.returns-then-starts-count-clause-unlawful
returns-then-starts-count-clause-unlawful c = λ no are.
    let cycle : c.from.result ≡ c.args.config.now.cycle = c.from.ensures ∙ c.cycle.ensures.value in
    c.if-starts-count.true (are.count ∙ ap (λ n. n / c.args.wanted.interval * c.args.wanted.grants) (sym cycle))

pub returns-then-not-are_starts_in-clause-unlawful : goal.returns-then-not-are_starts_in-clause-unlawful
returns-then-not-are_starts_in-clause-unlawful c = λ no are.
    let config = c.args.config.now in
    let rows = c.args.rows.now in
    let starts = c.args.starts.now in
    let w = c.args.wanted in
    let index = c.loop-index.index in
    let cycle : c.from.result ≡ config.cycle = c.from.ensures ∙ c.cycle.ensures.value in
    let within : index < config.cycle / w.interval = subst (λ n. index < n / w.interval) cycle (omega arith) in
    let place = c.args.phase + index * w.interval in
    let low = frame-within w.interval c.args.phase c.requires.phase config.cycle index c.requires.sought.divides
    within in
    let here = row-here config rows place _ c.requires.long low in
    let range = range-group starts w.grants index (index * w.grants) (index * w.grants + w.grants) refl refl in
    let there = subst (λ words. AreStartsIn config w c.args.offset words (group_at w.grants index starts)) here
    (are.each index within) in
    c.if-not-are_starts_in.ensures.unlawful refl (subst (AreStartsIn config w c.args.offset _) (sym range) there)

pub loop-index-preserved : goal.loop-index-preserved
loop-index-preserved c = λ i lt.
    let config = c.args.config.now in
    let rows = c.args.rows.now in
    let starts = c.args.starts.now in
    let w = c.args.wanted in
    let index = c.loop-index.index in
    let cycle : c.from.result ≡ config.cycle = c.from.ensures ∙ c.cycle.ensures.value in
    let within : index < config.cycle / w.interval = subst (λ n. index < n / w.interval) cycle (omega arith) in
    let place = c.args.phase + index * w.interval in
    let low = frame-within w.interval c.args.phase c.requires.phase config.cycle index c.requires.sought.divides
    within in
    let here = row-here config rows place _ c.requires.long low in
    let range = range-group starts w.grants index (index * w.grants) (index * w.grants + w.grants) refl refl in
    elim (cases_lt i index) [
      | inl early ↦ c.loop-index.invariant i early
      | inr late ↦ (
          let same : index ≡ i = omega arith in
          let lawful = subst (AreStartsIn config w c.args.offset _) range
          (c.if-not-are_starts_in.ensures.lawful refl) in
          let now = subst (λ words. AreStartsIn config w c.args.offset words (group_at w.grants index starts))
          (sym here)
          lawful in
          subst (λ k. AreStartsIn config w c.args.offset (row_at config rows (c.args.phase + k * w.interval))
          (group_at w.grants k starts)) same now)
    ]

pub returns-clause-lawful : goal.returns-clause-lawful
returns-clause-lawful c = λ yes.
    let config = c.args.config.now in
    let w = c.args.wanted in
    let cycle : c.from.result ≡ config.cycle = c.from.ensures ∙ c.cycle.ensures.value in
    let all : c.loop-index.index ≡ config.cycle / w.interval =
    subst (λ n. c.loop-index.index ≡ n / w.interval) cycle (omega arith) in
    record {
      count = c.if-starts-count.false ∙ ap (λ n. n / w.interval * w.grants) cycle;
      each = λ index within. c.loop-index.invariant index (omega (arith, all, within));
    }
