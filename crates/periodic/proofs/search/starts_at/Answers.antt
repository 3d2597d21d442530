-- Each nominal frame gets its first starts, or no offset before the next one has starts in all frames.
use Rattle.std.proofs.Common.{◌≡◌, ◌∙◌, sym, ap, ◌+◌, ◌*◌, ◌/◌, ◌<◌, ◌++◌, length, take, subst, inl, inr}
use Rattle.std.proofs.Common.{arith, rules}
use Rattle.std.proofs.lemmas.Bool.{cases_lt}
use Rattle.std.proofs.lemmas.List.{length-append}
use Rattle.minislots.proofs.Bounds.{bounds_of}
use Rattle.periodic.specs.Placement.{group_at}
use Rattle.periodic.specs.Rows.{row_at}
use Rattle.periodic.specs.Search.{AreFirstIn, IsNextOffset, HasStartsAt, HaveStartsAt, starts_of}
use Rattle.periodic.proofs.Groups.{frame-within, group-before, group-last, group-fits, groups-most}
use Rattle.periodic.proofs.Profile.{most_starts}
use Rattle.periodic.proofs.Seeking.{row-here}
use Rattle.periodic.proofs.search.starts_at.Goals as goal

pub returns-in_err-starts-clause-blocked : goal.returns-in_err-starts-clause-blocked
returns-in_err-starts-clause-blocked c =
    let config = c.args.config.now in
    let rows = c.args.rows.now in
    let w = c.args.wanted in
    let index = c.loop-index.index in
    let cycle : c.from.result ≡ config.cycle = c.from.ensures ∙ c.cycle.ensures.value in
    let within : index < config.cycle / w.interval = subst (λ n. index < n / w.interval) cycle (omega arith) in
    let place = c.args.phase + index * w.interval in
    let low = frame-within w.interval c.args.phase c.requires.phase config.cycle index c.requires.sought.divides
    within in
    let here = row-here config rows place _ c.requires.long low in
    let next = subst (λ words. IsNextOffset config (HasStartsAt config w words) c.args.offset c.in_err-starts.field-0.0)
    (sym here) c.in_err-starts.ensures.blocked in
    let blocked : IsNextOffset config (HaveStartsAt config rows w c.args.phase) c.args.offset
    c.in_err-starts.field-0.0 = record {
      later = next.later;
      most = next.most;
      none = λ between from to found.
          next.none between from to (group_at w.grants index found.0, found.1.each index within);
    } in
    search rules

pub push-requires : goal.push-requires
push-requires c =
    let config = c.args.config.now in
    let w = c.args.wanted in
    let index = c.loop-index.index in
    let cycle : c.from.result ≡ config.cycle = c.from.ensures ∙ c.cycle.ensures.value in
    let within : index < config.cycle / w.interval = subst (λ n. index < n / w.interval) cycle (omega arith) in
    let fits = group-fits w.grants index (config.cycle / w.interval) within in
    let most = groups-most config.cycle w.interval w.grants (bounds_of _ c.cycle.ensures.lawful).cycle_most
    c.requires.sought.grants_most in
    omega (arith, c.loop-index.invariant.count, c.in_ok-starts.ensures.found.lawful.count, fits, most, most_starts)

pub returns-clause-most : goal.returns-clause-most
returns-clause-most c =
    let config = c.args.config.now in
    let w = c.args.wanted in
    let cycle : c.from.result ≡ config.cycle = c.from.ensures ∙ c.cycle.ensures.value in
    let all : c.loop-index.index ≡ config.cycle / w.interval =
    subst (λ n. c.loop-index.index ≡ n / w.interval) cycle (omega arith) in
    let most = groups-most config.cycle w.interval w.grants (bounds_of _ c.cycle.ensures.lawful).cycle_most
    c.requires.sought.grants_most in
    omega (arith, c.loop-index.invariant.count ∙ ap (λ n. n * w.grants) all, most, most_starts)

pub loop-index-preserved : goal.loop-index-preserved
loop-index-preserved c =
    let config = c.args.config.now in
    let rows = c.args.rows.now in
    let w = c.args.wanted in
    let index = c.loop-index.index in
    let inv = c.loop-index.invariant in
    let before = starts_of c.loop-index.row in
    let group = take w.grants c.in_ok-starts.starts in
    let cycle : c.from.result ≡ config.cycle = c.from.ensures ∙ c.cycle.ensures.value in
    let within : index < config.cycle / w.interval = subst (λ n. index < n / w.interval) cycle (omega arith) in
    let place = c.args.phase + index * w.interval in
    let low = frame-within w.interval c.args.phase c.requires.phase config.cycle index c.requires.sought.divides
    within in
    let here = row-here config rows place _ c.requires.long low in
    let first = subst (λ words. AreFirstIn config w c.args.offset words group) (sym here)
    c.in_ok-starts.ensures.found in
    let one : length group ≡ w.grants = first.lawful.count in
    let next : (index + 1) * w.grants ≡ index * w.grants + w.grants = omega arith in
    rw c.push.ensures.starts (record {
      count = c.push.ensures.count ∙ omega (arith, inv.count, one, next);
      long = length-append before group ∙ omega (arith, inv.long, one, next);
      each = λ i lt. elim (cases_lt i index) [
        | inl early ↦ subst (AreFirstIn config w c.args.offset (row_at config rows (c.args.phase + i * w.interval)))
            (sym (group-before w.grants i index before group inv.long early)) (inv.each i early)
        | inr late ↦ (
            let same : index ≡ i = omega arith in
            subst (λ k. AreFirstIn config w c.args.offset (row_at config rows (c.args.phase + k * w.interval))
            (group_at w.grants k (before ++ group))) same
            (subst (AreFirstIn config w c.args.offset (row_at config rows place))
            (sym (group-last w.grants index before group inv.long one)) first))
      ];
    })

pub returns-clause-found : goal.returns-clause-found
returns-clause-found c =
    let config = c.args.config.now in
    let w = c.args.wanted in
    let inv = c.loop-index.invariant in
    let cycle : c.from.result ≡ config.cycle = c.from.ensures ∙ c.cycle.ensures.value in
    let all : c.loop-index.index ≡ config.cycle / w.interval =
    subst (λ n. c.loop-index.index ≡ n / w.interval) cycle (omega arith) in
    record {
      lawful = record {
        count = inv.long ∙ ap (λ n. n * w.grants) all;
        each = λ index within. (inv.each index (omega (arith, all, within))).lawful;
      };
      least = λ others are index within. (inv.each index (omega (arith, all, within))).least
          (group_at w.grants index others) (are.each index within);
    }
