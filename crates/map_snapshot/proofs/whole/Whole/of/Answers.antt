use Rattle.std.proofs.Common.{ap, sym, subst, ◌∙◌}
use Rattle.map_snapshot.specs.Maps.{Known, IsNewest, maps_in}
use Rattle.map_snapshot.proofs.Entries.{same_maps}
use Rattle.map_snapshot.proofs.whole.Whole.of.Goals as goal

pub invariant_of-result : goal.invariant_of-result
invariant_of-result c =
    let log = c.end.new.seen.log in
    let same = same_maps c.again-seen.result.log log c.args.told.now.list c.version.result
    (ap (λ s. maps_in s.log) c.again-seen.ensures ∙ ap (λ (k : Known). k.list) c.told.view_is)
    c.end.ensures.grows (c.end.ensures.count c.if-end.true) c.version.ensures.count in
    (subst (IsNewest c.newest.result) (sym same) c.newest.ensures.newest, c.end.ensures.ended c.if-end.true)

pub returns-then-end : goal.returns-then-end
returns-then-end c =
    let log = c.end.new.seen.log in
    let same = same_maps c.again-seen.result.log log c.args.told.now.list c.version.result
    (ap (λ s. maps_in s.log) c.again-seen.ensures ∙ ap (λ (k : Known). k.list) c.told.view_is)
    c.end.ensures.grows (c.end.ensures.count c.if-end.true) c.version.ensures.count in
    let press = c.end.ensures.book ∙ (ap (λ s. s.book) c.again-seen.ensures
    ∙ ap (λ (k : Known). k.press) c.told.view_is) in
    record { whole = λ i. record { press = press i; list = same i } }
