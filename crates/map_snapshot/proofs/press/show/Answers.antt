use Rattle.std.proofs.Common.{[], ◌++◌, drop, map, ap, subst, ◌∙◌}
use mathlib.Core.List.{IsPrefix}
use Rattle.map_snapshot.specs.Maps.{map_in, maps_in, Page, Printing}
use Rattle.map_snapshot.proofs.Entries.{maps_begin}
use Rattle.map_snapshot.proofs.Names.{publishes}
use Rattle.map_snapshot.proofs.Showing.{at_ok, shown_press}
use Rattle.map_snapshot.proofs.press.show.Goals as goal

pub publish_as-writer-requires : goal.publish_as-writer-requires
publish_as-writer-requires g c next is =
    let writer = c.press.inside.writer in
    publishes _ _ writer.desk.shown.value next (drop writer.behind writer.log.items) c.press.invariant.3 is

pub returns : goal.returns
returns g c =
    let writer = c.press.inside.writer in
    let after = c.publish_as-writer.result.0 in
    let shown = writer.desk.shown.value in
    let next = after.desk.shown.value in
    let seen = c.learn.new.self.log in
    let both = maps_in seen in
    let values = at_ok _ _ c.publish_as-writer.ensures.values c.in-Ok.is in
    let begins : IsPrefix shown.list both =
    subst (λ l. IsPrefix l both) (ap (λ s. maps_in s.log) c.again-before.ensures
    ∙ (c.seen.ensures.seen.1 ∙ ap (λ (s : Page). s.list) c.published.ensures))
    (maps_begin c.again-before.result.log seen c.learn.ensures.3) in
    let ends : IsPrefix next.list both =
    subst (λ l. IsPrefix l both) (ap (λ s. maps_in s.log) c.again-both.ensures
    ∙ (c.seen-2.ensures.seen.1 ∙ ap (λ (s : Page). s.list) c.published-2.ensures))
    (maps_begin c.again-both.result.log seen c.learn.ensures.2) in
    let waits = ap (λ (p : Printing). p.waiting) c.press.view_is ∙ c.requires.waits.1 in
    let shows = shown_press shown next (drop writer.behind writer.log.items) (drop after.behind after.log.items) both
    c.requires.waits.0 c.press.invariant.3 waits values.0 values.1 c.settle.ensures.newest begins ends in
    record {
      shown = shows ∙ ap (λ (p : Printing). record p { list = p.list ++ map map_in p.waiting; waiting = [] })
          c.press.view_is;
    }
