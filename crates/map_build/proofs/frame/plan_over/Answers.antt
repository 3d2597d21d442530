-- The spots that the table writes are those of the frame, in another order.
use Rattle.std.proofs.Common.{◌*◌, ◌≤◌, ◌∙◌, List, refl, ap, length, take, arith}
use Rattle.std.proofs.lemmas.List.{length-take}
use Rattle.periodic.specs.declared.placement.Spot.{Spot}
use Rattle.periodic.specs.Placement.{due_in}
use Rattle.map_build.specs.Plan.{demand_at}
use Rattle.map_build.proofs.FirstMet.{meets-first-ok}
use Rattle.map_build.proofs.SameSpots.{frame-told, only-told, written-in_frame, written-sids}
use Rattle.map_build.proofs.frame.plan_over.Goals as goal

pub plan_around-requires-clause-placed : goal.plan_around-requires-clause-placed
plan_around-requires-clause-placed c =
    let spots : List Spot = take c.in_frame-count.result c.in_frame-count.new.spots in
    let few : length spots ≤ 40 =
    omega (arith, length-take c.in_frame-count.result c.in_frame-count.new.spots, c.in_frame-count.array_long) in
    written-in_frame c.args.book.now.config spots few c.in_frame-count.ensures.ascending
    (rw c.requires.config at c.in_frame-count.ensures.within)

pub returns-clause-lawful : goal.returns-clause-lawful
returns-clause-lawful c =
    frame-told c.args.book.now.config c.args.table.now.config c.args.book.now.flows c.args.waiting.now c.args.header
    c.args.frame c.from.result c.args.progress c.args.table.now.placed
    (take c.in_frame-count.result c.in_frame-count.new.spots) c.plan_around.result c.requires.config
    c.in_frame-count.ensures.spots (c.from.ensures ∙ c.frame.ensures.value ∙ ap (λ k. k.frame) c.config.ensures.value)
    c.plan_around.ensures.lawful

pub returns-clause-only : goal.returns-clause-only
returns-clause-only c =
    only-told c.args.book.now.config c.args.table.now.config c.args.book.now.flows c.args.waiting.now c.args.header
    c.args.frame c.from.result c.args.progress c.args.table.now.placed
    (take c.in_frame-count.result c.in_frame-count.new.spots) c.plan_around.result c.requires.config
    c.in_frame-count.ensures.spots (c.from.ensures ∙ c.frame.ensures.value ∙ ap (λ k. k.frame) c.config.ensures.value)
    c.plan_around.ensures.only

pub returns-clause-first : goal.returns-clause-first
returns-clause-first c =
    let config = c.args.book.now.config in
    meets-first-ok config
    (demand_at c.args.book.now.flows (due_in config c.args.frame c.args.table.now.placed) c.args.waiting.now
    (c.args.frame * config.frame)) c.args.header c.args.progress c.plan_around.result refl c.requires.waiting
    (returns-clause-lawful c)

pub returns-clause-encodable : goal.returns-clause-encodable
returns-clause-encodable c = λ channel stations.
    c.plan_around.ensures.encodable channel
    (written-sids c.args.book.now.config (take c.in_frame-count.result c.in_frame-count.new.spots)
    (rw c.requires.config at c.in_frame-count.ensures.within)) stations
