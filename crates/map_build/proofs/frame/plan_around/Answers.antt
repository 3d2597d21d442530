-- The MAP of the draft is the lawful one, and is well formed.
use Rattle.std.proofs.Common.{◌∙◌, ap, refl}
use Rattle.minislots.proofs.Bounds.{bounds_of}
use Rattle.map_build.specs.Plan.{demand_at}
use Rattle.map_build.proofs.OneMap.{one_map}
use Rattle.map_build.proofs.Planned.{begun-flows, begun-here, filled-full, planned, apart-in-frame, lawful-encodable}
use Rattle.map_build.proofs.Planned.{lawful-from_frame}
use Rattle.map_build.proofs.frame.plan_around.Goals as goal

pub fill-requires-clause-placed : goal.fill-requires-clause-placed
fill-requires-clause-placed c =
    let has = (rw c.requires.overlay at c.in_ok-draft.ensures) c.args.spots.now c.args.waiting.now c.requires.placed in
    rw has.config c.requires.placed

pub fill-requires-clause-unfilled : goal.fill-requires-clause-unfilled
fill-requires-clause-unfilled c =
    begun-here c.args.book.now.config
    (demand_at c.args.book.now.flows c.args.spots.now c.args.waiting.now c.args.start) c.in_ok-draft.draft
    refl ((rw c.requires.overlay at c.in_ok-draft.ensures) c.args.spots.now c.args.waiting.now c.requires.placed)

pub put_end-requires-clause-full : goal.put_end-requires-clause-full
put_end-requires-clause-full c =
    filled-full c.args.spots.now c.args.waiting.now c.in_ok-draft.draft c.fill.new.self c.in_ok-fill.ensures

pub put_end-requires-clause-before : goal.put_end-requires-clause-before
put_end-requires-clause-before c =
    c.in_ok-fill.ensures.1.before
    ∙ begun-flows c.args.book.now.config
    (demand_at c.args.book.now.flows c.args.spots.now c.args.waiting.now c.args.start) c.in_ok-draft.draft
    ((rw c.requires.overlay at c.in_ok-draft.ensures) c.args.spots.now c.args.waiting.now c.requires.placed)

pub returns-clause-lawful : goal.returns-clause-lawful
returns-clause-lawful c =
    planned c.args.book.now.config
    (demand_at c.args.book.now.flows c.args.spots.now c.args.waiting.now c.args.start) c.args.header c.args.progress
    c.in_ok-ack.ack c.in_ok-draft.draft c.fill.new.self c.put_end.new.self _ refl c.requires.placed
    ((rw c.requires.overlay at c.in_ok-draft.ensures) c.args.spots.now c.args.waiting.now c.requires.placed)
    c.in_ok-fill.ensures c.in_ok-ack.ensures.ends c.in_ok-ack.ensures.ack c.into_map-map.ensures.made c.into_map-map.ensures.overlay refl

pub returns-clause-only : goal.returns-clause-only
returns-clause-only c = λ n lawful.
    let config = c.args.book.now.config in
    let demand = demand_at c.args.book.now.flows c.args.spots.now c.args.waiting.now c.args.start in
    let has = (rw c.requires.overlay at c.in_ok-draft.ensures) c.args.spots.now c.args.waiting.now c.requires.placed in
    one_map config demand (bounds_of config (rw has.config at has.ready.lawful)).bursts
    (apart-in-frame config c.args.spots.now c.requires.placed) c.args.header c.args.progress n c.into_map-map.result.0 lawful
    (lawful-from_frame config demand c.args.header c.args.progress _ (returns-clause-lawful c))

pub returns-clause-encodable : goal.returns-clause-encodable
returns-clause-encodable c = λ channel places stations.
    let config = c.args.book.now.config in
    let demand = demand_at c.args.book.now.flows c.args.spots.now c.args.waiting.now c.args.start in
    let has = (rw c.requires.overlay at c.in_ok-draft.ensures) c.args.spots.now c.args.waiting.now c.requires.placed in
    lawful-encodable config demand c.args.header c.args.progress c.into_map-map.result.0
    (rw has.config at has.ready.lawful) c.requires.placed c.requires.waiting.few
    (lawful-from_frame config demand c.args.header c.args.progress _ (returns-clause-lawful c)) c.into_map-map.ensures.fits
    channel places stations

pub returns-clause-config : goal.returns-clause-config
returns-clause-config c =
    ap (λ b. b.config) (c.into_map-map.ensures.overlay ∙ c.in_ok-ack.ensures.ends.overlay) ∙ c.in_ok-fill.ensures.1.config
    ∙ ((rw c.requires.overlay at c.in_ok-draft.ensures) c.args.spots.now c.args.waiting.now c.requires.placed).config
