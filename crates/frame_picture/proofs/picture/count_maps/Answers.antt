-- One entry more.
use Rattle.std.proofs.Common.{◌≡◌, length, get_or, [], take, arith, ap}
use Rattle.sched_history.specs.History.{map_by}
use Rattle.frame_picture.specs.Frames.{frame_by, frames_of}
use Rattle.frame_picture.proofs.FrameLists.{count-more, frames_of-front-≤, one_frame}
use Rattle.frame_picture.proofs.picture.count_maps.Goals as goal

pub overflow_add-maps : goal.overflow_add-maps
overflow_add-maps c =
    let few = frames_of-front-≤ c.args.entries.now c.loop-entry.entry-index c.loop-entry.auto.entry-index-end in
    let so_far : c.loop-entry.maps ≡ length (frames_of (take c.loop-entry.entry-index c.args.entries.now)) =
    c.loop-entry.invariant in
    let one = one_frame [] (map_by c.entry-item.result.reply) in
    let more : c.count_map-maps.result ≡ length (frame_by [] (map_by c.entry-item.result.reply)) =
    c.count_map-maps.ensures.value in
    omega (arith, few, so_far, one, more, c.loop-entry-test.true)

pub loop-entry-preserved : goal.loop-entry-preserved
loop-entry-preserved c =
    let h = c.args.entries.now in
    let i = c.loop-entry.entry-index in
    let so_far : c.loop-entry.maps ≡ length (frames_of (take i h)) = c.loop-entry.invariant in
    let more : c.count_map-maps.result ≡ length (frame_by [] (map_by c.entry-item.result.reply)) =
    c.count_map-maps.ensures.value in
    let item : length (frame_by [] (map_by c.entry-item.result.reply))
    ≡ length (frame_by [] (map_by (get_or h i c.entry-item.result).reply)) =
    ap (λ e. length (frame_by [] (map_by e.reply))) c.entry-item.is in
    omega (arith, so_far, more, item, count-more h i c.entry-item.result c.loop-entry-test.true)

pub returns-clause-most : goal.returns-clause-most
returns-clause-most c =
    let end = c.loop-entry.auto.entry-index-end in
    let few = frames_of-front-≤ c.args.entries.now c.loop-entry.entry-index end in
    let so_far : c.loop-entry.maps ≡ length (frames_of (take c.loop-entry.entry-index c.args.entries.now)) =
    c.loop-entry.invariant in
    omega (arith, few, so_far, end)
