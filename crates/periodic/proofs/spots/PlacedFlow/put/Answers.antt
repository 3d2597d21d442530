-- A spot is written for each start of the frame.
use Rattle.std.proofs.Common.{◌≡◌, ◌∙◌, sym, ap, ◌+◌, ◌<◌, ◌++◌, length, map, take, get_or, arith}
use Rattle.std.proofs.lemmas.Grind.{drop_more_same}
use Rattle.std.proofs.lemmas.List.{drop-set-lt, take_all, length-set}
use Rattle.periodic.specs.Placement.{due_at, due_starts}
use Rattle.periodic.specs.Fields.{placed_of}
use Rattle.periodic.specs.Groups.{own_place}
use Rattle.periodic.proofs.Fields.{put-more, due-here, count-due}
use Rattle.periodic.proofs.Profile.{most_spots}
use Rattle.periodic.proofs.spots.PlacedFlow.put.Goals as goal

pub bounds-spots-next : goal.bounds-spots-next
bounds-spots-next c =
    let (config, sound, within, few) = c.requires.sound in
    let here = ap length (c.due_starts-start-items.ensures config sound within) in
    omega (
      arith,
      few,
      here,
      count-due config (own_place c.args.self.now c.args.number) (placed_of c.args.self.now) within,
      c.loop-start.invariant.count,
      most_spots,
    )

pub offset_bounds-spots-next : goal.offset_bounds-spots-next
offset_bounds-spots-next c = omega (arith, bounds-spots-next c)

pub returns-clause-most : goal.returns-clause-most
returns-clause-most c =
    let (config, sound, within, few) = c.requires.sound in
    let here = ap length (c.due_starts-start-items.ensures config sound within) in
    omega (
      arith,
      few,
      here,
      count-due config (own_place c.args.self.now c.args.number) (placed_of c.args.self.now) within,
      c.loop-start.invariant.count,
      most_spots,
    )

pub loop-start-preserved : goal.loop-start-preserved
loop-start-preserved c = record {
  long = length-set c.loop-start.spots c.loop-start.next c.due_at.result ∙ c.loop-start.invariant.long;
  count = omega (arith, c.loop-start.invariant.count);
  spots = λ config sound within.
      let f = c.args.self.now in
      let starts = due_starts config (placed_of f) (own_place f c.args.number) in
      let here = c.due_starts-start-items.ensures config sound within in
      let s : c.due_at.result ≡ due_at config (placed_of f) (get_or starts c.loop-start.start-index 0) =
      c.due_at.ensures config sound.times
      ∙ ap (λ xs. due_at config (placed_of f) (get_or xs c.loop-start.start-index 0)) here in
      let within-starts : c.loop-start.start-index < length starts = omega (arith, ap length here) in
      put-more (due_at config (placed_of f)) starts c.loop-start.start-index (take c.args.count c.args.spots.now)
      c.loop-start.spots c.loop-start.next c.due_at.result within-starts
      (omega (
        arith,
        c.loop-start.invariant.long,
        c.requires.sound.3,
        ap length (c.due_starts-start-items.ensures c.requires.sound.0 c.requires.sound.1 c.requires.sound.2),
        count-due c.requires.sound.0 (own_place f c.args.number) (placed_of f) c.requires.sound.2,
        c.loop-start.invariant.count,
        most_spots,
      ))
      (c.loop-start.invariant.spots config sound within) s;
  rest =
      drop-set-lt (c.loop-start.next + 1) c.loop-start.spots c.loop-start.next c.due_at.result (omega arith)
      ∙ drop_more_same c.loop-start.spots c.args.spots.now c.loop-start.next c.loop-start.invariant.rest;
}

pub returns-clause-spots : goal.returns-clause-spots
returns-clause-spots c = λ config sound within.
    let f = c.args.self.now in
    let starts = due_starts config (placed_of f) (own_place f c.args.number) in
    let here = c.due_starts-start-items.ensures config sound within in
    let all : take c.loop-start.start-index starts ≡ starts =
    take_all c.loop-start.start-index starts (omega (arith, ap length here)) in
    c.loop-start.invariant.spots config sound within
    ∙ ap (λ xs. take c.args.count c.args.spots.now ++ xs)
    (ap (map (due_at config (placed_of f))) all
    ∙ sym (due-here config (own_place c.args.self.now c.args.number) (placed_of f) within))
