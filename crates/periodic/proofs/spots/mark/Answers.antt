-- What the flow takes of one frame more is marked.
use Rattle.std.proofs.Common.{◌∙◌, subst, ◌<◌, length, get_or, arith}
use Rattle.std.proofs.lemmas.List.{get_or_default, length-set}
use Rattle.minislots.proofs.Bounds.{bounds_of}
use Rattle.periodic.specs.declared.bits.Bits.{Bits}
use Rattle.periodic.specs.Bits.{bit_for}
use Rattle.periodic.specs.Placement.{spots_of}
use Rattle.periodic.specs.Rows.{no_bits, AreMarked, HaveAtMost}
use Rattle.periodic.specs.Fields.{placed_of}
use Rattle.periodic.proofs.Seeking.{row-here}
use Rattle.periodic.proofs.Marking.{marked-more, marked-all}
use Rattle.periodic.proofs.Bounding.{row-set}
use Rattle.periodic.proofs.spots.mark.Goals as goal

pub mark-requires : goal.mark-requires
mark-requires c = record {
  sound = (c.args.config.now, c.requires.sound, omega (arith, c.cycle.ensures.value));
  lawful = c.cycle.ensures.lawful;
  bounded =
      (let place = c.loop-place.place in
      let below : place < c.args.config.now.cycle = omega (arith, c.cycle.ensures.value) in
      subst (λ words. HaveAtMost c.args.config.now words (get_or c.loop-place.widest.most place 0))
      (row-here c.args.config.now c.loop-place.rows place _ c.loop-place.invariant.marked.long below)
      (c.loop-place.invariant.bounded place below));
}

pub bounds-widest-row : goal.bounds-widest-row
bounds-widest-row c =
    omega (arith, c.cycle.ensures.value, (bounds_of _ c.cycle.ensures.lawful).cycle_most, c.loop-place.invariant.long)

pub loop-place-preserved : goal.loop-place-preserved
loop-place-preserved c =
    let config = c.args.config.now in
    let f = placed_of c.args.flow.now in
    let bit = bit_for c.args.taken in
    let rows = c.loop-place.rows in
    let place = c.loop-place.place in
    let below : place < config.cycle = omega (arith, c.cycle.ensures.value) in
    let inv = c.loop-place.invariant in
    let within : place < length rows = omega (arith, inv.marked.long) in
    record {
      marked = marked-more config f bit c.args.rows.now rows place c.mark.new.bits below inv.marked
          (subst (λ (b : Bits). AreMarked (spots_of config place f) bit b.words c.mark.new.bits.words)
          (get_or_default rows place _ no_bits within) (c.mark.ensures.marked config c.requires.sound below));
      long = length-set c.loop-place.widest.most place c.mark.new.most ∙ inv.long;
      bounded = row-set config rows c.loop-place.widest.most inv.bounded place c.mark.new.most
          (omega (arith, inv.long, below, (bounds_of _ c.cycle.ensures.lawful).cycle_most)) c.mark.new.bits
          inv.marked.long below c.mark.ensures.bounded;
    }

pub returns-clause-marked : goal.returns-clause-marked
returns-clause-marked c = λ k.
    marked-all c.args.config.now (placed_of c.args.flow.now) (bit_for c.args.taken) c.args.rows.now c.loop-place.rows
    c.loop-place.place k (omega (arith, c.cycle.ensures.positive, c.cycle.ensures.value)) (omega arith)
    c.loop-place.invariant.marked
