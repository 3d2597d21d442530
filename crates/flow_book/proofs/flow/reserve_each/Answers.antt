-- A flow that has more room is the same flow.
use Rattle.std.proofs.Common.{◌∙◌, refl, ap, subst, arith}
use Rattle.std.proofs.Math.Seq.{map-set_same}
use Rattle.std.proofs.lemmas.List.{length-set}
use Rattle.flow_book.specs.declared.flow.Flow.{Flow}
use Rattle.flow_book.specs.Entry.{live, room_in, IsCopy}
use Rattle.flow_book.specs.Queue.{entry_of}
use Rattle.flow_book.proofs.Rooms.{keeps-set, room-more}
use Rattle.flow_book.proofs.Sums.{copied-set}
use Rattle.flow_book.proofs.flow.reserve_each.Goals as goal

pub loop-place-preserved : goal.loop-place-preserved
loop-place-preserved c =
    let flows = c.loop-place.flows in
    let i = c.loop-place.place in
    let f = c.at_mut-flow.result.now in
    let read = c.at_mut-flow.ensures.value in
    let e = record f { grants = c.with_room-flow.result } in
    let are = c.with_room-flow.ensures in
    record {
      long = length-set flows i e ∙ c.loop-place.invariant.long;
      same = map-set_same live flows i e f (rw (are.0, are.1, are.2, are.3) (ap live read)) ∙ c.loop-place.invariant.same;
      entries = map-set_same entry_of flows i e f (rw are.0 (ap entry_of read))
          ∙ c.loop-place.invariant.entries;
      room = room-more flows i c.args.grants e (omega arith) c.loop-place.invariant.room
          (omega (arith, are.4));
      kept = λ sid. omega (
        arith,
        c.loop-place.invariant.kept sid,
        keeps-set flows i e f (ap (λ (g : Flow). g.sid) read)
            (omega (arith, are.4, ap (λ (g : Flow). (room_in g).grants) read)) sid,
      );
      sums = λ channel all. copied-set channel flows i e f (omega arith)
          (subst (λ (g : Flow). IsCopy g e) read
          (record { same = rw (are.0, are.1, are.2, are.3) refl; granted = refl; turn = refl; limits = refl }))
          (c.loop-place.invariant.sums channel all);
    }
