-- Nothing is granted yet.
use Rattle.flow_book.proofs.Overlays.{over-book}
use Rattle.flow_book.proofs.overlay.Overlay.over.Goals as goal

pub invariant_of-result : goal.invariant_of-result
invariant_of-result c =
    rw (c.divided-few.ensures, c.in_ok-again.ensures, c.same.ensures, c.list_of-before.ensures, c.in_ok-served.ensures.none)
    (record {
      overlay = over-book c.args.channel.now c.args.flows.now _ c.tiers.new.self c.in_ok-tiers.tiers.items _
          c.requires.book c.in_ok-tiers.ensures.queue c.in_ok-tiers.ensures.tiers c.in_ok-served.ensures.room;
      lined = c.requires.line;
    })
