use Rattle.std.proofs.Common.{sym, ◌∙◌, ap, arith}
use Rattle.std.proofs.lemmas.Bool.Decides.{nat_tests}
use Rattle.map_snapshot.proofs.Adding.{end_moves, added_end}
use Rattle.map_snapshot.proofs.list.end.Goals as goal

pub compare_exchange-found-requires : goal.compare_exchange-found-requires
compare_exchange-found-requires c =
    let own = c.requires.own in
    let offer = c.plain-offer.ensures in
    let pen = c.no_pen-pen.ensures in (
      ap (λ w. w.tracked) own,
      sym (ap (λ w. w.book) own),
      pen.0 ∙ sym (ap (λ w. w.book) own),
      offer.0,
      rw (ap (λ w. w.key) own, pen.1, offer.1, offer.3)
          (end_moves c.args.seen.now.log c.args.maps (grind (arith, nat_tests, c.if-maps-eq-ENDED.false))),
    )

pub returns-clause-ended : goal.returns-clause-ended
returns-clause-ended c is =
    let added = c.compare_exchange-found.ensures.7 (grind (arith, nat_tests, is)) in
    (added_end c.compare_exchange-found.new.seen.log added.0 c.plain-offer.result.ask c.plain-offer.ensures.1 added.1).0

pub returns-clause-count : goal.returns-clause-count
returns-clause-count c is =
    let added = c.compare_exchange-found.ensures.7 (grind (arith, nat_tests, is)) in
    (added_end c.compare_exchange-found.new.seen.log added.0 c.plain-offer.result.ask c.plain-offer.ensures.1 added.1).1
    ∙ added.2
