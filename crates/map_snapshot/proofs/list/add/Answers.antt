use Rattle.std.proofs.Common.{sym, ◌∙◌, ap, arith}
use Rattle.std.proofs.lemmas.Bool.Decides.{nat_tests}
use Rattle.map_snapshot.proofs.Adding.{map_moves, added_newest}
use Rattle.map_snapshot.proofs.list.add.Goals as goal

pub compare_exchange-found-requires : goal.compare_exchange-found-requires
compare_exchange-found-requires c =
    let own = c.requires.own in
    let offer = c.plain-offer.ensures in
    let pen = c.no_pen-pen.ensures in (
      ap (λ w. w.tracked) own,
      sym (ap (λ w. w.book) own),
      pen.0 ∙ sym (ap (λ w. w.book) own),
      offer.0,
      rw (ap (λ w. w.key) own, pen.1, offer.1, offer.3)
          (map_moves c.args.seen.now.log _ c.in-Some.before _ (omega arith) (omega arith)),
    )

pub returns-clause-added : goal.returns-clause-added
returns-clause-added c is =
    let added = c.compare_exchange-found.ensures.7 (grind (arith, nat_tests, is)) in
    added_newest c.compare_exchange-found.new.seen.log added.0 c.plain-offer.result.ask c.args.printed.now
    c.plain-offer.ensures.1 added.1 (omega (arith, added.2)) c.requires.fits
