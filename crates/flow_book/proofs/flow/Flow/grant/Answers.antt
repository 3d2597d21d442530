-- The buckets have one more grant, and with it the sums are noted.
use Rattle.std.proofs.Common.{◌≡◌, sym, ap, ◌∙◌, subst}
use Rattle.flow_book.specs.Bucket.{reserves}
use Rattle.flow_book.specs.Limits.{most_with, HaveOneMore, StaySettled}
use Rattle.flow_book.specs.Reserved.{is_under}
use Rattle.flow_book.specs.Entry.{live}
use Rattle.flow_book.proofs.Amounts.{keeps-most}
use Rattle.flow_book.proofs.Charges.{begun-by, limits-more, settled-more}
use Rattle.flow_book.proofs.Reservation.{under-reserves}
use Rattle.flow_book.proofs.flow.Flow.grant.Goals as goal

pub take-is_reserved-requires-clause-begun : goal.take-is_reserved-requires-clause-begun
take-is_reserved-requires-clause-begun c =
    let keeps = c.requires.sums in
    begun-by c.args.config.now (live c.args.self.now) c.args.self.now.limits c.args.start keeps.limits keeps.charges
    c.requires.started

pub take-is_reserved-requires-clause-has : goal.take-is_reserved-requires-clause-has
take-is_reserved-requires-clause-has c =
    let keeps = c.requires.sums in
    let f = c.args.self.now in
    ap (λ n. most_with f.limits c.args.start n c.args.bytes) c.wanted-wanted.ensures.value
    ∙ keeps-most c.args.config.now (live f) f.limits c.args.start c.args.bytes keeps.limits keeps.charges
    c.requires.started c.requires.keeps

-- it is a reserved grant where the flow is under its reservation
counted : (c : goal.After-note) → c.take-is_reserved.result ≡ is_under c.args.config.now c.args.start (live c.args.self.now)
counted c =
    let f = c.args.self.now in
    let keeps = c.requires.sums in
    c.take-is_reserved.ensures.reserved ∙ ap (reserves f.limits.reserved c.args.start) c.wanted-wanted.ensures.value
    ∙ sym (under-reserves c.args.config.now (live f) f.limits c.args.start keeps.limits keeps.charges c.requires.started)

pub returns-clause-live : goal.returns-clause-live
returns-clause-live c = c.note.ensures.live c.args.config.now (counted c)

pub returns-clause-sums : goal.returns-clause-sums
returns-clause-sums c =
    let channel = c.args.config.now in
    let f = c.args.self.now in
    let keeps = c.requires.sums in
    let start = c.args.start in
    let bytes = c.args.bytes in
    let new = c.take-is_reserved.new.self in
    let wanted = c.wanted-wanted.ensures.value in
    c.note.ensures.sums channel (counted c) keeps.granted keeps.turn c.requires.started
    keeps.charges
    (limits-more channel (live f) f.limits new start bytes keeps.charges c.requires.started keeps.limits
    (subst (λ n. HaveOneMore f.limits new start n bytes) wanted c.take-is_reserved.ensures.taken))
    (settled-more channel (live f) f.limits new start bytes keeps.charges c.requires.started keeps.limits keeps.settled
    (subst (λ n. StaySettled f.limits new start n bytes) wanted c.take-is_reserved.ensures.settled))
