-- Before the first of a later turn it stands in order, and there is room for it.
use Rattle.std.proofs.Common.{◌≡◌, ◌∙◌, ap, sym, map-id, insert, nat_lt, arith}
use Rattle.std.specs.List.{position_or_len}
use Rattle.flow_book.specs.declared.waiting.Waiting.{Waiting}
use Rattle.sched_calls.specs.Sids.{put_in}
use Rattle.sched_calls.proofs.Insertion.{insert-put_in}
use Rattle.flow_book.proofs.parts.put_reserved.Goals as goal

pub place_after-index-requires : goal.place_after-index-requires
place_after-index-requires c = rw c.deref.ensures.value c.requires.ascending

pub returns-clause-put : goal.returns-clause-put
returns-clause-put c =
    let served = c.args.served.now.items in
    let w = c.args.waiting in
    let index : c.place_after-index.result ≡ position_or_len (λ v. nat_lt w.turn v.turn) served =
    rw c.deref.ensures.value at c.place_after-index.ensures.place in
    let put = insert-put_in (λ (v : Waiting). v) (λ v. v.turn) w served in
    let whole = c.insert.ensures.succeeds (omega (arith, c.requires.room, c.args.served.now.ok.0)) in
    let is = rw whole at c.insert.ensures.items in
    is ∙ ap (λ k. insert served k w) index
    ∙ sym (map-id (insert served (position_or_len (λ v. nat_lt w.turn v.turn) served) w)) ∙ put
    ∙ ap (put_in (λ v. v.turn) w) (map-id served)
