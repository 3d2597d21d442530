-- Before the first of a later turn it stands in order.
use Rattle.std.proofs.Common.{◌≡◌, ◌∙◌, ap, sym, map-id, insert, nat_lt, Result, Ok, Err, OnOk}
use Rattle.std.specs.List.{position_or_len}
use Rattle.flow_book.specs.declared.waiting.Waiting.{Waiting}
use Rattle.sched_calls.specs.Sids.{put_in}
use Rattle.sched_calls.proofs.Insertion.{insert-put_in}
use Rattle.flow_book.proofs.queue.put_in_turn.Goals as goal

on-ok : {T E : Type 0} (r : Result T E) {P Q : Type 0} → (P → Q) → OnOk r P → OnOk r Q
on-ok (Ok x) step holds = step holds
on-ok (Err e) step holds = tt

pub place_after-index-requires : goal.place_after-index-requires
place_after-index-requires c = rw c.all.ensures c.requires

pub insert-requires : goal.insert-requires
insert-requires c = rw (sym c.all.ensures) c.place_after-index.ensures.within

pub returns-clause-put : goal.returns-clause-put
returns-clause-put c =
    let queue = c.args.queue.now in
    let w = c.args.waiting in
    let index : c.place_after-index.result ≡ position_or_len (λ v. nat_lt w.turn v.turn) queue =
    rw c.all.ensures at c.place_after-index.ensures.place in
    let put = insert-put_in (λ (v : Waiting). v) (λ v. v.turn) w queue in
    on-ok c.insert.result (λ is. is ∙ rw index
    (sym (map-id (insert queue (position_or_len (λ v. nat_lt w.turn v.turn) queue) w)) ∙ put
    ∙ ap (put_in (λ v. v.turn) w) (map-id queue))) c.insert.ensures.ok
