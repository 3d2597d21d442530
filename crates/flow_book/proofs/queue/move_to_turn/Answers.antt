-- It is put in where it is not in the queue yet, moves behind those no later, or is taken out and put in again.
use Rattle.std.proofs.Common.{◌≡◌, ◌==◌, ◌<◌, sym, ap, ℕ, List, position, remove, Some, length, arith}
use Rattle.std.proofs.lemmas.List.{get_or_default}
use Rattle.std.proofs.lemmas.List.Quantifiers.{position-Some}
use Rattle.flow_book.specs.declared.waiting.Waiting.{Waiting}
use Rattle.flow_book.proofs.Queues.{taken-at, none-out, none-at}
use Rattle.flow_book.proofs.Searches.{rises}
use Rattle.flow_book.proofs.TurnEnds.{nobody}
use Rattle.flow_book.proofs.queue.move_to_turn.Goals as goal

-- it stands in the queue
within : (queue : List Waiting) (place index : ℕ) → Some index ≡ position (λ w. w.place == place) queue
    → index < length queue
within queue place index is = (position-Some (λ (w : Waiting). w.place == place) queue index nobody (sym is)).0

pub bounds-all-index : goal.bounds-all-index
bounds-all-index c = rw c.all.ensures (within c.args.queue.now c.args.waiting.place c.in-Some.index c.in-Some.ensures)

pub move_back-requires-clause-within : goal.move_back-requires-clause-within
move_back-requires-clause-within c =
    within c.args.queue.now c.args.waiting.place c.in-Some.index c.in-Some.ensures

pub move_back-requires-clause-before : goal.move_back-requires-clause-before
move_back-requires-clause-before c = λ k d early.
    let queue = c.args.queue.now in
    let index = c.in-Some.index in
    let lt = within queue c.args.waiting.place index c.in-Some.ensures in
    let less = rises (λ (w : Waiting). w.turn) queue k index d c.requires.1.ascending early lt in
    let late = rw c.all.ensures at c.if-all-index.true in
    let same =
    ap (λ (w : Waiting). w.turn) (get_or_default queue index d c.index-all-index.result lt) in
    omega (arith, less, same, late)

pub returns-then-all-index : goal.returns-then-all-index
returns-then-all-index c = λ items is. record {
  others = remove c.args.queue.now c.in-Some.index;
  among = taken-at items c.args.queue.now c.args.waiting.place c.in-Some.index nobody (sym c.in-Some.ensures) is;
  is = c.move_back.ensures;
}

pub put_in_turn-requires : goal.put_in_turn-requires
put_in_turn-requires c = c.requires.1.ascending

pub returns-in_default : goal.returns-in_default
returns-in_default c = λ items is. record {
  others = c.args.queue.now;
  among = none-out items c.args.queue.now c.args.waiting.place
      (none-at c.args.waiting.place c.args.queue.now
      (sym c.in_default.ensures)) is;
  is = c.in_ok-put_in_turn.ensures.put;
}

pub put_in_turn-requires-2 : goal.put_in_turn-requires-2
put_in_turn-requires-2 c = (c.take_out.ensures c.requires.0 c.requires.1).ascending

pub returns : goal.returns
returns c = λ items is. record {
  others = c.take_out.new.queue;
  among = c.take_out.ensures items is;
  is = c.in_ok-put_in_turn-2.ensures.put;
}
