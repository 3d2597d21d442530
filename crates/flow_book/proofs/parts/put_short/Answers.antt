-- It passes those before it.
use Rattle.std.proofs.lemmas.Option.{slice_get_within, get_or_from_slice_get}
use Rattle.flow_book.proofs.InParts.{put-back}
use Rattle.flow_book.proofs.Passing.{passes-before}
use Rattle.flow_book.proofs.parts.put_short.Goals as goal

pub put_on-requires-clause-within : goal.put_on-requires-clause-within
put_on-requires-clause-within c =
    let here = c.requires.here in
    slice_get_within c.args.queue.now c.args.index here.0 here.1

pub put_on-requires-clause-before : goal.put_on-requires-clause-before
put_on-requires-clause-before c = λ k d early.
    let queue = c.args.queue.now in
    let here = c.requires.here in
    let lt = slice_get_within queue c.args.index here.0 here.1 in
    let read = get_or_from_slice_get queue c.args.index here.0 d here.1 in
    passes-before queue k c.args.index d here.0 c.args.waiting.turn c.requires.order.1.waiting.ascending early lt read
    here.2 here.3

pub returns : goal.returns
returns c = λ items w order here still same.
    put-back items c.args.queue.now c.args.index w c.args.waiting c.put_on.new.queue order here still same c.put_on.ensures
