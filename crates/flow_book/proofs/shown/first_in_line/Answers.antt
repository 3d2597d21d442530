-- Those of both parts stand in line.
use Rattle.std.proofs.Common.{◌∙◌, ap, sym, [], map, filter, take}
use Rattle.std.proofs.lemmas.List.{map-append}
use Rattle.flow_book.specs.Queue.{still_waits}
use Rattle.flow_book.specs.Line.{sorted}
use Rattle.flow_book.specs.Pending.{number_at}
use Rattle.flow_book.proofs.Lines.{sorted_into-append, take-none}
use Rattle.flow_book.proofs.shown.first_in_line.Goals as goal

pub returns : goal.returns
returns c =
    let n = number_at c.args.flows.now in
    let others = filter still_waits c.args.queue.now in
    let left = filter still_waits c.args.served.now in
    let first = c.in_ok-put_in_line.ensures.kept [] (c.in_ok-line.ensures.items ∙ sym (take-none c.args.most)) in
    c.in_ok-put_in_line-2.ensures.kept (sorted (map n others)) first
    ∙ ap (take c.args.most) (sym (ap sorted (map-append n others left) ∙ sorted_into-append [] (map n others) (map n left)))
