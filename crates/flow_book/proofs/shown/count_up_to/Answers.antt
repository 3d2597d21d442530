-- Where more of those gone through still wait, more of all do.
use Rattle.std.proofs.Common.{◌≡◌, ◌∙◌, ◌+◌, sym, ap, filter, take, drop, length, arith}
use Rattle.std.proofs.lemmas.List.{length-append, take-append-drop}
use Rattle.std.proofs.lemmas.List.Elements.{filter-append}
use Rattle.flow_book.specs.Queue.{still_waits}
use Rattle.flow_book.proofs.shown.count_up_to.Goals as goal

pub returns-then-count-most-clause-many : goal.returns-then-count-most-clause-many
returns-then-count-most-clause-many c = λ more.
    let part = c.args.part.now in
    let i = c.loop-waiting.waiting-index in
    let split : length (filter still_waits (take i part)) + length (filter still_waits (drop i part))
    ≡ length (filter still_waits part) =
    sym (length-append (filter still_waits (take i part)) (filter still_waits (drop i part)))
    ∙ ap length (sym (filter-append still_waits (take i part) (drop i part)))
    ∙ ap (λ ws. length (filter still_waits ws)) (take-append-drop i part) in
    omega (arith, split, c.loop-waiting.invariant.count, more)
