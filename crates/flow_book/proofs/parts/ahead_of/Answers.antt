-- Those of turns no later stand before the others.
use Rattle.std.proofs.Common.{◌≤◌, drop, sym, subst}
use Rattle.std.specs.List.{AllByRecursion}
use Rattle.flow_book.specs.declared.waiting.Waiting.{Waiting}
use Rattle.flow_book.proofs.StillWaiting.{around}
use Rattle.flow_book.proofs.parts.ahead_of.Goals as goal

pub returns-in-Some-clause-ahead : goal.returns-in-Some-clause-ahead
returns-in-Some-clause-ahead c =
    let served = c.args.served.now in
    let turn = c.in-Some.able.turn in
    let split = around (λ (v : Waiting). v.turn) turn served c.requires.ascending in
    rw c.in-Some.is (subst (λ n. AllByRecursion (λ v. turn ≤ v.turn) (drop n served)) (sym c.place_after.ensures.place)
    split.1)
