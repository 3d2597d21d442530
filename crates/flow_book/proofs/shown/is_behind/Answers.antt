-- A number no less than the last of a line comes behind it.
use Rattle.std.proofs.Common.{◌≤◌, arith}
use Rattle.std.proofs.lemmas.Bool.Decides.{nat_tests}
use Rattle.flow_book.proofs.Lines.{stays-behind, last-most}
use Rattle.flow_book.proofs.shown.is_behind.Goals as goal

pub returns-then-line-most : goal.returns-then-line-most
returns-then-line-most c = λ less.
    let le : c.in-Some.last.now ≤ c.args.number = grind (arith, nat_tests) in
    stays-behind c.args.most c.args.number c.args.line.now c.requires c.if-line-most.true
    (last-most c.args.line.now c.in-Some.last.now c.args.number c.in-Some.ensures.value le)
