-- Of another frame the flows take nothing.
use Rattle.std.proofs.Common.{◌∙◌, sym, ap, ◌++◌, take}
use Rattle.std.proofs.lemmas.List.{append-nil}
use Rattle.std.proofs.Math.Nat.{mod-eq_of_lt}
use Rattle.periodic.proofs.Grouped.{due-none}
use Rattle.periodic.proofs.group.Group.put.Goals as goal

pub returns-then-place-self-clause-spots : goal.returns-then-place-self-clause-spots
returns-then-place-self-clause-spots c = λ config sound within.
    let front = take c.args.count c.args.spots.now in
    let none = due-none config c.args.place c.args.self.now c.if-place-self.true (sym (mod-eq_of_lt within)) sound in
    sym (ap (λ ss. front ++ ss) none ∙ append-nil front)
