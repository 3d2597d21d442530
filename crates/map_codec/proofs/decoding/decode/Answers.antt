-- What passes the tests is read back, and what does not has the fault that is answered.
use Rattle.std.proofs.Common.{ap, ◌∙◌, arith}
use Rattle.std.proofs.lemmas.Result.{err_from_is_err_and}
use Rattle.map_codec.specs.WireMap.{map_in}
use Rattle.map_codec.proofs.Checked.{none_from_checked, IsFaultOf-checked}
use Rattle.map_codec.proofs.Payload.{read_from_none, map_in-spelling, checked-spelling}
use Rattle.map_codec.proofs.decoding.decode.Goals as goal

pub returns-in_err-check-clause-only : goal.returns-in_err-check-clause-only
returns-in_err-check-clause-only c = λ m well is.
    absurd (checked-spelling c.args.bytes.now _ c.in_err-check.ensures.exact m well is)

pub returns-in_err-check-clause-exact : goal.returns-in_err-check-clause-exact
returns-in_err-check-clause-exact c =
    let p = err_from_is_err_and c.from_residual.result c.from_residual.ensures.1 in
    rw (p.1, p.2) (IsFaultOf-checked c.args.bytes.now _ c.in_err-check.ensures.exact)

pub returns-clause-found : goal.returns-clause-found
returns-clause-found c =
    let none = none_from_checked _ _ c.in_ok-check.ensures.exact in
    rw c.read_fields.ensures
    (read_from_none c.args.bytes.now (λ i. omega (arith, c.type_inv.bytes i)) none)

pub returns-clause-only : goal.returns-clause-only
returns-clause-only c = λ m well is. c.read_fields.ensures ∙ ap map_in is ∙ map_in-spelling m well
