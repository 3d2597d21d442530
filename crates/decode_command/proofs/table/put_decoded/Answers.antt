-- Memory is wanted only for a payload.
use Rattle.std.proofs.Common.{arith}
use Rattle.map_codec.proofs.Payload.{exact}
use Rattle.decode_command.proofs.table.put_decoded.Goals as goal

pub returns-in-Err-Memory-clause-payload : goal.returns-in-Err-Memory-clause-payload
returns-in-Err-Memory-clause-payload g c =
    let memory = c.in-Err-Memory in
    let same = exact c.args.bytes.now (λ i. omega (arith, c.type_inv.bytes i)) in
    λ _. same.0 (rw memory.field-0-is at memory.ensures.exact)
