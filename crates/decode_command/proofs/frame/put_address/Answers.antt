-- The address behind the kind.
use Rattle.std.proofs.Common.{◌∙◌, subst}
use Rattle.std.proofs.KnownBytes.{Appends-trans}
use Rattle.text_stream.specs.Writing.{Writes}
use Rattle.text_stream.proofs.Written.{where_written}
use Rattle.decode_command.proofs.Addresses.{line_parts}
use Rattle.decode_command.proofs.frame.put_address.Goals as goal

pub returns : goal.returns
returns g c =
    let kind = c.in_ok-put.ensures in
    let first = rw c.digits_of.ensures at c.in_ok-put-2.ensures in
    let rest = c.in_ok-put_bytes.ensures in
    let address = Appends-trans _ _ _ _ _ first.0 rest.0 in
    let front = Appends-trans _ _ _ _ _ kind.0 address in
    subst
    (λ text. Writes g.W.Sink.contents g.W.Sink.has_failed c.args.writer.now c.put-3.new.writer text c.put-3.result)
    (line_parts c.args.address.now c.told-address)
    (where_written _ c.put-3.result (λ more. Appends-trans _ _ _ _ _ front more)
    (λ same. same ∙ rest.1 ∙ first.1 ∙ kind.1) c.put-3.ensures)
