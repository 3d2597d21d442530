-- Three pieces, one behind another.
use Rattle.text_stream.proofs.Written.{where_ok}
use Rattle.decode_command.specs.Json.{payload_members}
use Rattle.decode_command.proofs.Grown.{grown}
use Rattle.decode_command.proofs.json.push_payload_members.Goals as goal

pub returns : goal.returns
unfolding payload_members
returns c =
    let last = rw c.number_of.ensures at c.push_labelled.ensures in
    where_ok c.push_labelled.result
    (λ more. grown _ _ _ _ _ _ _ c.in_ok-push_text.ensures c.in_ok-push_line.ensures more) last
