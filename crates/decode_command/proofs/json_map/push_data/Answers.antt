-- Two numbers, one behind the other.
use Rattle.text_stream.proofs.Written.{where_ok}
use Rattle.decode_command.specs.Json.{data_members}
use Rattle.decode_command.proofs.Grown.{grown_twice}
use Rattle.decode_command.proofs.json_map.push_data.Goals as goal

pub returns : goal.returns
unfolding data_members
returns c =
    let first = rw c.from.ensures at c.in_ok-push_labelled.ensures in
    let second = rw c.from-2.ensures at c.push_labelled-2.ensures in
    where_ok c.push_labelled-2.result (λ more. grown_twice _ _ _ _ _ first more) second
