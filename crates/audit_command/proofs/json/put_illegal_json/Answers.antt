-- Two pieces, one behind the other.
use Rattle.std.proofs.Common.{◌∙◌}
use Rattle.std.proofs.KnownBytes.{Appends-trans}
use Rattle.text_stream.proofs.Written.{where_written}
use Rattle.audit_command.specs.VerdictJson.{illegal_json}
use Rattle.audit_command.proofs.json.put_illegal_json.Goals as goal

pub returns : goal.returns
unfolding illegal_json
returns g c =
    let label = c.in_ok-put_labelled.ensures in
    where_written _ c.put.result (λ more. Appends-trans _ _ _ _ _ label.0 more) (λ same. same ∙ label.1) c.put.ensures
