-- Three pieces, one behind the other.
use Rattle.std.proofs.Common.{◌∙◌}
use Rattle.std.proofs.KnownBytes.{Appends-trans}
use Rattle.text_stream.proofs.Written.{where_written}
use Rattle.audit_command.specs.VerdictJson.{legal_journal_json}
use Rattle.audit_command.proofs.json.put_legal_journal_json.Goals as goal

pub returns : goal.returns
unfolding legal_journal_json
returns g c =
    let first = c.in_ok-put_labelled.ensures in
    let second = c.in_ok-put_labelled-2.ensures in
    where_written _ c.put.result
    (λ more. Appends-trans _ _ _ _ _ first.0 (Appends-trans _ _ _ _ _ second.0 more))
    (λ same. same ∙ second.1 ∙ first.1) c.put.ensures
