-- The verdict on the history that was read was written, and words on it.
use Rattle.std.specs.String.{string_bytes}
use Rattle.std.proofs.KnownBytes.{Appends-trans}
use Rattle.audit_command.specs.Verdict.{IsVerdict}
use Rattle.audit_command.proofs.Verdicts.{legal-verdict}
use Rattle.audit_command.proofs.audit.run_audit.Goals as goal

pub returns-clause-ok : goal.returns-clause-ok
returns-clause-ok g c =
    let config = c.in_ok-config.config in
    let entries = c.in_ok-config.entries.items in
    let verdict = c.in_ok-verdict.verdict in
    let told = c.in_ok-legal in
    let judged : IsVerdict config entries verdict = rw (c.deref.ensures.value) at c.in_ok-verdict.ensures.ok in
    let worded = rw (c.as_bytes.ensures.value) at c.in_ok-put.ensures.0 in
    record {
      history = record { config = config; entries = entries };
      read = c.in_ok-config.ensures.ok;
      verdict = verdict;
      verdict_is = judged;
      words = string_bytes c.in-Ok.words;
      quiet = c.in-Ok.ensures;
      written = Appends-trans _ _ _ _ _ told.ensures.written.0 worded;
      legal_is = legal-verdict config entries verdict told.legal judged told.ensures.legal;
    }
