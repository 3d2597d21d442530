-- The verdict on the journal that was read was written, and words on it.
use Rattle.std.specs.String.{string_bytes}
use Rattle.std.proofs.KnownBytes.{Appends-trans}
use Rattle.audit_command.proofs.journal.run_audit_journal.Goals as goal

pub returns-in_ok-put-in-Illegal-clause-ok : goal.returns-in_ok-put-in-Illegal-clause-ok
returns-in_ok-put-in-Illegal-clause-ok g c =
    let told = c.in_ok-put_illegal-in-Illegal in
    let worded = rw (c.as_bytes.ensures.value) at c.in_ok-put-in-Illegal.ensures.0 in
    let finds = rw c.in-Illegal.is at c.in_ok-auditor.ensures.finds in
    record {
      index = c.in-Illegal.index;
      found = finds.0;
      words = string_bytes c.in-Ok.words;
      quiet = c.in-Ok.ensures;
      written = Appends-trans _ _ _ _ _ told.ensures.0 worded;
    }
