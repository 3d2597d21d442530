-- What was found is what the bytes have, and its line was written.
use Rattle.std.proofs.Common.{◌≡◌, Option, ap, ◌∙◌}
use Rattle.std.specs.Prelude.{option_map}
use Rattle.text_stream.specs.declared.fault.TextFault.{TextFault}
use Rattle.text_stream.specs.declared.run_fault.RunFault.TheVariants.{Text}
use Rattle.check_lines.specs.DocumentKind.{kind_of}
use Rattle.check_lines.specs.Found.{fault_of}
use Rattle.check_lines.proofs.document.run_check.Goals as goal

pub returns-clause-ok : goal.returns-clause-ok
returns-clause-ok g c =
    let bytes = c.in_ok-bytes.bytes.items in
    let report = c.in_ok-report.report in
    let kind : report.kind ≡ kind_of bytes = c.in_ok-report.ensures.kind ∙ ap kind_of c.deref.ensures.value in
    let fault : report.fault ≡ fault_of bytes = c.in_ok-report.ensures.fault ∙ ap fault_of c.deref.ensures.value in
    record {
      bytes = bytes;
      all = c.in_ok-bytes.ensures.ok;
      found_is = c.told.ensures ∙ ap (λ (o : Option TextFault). option_map Text o) fault;
      words = c.as_str.result.now;
      written = rw (kind, fault) at c.in_ok-put_document_as.ensures.ok;
    }
