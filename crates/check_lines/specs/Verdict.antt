-- The exit status by which the command for a file ends.
use Rattle.std.specs.Prelude.{ℕ, Some, None}
use Rattle.text_stream.specs.declared.run_fault.RunFault.TheVariants.{Text}
use Rattle.text_stream.specs.RunFault.{exit_status_of}
use Rattle.journal_entries.specs.End as ends
use Rattle.check_lines.specs.declared.verdict.Verdict.{Verdict}
use Rattle.check_lines.specs.declared.verdict.Verdict.TheVariants.{Document, Journal, Opening, Live}

-- that of the fault, where there is one; a conversation ends well, whatever lines there are
abbrev pub status_of : Verdict → ℕ
status_of (Document (Some fault)) = exit_status_of fault
status_of (Document None) = 0
status_of (Journal end) = ends.status_of end
status_of (Opening fault) = exit_status_of (Text fault)
status_of (Live bad) = 0
