-- All of the bytes are there, whatever the device does.
use Rattle.std.proofs.Common.{◌∙◌}
use Rattle.journal_file.proofs.Known.{through}
use Rattle.journal_file.proofs.line_file.LineFile.append_through.Goals as goal

pub returns-clause-bytes : goal.returns-clause-bytes
returns-clause-bytes g c = through c.reach.result _ _ _ (c.reach.ensures.same ∙ c.in_ok-append.ensures.bytes)
