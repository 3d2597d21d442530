-- The fault that is found in a file.
use Rattle.std.specs.Prelude.{Option, Some, None}
use Rattle.text_stream.specs.declared.fault.TextFault.{TextFault}
use Rattle.check_lines.specs.declared.finding.Finding.{Finding}
use Rattle.check_lines.specs.declared.finding.Finding.TheVariants.{Good, Fault}

-- the fault, where one is found
abbrev pub fault_found : Finding → Option TextFault
fault_found (Good config) = None
fault_found (Fault fault) = Some fault
