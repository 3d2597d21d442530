-- What is said behind the line of a fault.
use Rattle.std.specs.Prelude.{Bool, true, false}
use Rattle.text_stream.specs.declared.fault.TextFault.{TextFault}
use Rattle.text_stream.specs.declared.fault.TextFault.TheVariants.{Input, TooLong, NotJson, Shape, Config, Memory}
use Rattle.text_stream.specs.declared.fault.TextFault.TheVariants.{Output}

-- whether `check` says where a fault is
abbrev pub is_found_by_check : TextFault → Bool
is_found_by_check Input = false
is_found_by_check TooLong = false
is_found_by_check NotJson = true
is_found_by_check (Shape n) = true
is_found_by_check (Config field) = true
is_found_by_check Memory = false
is_found_by_check Output = false
