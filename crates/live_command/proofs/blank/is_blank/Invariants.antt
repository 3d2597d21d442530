-- The bytes so far are white, so what is left decides.
use Rattle.std.proofs.Common.{◌≡◌, drop}
use Rattle.live_command.specs.Spoken.{is_blank}
use Rattle.live_command.proofs.blank.is_blank.Given as goal

abbrev pub invariant-loop-byte : goal.invariant-loop-byte
invariant-loop-byte l = is_blank (drop l.byte-index l.line) ≡ is_blank l.line
