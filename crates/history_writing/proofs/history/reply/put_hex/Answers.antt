-- Digits are ASCII, and so UTF-8.
use Rattle.std.proofs.Common.{sym, subst}
use Rattle.std.specs.Str.{IsUtf8}
use Rattle.std.proofs.lemmas.Str.{IsUtf8-from_ascii}
use Rattle.hex.specs.Hex.{lower_digits}
use Rattle.hex.proofs.HexLemmas.{IsAscii-encode_with}
use Rattle.sched_lines.proofs.Digits.{IsAscii-lower_digits}
use Rattle.history_writing.proofs.history.reply.put_hex.Goals as goal

pub unreachable-requires : goal.unreachable-requires
unreachable-requires c =
    let ascii = IsAscii-encode_with lower_digits _ IsAscii-lower_digits in
    c.in-Err.ensures.cases.0 (subst IsUtf8 (sym c.write_hex.ensures) (IsUtf8-from_ascii _ ascii))
