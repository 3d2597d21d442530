-- Each of the 256 entries is what eight shifts make of its byte, by computing.
use Rattle.std.proofs.Common.{◌≡◌, length, refl, arith}
use Rattle.wire_frame.specs.declared.tables.TheConstants.{CCITT, CCITT_BYTES}
use Rattle.wire_frame.specs.Register.{shift, shifts}
use Rattle.wire_frame.proofs.Entries.{entry_is}
use Rattle.wire_frame.proofs.tables.ccitt_of.Goals as goal

pub returns : goal.returns
unfolding shifts shift
returns c =
    let long : length CCITT_BYTES ≡ 256 = refl in
    entry_is CCITT_BYTES (shifts CCITT 8) c.args.byte tt (omega (arith, long))
