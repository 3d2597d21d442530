-- What the members say makes the call.
use Rattle.std.proofs.Common.{sym, refl}
use Rattle.call_reading.specs.Seen.{seen_of}
use Rattle.call_reading.proofs.Made.{call_said}
use Rattle.call_reading.proofs.quick_call.read_any_call.Goals as goal

pub returns : goal.returns
returns c =
    let read = c.in_ok-read_members.ensures in
    call_said c.args.depth c.args.reader.now c.read_members.new.reader read.0 (seen_of c.read_members.new.found)
    c.in-Some.call read.1 read.2 (sym c.in-Some.ensures) refl
