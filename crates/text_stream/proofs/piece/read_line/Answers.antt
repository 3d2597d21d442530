-- A piece more, the piece in which the line ends, and the end of the input.
use Rattle.std.proofs.Common.{◌≡◌, ◌+◌, ◌-◌, ◌^◌, ◌<◌, min, length, take, ◌∙◌, arith, length-append, length-take}
use Rattle.text_stream.proofs.Taking.{IsWithinLine-nowhere}
use Rattle.text_stream.proofs.Reading.{Reads-push, Reads-found, Reads-ended, Reads-stops, Reads-few, Reads-long}
use Rattle.text_stream.proofs.Reading.{short_unless}
use Rattle.text_stream.proofs.piece.read_line.Goals as goal

pub returns-then-len-eq0-clause-finds : goal.returns-then-len-eq0-clause-finds
returns-then-len-eq0-clause-finds g c =
    let bytes = c.in-Ok.ensures.bytes in
    let some : 0 < length c.read_some.new.buf = omega (arith, c.read_some.auto.buf, c.loop.invariant.piece) in
    Reads-ended _ _ _ _ _ _ _ c.loop.invariant.reads c.last.result (rw c.if-len-eq0.true at bytes.0)
    (bytes.1 c.if-len-eq0.true some) c.last.ensures.torn c.last.ensures.cuts

pub returns-in-Some-clause-finds : goal.returns-in-Some-clause-finds
returns-in-Some-clause-finds g c =
    let found = c.in-Some.ensures in
    Reads-found _ _ _ _ _ _ _ c.loop.invariant.reads _ c.in-Some.at c.end_line.result _ c.in-Ok.ensures.bytes.0
    found.0.high found.0.before found.1 c.end_line.ensures.torn c.end_line.ensures.cuts

pub loop-preserved : goal.loop-preserved
loop-preserved g c =
    let read = take c.in-Ok.len c.read_some.new.buf in
    let taken = length-take c.in-Ok.len c.read_some.new.buf in
    let some : 0 < length read = omega (arith, taken, c.in-Ok.ensures.bound, c.if-len-eq0.false) in
    let sum : c.saturating_add-count.result ≡ min (c.loop.count + length read) (2 ^ 64 - 1) =
    omega (arith, taken, c.in-Ok.ensures.bound, c.saturating_add-count.ensures) in
    record {
      reads = Reads-push _ _ _ _ _ _ _ c.loop.invariant.reads read c.keep-is_long.result _ _
          c.in-Ok.ensures.bytes.0 (IsWithinLine-nowhere read c.in-None.ensures) some sum c.keep-is_long.ensures;
      short = short_unless _ _ c.else-is_long.either;
      piece = omega (arith, c.read_some.auto.buf, c.loop.invariant.piece);
      unfailed = c.in-Ok.ensures.failed ∙ c.loop.invariant.unfailed;
    }

pub returns-clause-stops : goal.returns-clause-stops
returns-clause-stops g c =
    Reads-stops _ _ _ _ _ _ c.loop.invariant.reads c.args.reads_on c.loop.invariant.short
    (omega (arith, c.loop-test.false))

pub returns-then-not-reads_on-clause-stops : goal.returns-then-not-reads_on-clause-stops
returns-then-not-reads_on-clause-stops g c =
    let reads = c.loop.invariant.reads in
    let read = take c.in-Ok.len c.read_some.new.buf in
    let taken = length-take c.in-Ok.len c.read_some.new.buf in
    let some : 0 < length read = omega (arith, taken, c.in-Ok.ensures.bound, c.if-len-eq0.false) in
    let sum : c.saturating_add-count.result ≡ min (c.loop.count + length read) (2 ^ 64 - 1) =
    omega (arith, taken, c.in-Ok.ensures.bound, c.saturating_add-count.ensures) in
    let longer = Reads-push _ _ _ _ _ _ _ reads read c.keep-is_long.result _ _ c.in-Ok.ensures.bytes.0
    (IsWithinLine-nowhere read c.in-None.ensures) some sum c.keep-is_long.ensures in
    let off = c.if-not-reads_on.true in
    let few = Reads-few _ _ _ _ _ _ reads (c.loop.invariant.short off) in
    Reads-long _ _ _ _ _ _ longer c.args.reads_on off c.if-is_long.true (omega (
      arith,
      few,
      taken,
      length-append reads.front read,
      c.in-Ok.ensures.bound,
      c.read_some.auto.buf,
      c.loop.invariant.piece,
    ))
