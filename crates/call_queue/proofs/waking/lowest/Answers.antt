-- The lowest bit is set, and not above the word.
use Rattle.std.proofs.Common.{arith}
use Rattle.std.proofs.Math.Nat.{one-le-pow}
use Rattle.std.specs.Int.{w64, trailing_zeros}
use Rattle.std.proofs.lemmas.Nat.Bits.{bit_at-trailing_zeros}
use Rattle.call_queue.proofs.Bits.{bit_within}
use Rattle.call_queue.proofs.waking.lowest.Goals as goal

pub returns : goal.returns
returns c =
    let found = bit_at-trailing_zeros w64 c.args.seats c.requires.some (omega (arith, c.ranges.seats)) in
    let within = bit_within c.args.seats (trailing_zeros w64 c.args.seats) found.1 in
    record {
      set = found.1;
      within = within;
      small = (found.0, one-le-pow _ 2 (omega arith), omega (arith, within, c.ranges.seats));
    }
