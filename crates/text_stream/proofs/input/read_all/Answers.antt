-- The bytes so far are all, or with those of the last read too many.
use Rattle.std.proofs.Common.{◌++◌, take, arith}
use Rattle.std.proofs.lemmas.List.{length-append, length-take}
use Rattle.std.proofs.lemmas.Grind.{common_steps}
use Rattle.text_stream.proofs.Bytes.{Consumes-append}
use Rattle.text_stream.proofs.input.read_all.Goals as goal

pub returns-then-len-eq0-clause-ok : goal.returns-then-len-eq0-clause-ok
returns-then-len-eq0-clause-ok g c = grind (arith, common_steps)

pub returns-then-len-clause-stops : goal.returns-then-len-clause-stops
returns-then-len-clause-stops g c =
    let more = take c.in-Ok.len c.read_some.new.buf in
    record {
      bytes = c.loop-len.bytes.items ++ more;
      consumed = Consumes-append (g.R.Source.remaining c.args.reader.now) (g.R.Source.remaining c.loop-len.reader)
          (g.R.Source.remaining c.read_some.new.self) c.loop-len.bytes.items more c.loop-len.invariant.0
          c.in-Ok.ensures.bytes.0;
      long = omega (
        arith,
        length-append c.loop-len.bytes.items more,
        length-take c.in-Ok.len c.read_some.new.buf,
        c.in-Ok.ensures.bound,
      );
    }
