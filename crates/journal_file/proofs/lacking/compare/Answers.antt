-- A piece more is the same, or the file has other bytes.
use Rattle.std.proofs.Common.{None, Some, take}
use Rattle.std.proofs.lemmas.Bool.Decides.{Decides-eqb}
use Rattle.std.proofs.lemmas.Slice.Eq.{strip_prefix_is}
use Rattle.journal_file.proofs.Comparing.{compared_more, compared_other}
use Rattle.journal_file.proofs.lacking.compare.Goals as goal

pub returns-in-None-clause-other : goal.returns-in-None-clause-other
returns-in-None-clause-other g c = λ is.
    let buf = c.read_from.new.buf in
    let rest = c.loop-len.rest.now in
    compared_other (g.S.Store.contents c.args.store.now) c.args.opening.now rest buf c.loop-len.at c.in-Ok.len
    c.loop-len.invariant.compared c.in-Ok.ensures.bytes
    (strip_prefix_is Decides-eqb rest (take c.in-Ok.len buf) None c.in-None.ensures.cases)

pub loop-len-preserved : goal.loop-len-preserved
loop-len-preserved g c =
    let buf = c.read_from.new.buf in
    let rest = c.loop-len.rest.now in
    record {
      compared = compared_more (g.S.Store.contents c.args.store.now) c.args.opening.now rest c.in-Some.behind.now buf
          c.loop-len.at c.in-Ok.len c.loop-len.invariant.compared c.in-Ok.ensures.bytes
          (strip_prefix_is Decides-eqb rest (take c.in-Ok.len buf) (Some c.in-Some.behind) c.in-Some.ensures.cases);
      room = c.if-len-eq0.array_long;
    }
