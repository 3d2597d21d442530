-- One more write.
use Rattle.std.proofs.Common.{◌-◌, length, drop, arith, ◌∙◌}
use Rattle.std.proofs.lemmas.List.{length-take, length-drop}
use Rattle.journal_file.proofs.Known.{append_known_part}
use Rattle.journal_file.proofs.line_file.append.Goals as goal

pub loop-at-preserved : goal.loop-at-preserved
loop-at-preserved g c = record {
  within = omega (
    arith,
    length-take (length c.args.bytes.now - c.loop-at.at) (drop c.loop-at.at c.args.bytes.now),
    length-drop c.loop-at.at c.args.bytes.now,
    c.in-Ok.ensures.bound,
  );
  put = append_known_part _ _ _ c.args.bytes.now c.loop-at.at c.in-Ok.n c.loop-at.invariant.put c.in-Ok.ensures.ok;
  reached = c.in-Ok.ensures.reached ∙ c.loop-at.invariant.reached;
  unfailed = c.in-Ok.ensures.failed ∙ c.loop-at.invariant.unfailed;
}
