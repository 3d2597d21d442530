-- One more write.
use Rattle.std.proofs.Common.{◌-◌, ◌∙◌, length, drop, arith}
use Rattle.std.proofs.lemmas.List.{length-take, length-drop}
use Rattle.text_stream.proofs.Written.{Appends-part}
use Rattle.live_command.proofs.outbox.write.Goals as goal

pub loop-at-preserved : goal.loop-at-preserved
loop-at-preserved g c = record {
  within = omega (
    arith,
    length-take (length c.args.bytes.now - c.loop-at.at) (drop c.loop-at.at c.args.bytes.now),
    length-drop c.loop-at.at c.args.bytes.now,
    c.in-Ok.ensures.bound,
  );
  written = Appends-part _ _ _ c.args.bytes.now c.loop-at.at c.in-Ok.n c.loop-at.invariant.written
      c.in-Ok.ensures.bytes;
  unfailed = c.in-Ok.ensures.failed ∙ c.loop-at.invariant.unfailed;
}
