-- What is unread is as it was, no read told the end or failed. Each read has one byte more at hand.
use Rattle.std.proofs.Common.{◌≡◌, ◌-◌, false, vec_len}
use Rattle.std.specs.Io.KnownBytes.{Keeps}
use Rattle.check_lines.specs.declared.front.TheConstants.{FRONT}
use Rattle.check_lines.specs.Front.{unread_of, failed_of}
use Rattle.check_lines.proofs.front.Front.look.Given as goal

abbrev pub invariant-loop-self : goal.invariant-loop-self
invariant-loop-self g l = record {
  same : Keeps (unread_of g.R.Source.remaining l.fn.self) (unread_of g.R.Source.remaining l.self);
  unended : l.self.has_ended ≡ false;
  unfailed : failed_of g.R.Source.has_failed l.self ≡ failed_of g.R.Source.has_failed l.fn.self;
}

abbrev pub decreases-loop-self : goal.decreases-loop-self
decreases-loop-self g l = FRONT - (vec_len l.self.bytes - l.self.given)
