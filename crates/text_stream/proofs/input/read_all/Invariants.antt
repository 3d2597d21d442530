-- The bytes so far were consumed, are not too many, and no read failed. Each read takes at least one more.
use Rattle.std.proofs.Common.{◌≡◌, ◌-◌, ◌≤◌, vec_len}
use Rattle.std.specs.Io.KnownBytes.{Consumes}
use Rattle.text_stream.specs.declared.input.TheConstants.{MAX_INPUT}
use Rattle.text_stream.proofs.input.read_all.Given as goal

abbrev pub invariant-loop-len : goal.invariant-loop-len
invariant-loop-len g l = Consumes (g.R.Source.remaining l.initial.reader) (g.R.Source.remaining l.reader) l.bytes.items
    × (vec_len l.bytes ≤ MAX_INPUT)
    × (g.R.Source.has_failed l.reader ≡ g.R.Source.has_failed l.initial.reader)

abbrev pub decreases-loop-len : goal.decreases-loop-len
decreases-loop-len g l = MAX_INPUT - vec_len l.bytes
