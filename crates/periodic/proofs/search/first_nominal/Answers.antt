-- The frames to wait are fewer than an interval.
use Rattle.std.proofs.Common.{◌≡◌, ◌∙◌}
use Rattle.periodic.proofs.Reference.{reference-is}
use Rattle.periodic.proofs.search.first_nominal.Goals as goal

pub returns : goal.returns
returns c =
    let frame : c.from-frame.result ≡ c.args.config.now.frame = c.from-frame.ensures ∙ c.frame.ensures.value in
    rw frame (reference-is c.args.config.now c.args.interval c.args.next c.args.phase c.args.offset c.requires.phase
    c.requires.offset
    c.requires.aligned)
