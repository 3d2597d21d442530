-- Nothing is counted.
use Rattle.std.proofs.Common.{arith}
use Rattle.std.proofs.lemmas.List.{get_or-replicate}
use Rattle.minislots.proofs.Bounds.{bounds_of}
use Rattle.periodic.proofs.counts.Counts.open.Goals as goal

pub returns : goal.returns
returns c = λ config lawful place within.
    get_or-replicate 64 place 0 0 (omega (arith, within, (bounds_of config lawful).cycle_most))
