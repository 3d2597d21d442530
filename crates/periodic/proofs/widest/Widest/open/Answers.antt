-- A frame has at most 1024 minislots.
use Rattle.minislots.proofs.Bounds.{bounds_of}
use Rattle.periodic.proofs.Bounding.{open-bounds}
use Rattle.periodic.proofs.widest.Widest.open.Goals as goal

pub returns : goal.returns
returns c = λ config rows lawful.
    let bounds = bounds_of config lawful in open-bounds config rows bounds.frame_most bounds.cycle_most
