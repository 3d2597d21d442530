-- What is judged sound is well formed.
use Rattle.map_codec.proofs.MapFaults.{judged_well_formed}
use Rattle.map_codec.proofs.wire_map.WireMap.check.Goals as goal

pub returns-clause-well_formed : goal.returns-clause-well_formed
returns-clause-well_formed c =
    judged_well_formed c.args.self.now c.first_fault.result c.are_numbers.ensures c.first_fault.ensures
