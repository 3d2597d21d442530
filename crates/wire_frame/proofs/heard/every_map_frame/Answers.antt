-- What is shown of the frames of MAPs.
use Rattle.wire_frame.proofs.Frames.{each_has_one, each_is_of_one, each_map_has_its}
use Rattle.wire_frame.proofs.heard.every_map_frame.Goals as goal

pub returns-clause-one : goal.returns-clause-one
returns-clause-one c = each_has_one

pub returns-clause-back : goal.returns-clause-back
returns-clause-back c = each_is_of_one

pub returns-clause-maps : goal.returns-clause-maps
returns-clause-maps c = each_map_has_its
