-- No flow lives under any SID.
use Rattle.std.proofs.Common.{false}
use Rattle.std.proofs.lemmas.List.{get_or-replicate}
use Rattle.frame_picture.specs.declared.flows.TheConstants.{SIDS}
use Rattle.frame_picture.proofs.flows.no_flows.Goals as goal

pub returns : goal.returns
returns c = λ sid below. get_or-replicate SIDS sid false false below
