-- The MAP has the draft's elements and byte counts.
use Rattle.std.proofs.Common.{rules}
use Rattle.map_build.proofs.draft.Draft.into_map.Goals as goal

pub returns-clause-made : goal.returns-clause-made
returns-clause-made c = search rules
