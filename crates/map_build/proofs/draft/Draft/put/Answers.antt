-- An element and its bytes more.
use Rattle.std.proofs.Common.{rules}
use Rattle.map_build.proofs.draft.Draft.put.Goals as goal

pub returns : goal.returns
returns c = search rules
