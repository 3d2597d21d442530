use Rattle.map_snapshot.proofs.Growing.{never_falls, stays_read}
use Rattle.map_snapshot.proofs.laws.never_goes_back.Goals as goal

pub returns-clause-versions : goal.returns-clause-versions
returns-clause-versions c = never_falls

pub returns-clause-some : goal.returns-clause-some
returns-clause-some c = stays_read
