use Rattle.map_snapshot.proofs.Names.{finds}
use Rattle.map_snapshot.proofs.reader.Reader.read.Goals as goal

pub enter_as-requires : goal.enter_as-requires
enter_as-requires c s = finds _ _ s
