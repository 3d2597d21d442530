-- Other bytes are no front of the opening's line.
use Rattle.journal_file.proofs.Comparing.{no_front_of}
use Rattle.journal_file.proofs.lacking.lacking.Goals as goal

pub returns-clause-other : goal.returns-clause-other
returns-clause-other g c =
    no_front_of c.compare.result _ c.args.opening.now (g.S.Store.contents c.args.store.now) c.args.size
    c.compare.ensures.other
