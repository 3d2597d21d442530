-- Two digits, looked up.
use Rattle.std.proofs.Common.{refl}
use Rattle.itoa.proofs.Decimal.{PAIRS_at}
use Rattle.sched_lines.proofs.page.Page.push_pair.Goals as goal

pub returns : goal.returns
returns c =
    let pair = PAIRS_at c.args.number c.requires.below in
    rw (c.push.ensures, pair.0, pair.1) refl
