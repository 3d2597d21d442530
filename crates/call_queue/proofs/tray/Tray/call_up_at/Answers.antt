-- The step keeps the rule of the tray.
use Rattle.std.proofs.Common.{rules}
use mathlib.Core.Option as place
use Rattle.atomic_table.specs.Table.{step}
use Rattle.call_queue.specs.declared.board.TheConstants.{WAITING, CALLED}
use Rattle.call_queue.proofs.Steps.{calls_up}
use Rattle.call_queue.proofs.tray.Tray.call_up_at.Goals as goal

pub compare_exchange-found-requires : goal.compare_exchange-found-requires
compare_exchange-found-requires g c = (
  search rules,
  search rules,
  calls_up g.D.Deal.fits g.D.Deal.answers _ _ _ _ _ (step 1 0 WAITING CALLED place.none),
)
