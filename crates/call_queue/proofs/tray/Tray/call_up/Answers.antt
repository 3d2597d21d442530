-- A new token keeps the rule of the tray.
use Rattle.std.proofs.Common.{rules}
use mathlib.Core.Option as place
use Rattle.atomic_table.specs.Table.{step}
use Rattle.call_queue.proofs.Steps.{arrives}
use Rattle.call_queue.proofs.tray.Tray.call_up.Goals as goal

pub load_new_seat-place-requires : goal.load_new_seat-place-requires
load_new_seat-place-requires g c = (search rules, arrives g.D.Deal.fits g.D.Deal.answers _ _ (step 1 0 0 0 place.none))
