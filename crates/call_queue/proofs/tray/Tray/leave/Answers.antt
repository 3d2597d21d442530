-- Each step keeps the rule of the tray.
use Rattle.std.proofs.Common.{rules}
use mathlib.Core.Option as place
use Rattle.atomic_table.specs.Table.{step}
use Rattle.call_queue.proofs.Steps.{arrives, claims, puts_down}
use Rattle.call_queue.proofs.tray.Tray.leave.Goals as goal

pub load_new_seat-place-requires : goal.load_new_seat-place-requires
load_new_seat-place-requires g c = (search rules, arrives g.D.Deal.fits g.D.Deal.answers _ _ (step 1 0 0 0 place.none))

pub compare_exchange-found-requires : goal.compare_exchange-found-requires
compare_exchange-found-requires g c =
    (search rules, search rules, claims g.D.Deal.fits g.D.Deal.answers _ _ _ _ _ (step 1 0 0 0 place.none))

pub store-requires : goal.store-requires
store-requires g c = (
  search rules,
  search rules,
  puts_down g.D.Deal.fits g.D.Deal.answers _ _ _ _ (step 1 0 0 0 place.none) c.args.left (search rules) (search rules)
      (search rules),
)
