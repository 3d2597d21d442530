-- Each step keeps the rule of the tray.
use Rattle.std.proofs.Common.{rules, Some, ap, ◌∙◌, ◌∷◌}
use mathlib.Core.Option as place
use Rattle.atomic_table.specs.Table.{step}
use Rattle.call_queue.specs.declared.slip.Slip.TheVariants.{Left}
use Rattle.call_queue.proofs.Steps.{arrives, takes_up, alone_taken}
use Rattle.call_queue.proofs.tray.Tray.take_up.Goals as goal

pub load_new_seat-place-requires : goal.load_new_seat-place-requires
load_new_seat-place-requires g c = (search rules, arrives g.D.Deal.fits g.D.Deal.answers _ _ (step 1 0 0 0 place.none))

pub compare_exchange-found-requires : goal.compare_exchange-found-requires
compare_exchange-found-requires g c =
    (search rules, search rules, takes_up g.D.Deal.fits g.D.Deal.answers _ _ _ _ _ (step 1 0 0 0 place.none))

pub exchange-lying-requires : goal.exchange-lying-requires
exchange-lying-requires g c =
    let none_held = ap (λ m. m.1) c.load_new_seat-place.ensures.2 in
    let told = c.compare_exchange-found.ensures.2.0 (search rules) in (
      search rules,
      (
        _,
        alone_taken _ _ (ap (λ m. m.1) told.2 ∙ ap (λ d. (0, Some (Left told.0)) ∷ d) none_held),
      ),
    )
