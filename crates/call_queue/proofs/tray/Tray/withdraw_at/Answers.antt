-- Each step keeps the rule of the tray.
use Rattle.std.proofs.Common.{rules, Some, ap, ◌∙◌, ◌∷◌}
use mathlib.Core.Option as place
use Rattle.atomic_table.specs.Table.{step}
use Rattle.call_queue.specs.declared.board.TheConstants.{CLAIMED}
use Rattle.call_queue.specs.declared.slip.Slip.TheVariants.{Left}
use Rattle.call_queue.proofs.Steps.{withdraws, frees, alone_taken}
use Rattle.call_queue.proofs.tray.Tray.withdraw_at.Goals as goal

pub compare_exchange-found-requires : goal.compare_exchange-found-requires
compare_exchange-found-requires g c = let i = c.waiting.invariant in (
  search rules,
  search rules,
  withdraws g.D.Deal.fits g.D.Deal.answers _ _ _ _ _ (step 1 0 c.args.word CLAIMED place.none) i.0.0 i.0.1
      c.requires.word,
)

pub exchange-lying-requires : goal.exchange-lying-requires
exchange-lying-requires g c =
    let i = c.waiting.invariant in
    let told = (c.compare_exchange-found.ensures.2 i.0.0 i.0.1).0 (search rules) in (
      search rules,
      (_, alone_taken _ _ (ap (λ m. m.1) told ∙ ap (λ d. (0, Some (Left i.0.0)) ∷ d) i.1)),
    )

pub store-requires : goal.store-requires
store-requires g c = (
  search rules,
  search rules,
  frees g.D.Deal.fits g.D.Deal.answers _ _ _ _ (step 1 0 0 0 place.none) (search rules)
      (search rules),
)
