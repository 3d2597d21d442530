-- Each step keeps the rule of the tray.
use Rattle.std.proofs.Common.{rules}
use mathlib.Core.Option as place
use Rattle.atomic_table.specs.Table.{step}
use Rattle.call_queue.proofs.Steps.{gives_answer}
use Rattle.call_queue.proofs.tray.Tray.answer.Goals as goal

pub store-requires : goal.store-requires
store-requires g c = (
  search rules,
  search rules,
  gives_answer g.D.Deal.fits g.D.Deal.answers _ _ _ _ (step 1 0 0 0 place.none) c.requires.answers.0 c.args.back
      c.requires.answers.2
      (search rules) (search rules),
)
