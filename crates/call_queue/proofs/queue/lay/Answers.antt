-- A tray more is of this lock too.
use Rattle.std.proofs.Common.{rules, ◌≡◌, ◌∙◌, ap, ◌++◌, ◌∷◌, []}
use Rattle.call_queue.proofs.Trays.{All-grown}
use Rattle.call_queue.proofs.queue.lay.Goals as goal

pub loop-preserved : goal.loop-preserved
loop-preserved g c = (
  search rules,
  All-grown (λ t. t.about.value ≡ c.args.lock.now) c.loop.trays.items c.push_reserved.new.self.items c.in-Ok.tray
      (search rules)
      c.loop.invariant.1
      (search rules),
)
