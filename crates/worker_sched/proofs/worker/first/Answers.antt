-- One of the seats is the first worker's, and the others are with it.
use Rattle.std.proofs.Common.{◌≡◌, None, refl, sym, ap, ◌∙◌, subst, arith}
use Rattle.sched_desk.specs.Desk.{SharedDesk}
use Rattle.worker_sched.specs.Worker.{HasOwn, IsFirstOf}
use Rattle.worker_sched.proofs.First.{has_own}
use Rattle.worker_sched.proofs.worker.first.Goals as goal

pub invariant_of-worker : goal.invariant_of-worker
invariant_of-worker c =
    subst (λ (p : SharedDesk). HasOwn p c.pop.result None None c.pop.new.self.items) (sym c.in-Ok.ensures.ok)
    (has_own c.args.place c.args.seats.items c.pop.new.self.items c.pop.result c.pop.ensures.items c.requires.own)

pub returns-in-Ok-new : goal.returns-in-Ok-new
returns-in-Ok-new c = record {
  first = subst (IsFirstOf c.args.place c.args.seats.items) (sym (c.in-Ok-new.ensures.ok
      ∙ ap (λ (p : SharedDesk).
      record { place = p; seat = c.pop.result; ticket = None; entered = None; spare = c.pop.new.self.items })
      c.in-Ok.ensures.ok))
      (record {
        place_is = refl;
        seats_are = c.pop.ensures.items;
        ticket_is = refl;
        entered_is = refl;
        seat_is = λ some. c.pop.ensures.variant.1 (omega (arith, some));
      });
  memory = tt;
}
