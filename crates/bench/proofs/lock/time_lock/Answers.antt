-- The seats are new ones of the lock, and all of them come back.
use Rattle.std.proofs.Common.{◌≡◌, length, ap, ◌∙◌, subst, sym}
use Rattle.std.specs.List.{range_with_len}
use Rattle.ticket_lock.specs.Rule.{Every}
use Rattle.ticket_lock.specs.Standing.{seats_of}
use Rattle.ticket_lock.proofs.Dealt.{new_standings-own, length-new_standings}
use Rattle.bench.proofs.lock.time_lock.Goals as goal

pub take_all-requires-after_bounds : goal.take_all-requires-after_bounds
take_all-requires-after_bounds g c κs within =
    let opened = c.in-Ok.ensures.opened in
    subst (Every (λ s. s.lock ≡ c.in-Ok.lock)) (sym opened.seats_are)
    (new_standings-own c.in-Ok.lock (range_with_len 0 c.args.threads))

pub close-taken-requires-clause-all : goal.close-taken-requires-clause-all
close-taken-requires-clause-all g c =
    let opened = c.in-Ok.ensures.opened in
    let made = ap length opened.seats_are ∙ length-new_standings c.in-Ok.lock 0 c.args.threads in
    let wanted : seats_of c.in-Ok.lock ≡ c.args.threads = rw opened.about_is in
    c.in-Ok-take_all.ensures.count ∙ made ∙ sym wanted
