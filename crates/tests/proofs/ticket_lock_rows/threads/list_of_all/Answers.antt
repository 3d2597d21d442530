-- The seats are new ones of the lock, and all of them come back.
use Rattle.std.proofs.Common.{rules, ◌≡◌, length, ap, ◌∙◌, subst, sym}
use Rattle.std.specs.List.{range_with_len}
use Rattle.ticket_lock.specs.Rule.{Every}
use Rattle.ticket_lock.specs.Standing.{seats_of}
use Rattle.ticket_lock.proofs.Dealt.{new_standings-own, length-new_standings}
use Rattle.tests.proofs.ticket_lock_rows.threads.list_of_all.Goals as goal

pub take_all-requires-clause-own : goal.take_all-requires-clause-own
take_all-requires-clause-own g c =
    let opened = c.in-Ok.ensures.opened in
    let own : Every (λ s. s.lock ≡ c.in-Ok.lock) c.in-Ok.seats.items =
    subst (Every (λ s. s.lock ≡ c.in-Ok.lock)) (sym opened.seats_are)
    (new_standings-own c.in-Ok.lock (range_with_len 0 c.args.run.threads)) in
    search rules

pub close-list-requires-clause-all : goal.close-list-requires-clause-all
close-list-requires-clause-all g c =
    let opened = c.in-Ok.ensures.opened in
    let made = ap length opened.seats_are ∙ length-new_standings c.in-Ok.lock 0 c.args.run.threads in
    let wanted : seats_of c.in-Ok.lock ≡ c.args.run.threads = rw opened.about_is in
    c.in-Ok-take_all.ensures.count ∙ made ∙ sym wanted
