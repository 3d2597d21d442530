-- The lock is one of a desk with this press, which has recorded nothing.
use Rattle.std.proofs.Common.{◌≡◌, sym, ap, ◌∙◌, subst}
use Rattle.logbook.specs.Pages.{Book}
use Rattle.sched_history.specs.Machine.{Machine}
use Rattle.ticket_lock.specs.Standing.{Lock}
use Rattle.sched_desk.specs.declared.event.Event.{Event}
use Rattle.sched_desk.specs.Desk.{FixedDesk, Recording, IsDeskLock, HasPress, empty_desk}
use Rattle.shared_sched.proofs.Opened.{is_desk_lock}
use Rattle.shared_sched.proofs.opening.share.Goals as goal

pub invariant_of-shared : goal.invariant_of-shared
invariant_of-shared g c =
    let whole = c.tell-told.ensures.same ∙ c.new-recorder.ensures.made in
    let config = ap (λ (r : Recording). r.machine.config) whole
    ∙ ap (λ (m : Machine). m.config) c.requires.new in
    let press = ap (λ (r : Recording). r.press) whole in
    let told = ap (λ t. t.press) c.tell-told.ensures.told
    ∙ ap (λ (r : Recording). r.press) c.new-recorder.ensures.made in
    let wanted = λ (y : Book × Lock FixedDesk Event).
    IsDeskLock c.args.checked y.1 × HasPress c.args.checked y.0 c.args.keeps y.1 in
    subst wanted (λ i. (sym told i, sym c.of.ensures i))
    (is_desk_lock c.args.checked c.args.press.press c.args.keeps
    (empty_desk c.tell-told.new.self.machine.config c.tell-told.new.self.press c.args.keeps) c.args.seats c.in-Ok.lock
    c.in-Ok.row.items (λ i. empty_desk (config i) (press i) c.args.keeps) c.requires.count.0 c.requires.count.1
    c.in-Ok.ensures.opened)
