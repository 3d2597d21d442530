-- What a lock is that was opened round a desk.
use Rattle.std.proofs.Common.{◌≡◌, ◌≤◌, ℕ, List, [], ◌∷◌, Bool, Option, Some, sym, ap, ◌∙◌, subst}
use Rattle.minislots.specs.declared.config.Config.{Config}
use Rattle.sched_desk.specs.declared.event.Event.{Event}
use Rattle.ticket_core.specs.declared.TheConstants.{MAX_SEATS}
use Rattle.ticket_lock.specs.declared.board.About.{About}
use Rattle.ticket_lock.specs.Calls.{Opens}
use Rattle.ticket_lock.specs.Rule.{head_in}
use Rattle.ticket_lock.specs.Standing.{Lock, Standing, head_of, seats_of, opening_in, seats_in, first_in}
use Rattle.sched_desk.specs.Desk.{DeskState, FixedDesk, fixed_of, events_of, IsDeskLock, HasPress, no_press, empty_desk}

-- what such a lock is about
abbrev about_desk : ℕ → DeskState → Option (About FixedDesk Event)
about_desk count d = Some (record { head = fixed_of d ∷ []; opening = events_of d; seats = count; first = 0 })

-- it is one of a desk without a press
pub is_desk_lock : (c : Config) (keeps : Bool) (d : DeskState) (count : ℕ) (lock : Lock FixedDesk Event)
    (seats : List (Standing FixedDesk Event)) → d ≡ empty_desk c no_press keeps → 1 ≤ count
    → count ≤ MAX_SEATS → Opens fixed_of events_of d count 0 lock seats
    → IsDeskLock c lock × HasPress c no_press keeps lock × (count ≡ seats_of lock)
is_desk_lock c keeps d count lock seats desk some few opens =
    let about : lock.about ≡ about_desk count (empty_desk c no_press keeps) =
    opens.about_is ∙ ap (about_desk count) desk in
    let head : head_of lock ≡ Some (record { config = c; press = no_press; keeps = keeps }) = ap head_in about in
    let all : seats_of lock ≡ count = ap seats_in about in (
      record {
        press = no_press;
        keeps = keeps;
        head_is = head;
        opening_is = ap opening_in about;
        first_is = ap first_in about;
        some = subst (λ (n : ℕ). 1 ≤ n) (sym all) some;
        few = subst (λ (n : ℕ). n ≤ MAX_SEATS) (sym all) few;
      },
      head,
      sym all,
    )
