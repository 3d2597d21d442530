-- Who has which ticket, before and after what one seat does has changed.
use Rattle.std.proofs.Common.{◌≡◌, ◌≢◌, ℕ, ◌+◌, ◌<◌, ◌⊎◌, Bool, cond, List, Some, count_by}
use Rattle.std.proofs.Common.{length, get_or, set, sym, ◌∙◌, ap, inl, inr, ⊎_elim}
use Rattle.std.proofs.lemmas.Bool.{cases_eq}
use Rattle.std.proofs.lemmas.List.{get_or-set_same, get_or-set_other}
use Rattle.std.proofs.lemmas.List.Sums.{sum_by-set}
use Rattle.std.proofs.lemmas.Option.{same_Some}
use Rattle.ticket_core.specs.declared.SeatState.{SeatState}
use Rattle.ticket_core.specs.declared.SeatState.TheVariants.{Idle}
use Rattle.ticket_core.specs.LockWorld.{ticket_of, has_ticket}

-- one more in a count, or none
abbrev pub one_if : Bool → ℕ
one_if b = cond b 1 0

-- of these seats, this one has this ticket
abbrev pub Has : List SeatState → ℕ → ℕ → Type 0
Has seats seat ticket = ticket_of (get_or seats seat Idle) ≡ Some ticket

-- of one seat's ticket, where the seat has two names
pub Has-at : (seats : List SeatState) (a b ticket : ℕ) → a ≡ b → Has seats b ticket → Has seats a ticket
Has-at seats a b ticket e has = ap (λ (i : ℕ). ticket_of (get_or seats i Idle)) e ∙ has

-- a seat has one ticket at most
pub Has-one : (seats : List SeatState) (seat s t : ℕ) → Has seats seat s → Has seats seat t → s ≡ t
Has-one seats seat s t has_s has_t = same_Some s t (sym has_s ∙ has_t)

module _ (seats : List SeatState) (seat : ℕ) (state : SeatState) (exists : seat < length seats) where
  -- a seat does what it did, but for the one that was changed
  pub get_or-set_cases : (other : ℕ) → ((other ≡ seat) × (get_or (set seats seat state) other Idle ≡ state))
      ⊎ ((other ≢ seat) × (get_or (set seats seat state) other Idle ≡ get_or seats other Idle))
  get_or-set_cases other =
      let here = get_or-set_same seats seat state Idle exists in
      ⊎_elim
      (λ e. inl (e, ap (λ (i : ℕ). get_or (set seats seat state) i Idle) e ∙ here))
      (λ n. inr (n, get_or-set_other seats seat other state Idle n))
      (cases_eq other seat)

  -- a ticket is the changed seat's new one, or one that another seat had
  pub Has-set : (other ticket : ℕ) → Has (set seats seat state) other ticket
      → ((other ≡ seat) × (ticket_of state ≡ Some ticket)) ⊎ ((other ≢ seat) × Has seats other ticket)
  Has-set other ticket has = ⊎_elim
      (λ h. inl (h.0, sym (ap ticket_of h.1) ∙ has))
      (λ h. inr (h.0, sym (ap ticket_of h.1) ∙ has))
      (get_or-set_cases other)

  -- the changed seat has the ticket of its new state
  pub Has-set_same : (ticket : ℕ) → ticket_of state ≡ Some ticket → Has (set seats seat state) seat ticket
  Has-set_same ticket e = ap ticket_of (get_or-set_same seats seat state Idle exists) ∙ e

  -- another seat keeps its ticket
  pub Has-set_other : (other ticket : ℕ) → other ≢ seat → Has seats other ticket
      → Has (set seats seat state) other ticket
  Has-set_other other ticket n has = ap ticket_of (get_or-set_other seats seat other state Idle n) ∙ has

  -- how many seats have a ticket, once the seat in its old state no longer counts and in its new one does
  pub count_by-set : (old : SeatState) → get_or seats seat Idle ≡ old
      → count_by has_ticket (set seats seat state) + one_if (has_ticket old)
      ≡ count_by has_ticket seats + one_if (has_ticket state)
  count_by-set old is =
      ap (λ s. count_by has_ticket (set seats seat state) + one_if (has_ticket s)) (sym is)
      ∙ sum_by-set (λ x. one_if (has_ticket x)) seats seat state Idle exists
