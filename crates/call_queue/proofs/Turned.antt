-- A turn at the lock, by a ticket that was looked at before, and the seat after a call.
use Rattle.std.proofs.Common.{◌≡◌, ℕ, List, ap, ◌∙◌}
use Rattle.minislots.specs.declared.stamp.Stamp.{Stamp}
use Rattle.ticket_lock.specs.Standing.{Standing}
use Rattle.ticket_lock.proofs.Entered.{Enters-looks}
use Rattle.call_queue.specs.Turns.{TakesTurn, CallsInTurn}

module _ {T H E C R : Type 0} (stamp : E → Stamp) (head : T → H) (entries : T → List E)
    (made : Standing H E → T → C → T → R → Type 0) (call : C) (reply : R) where
  -- how often a ticket was looked at before does not matter
  pub turn_looked : (ticket w : Standing H E) (looks : ℕ)
      → TakesTurn stamp head entries made call reply (record ticket { looks = looks }) w
      → TakesTurn stamp head entries made call reply ticket w
  turn_looked ticket w looks turn = record {
    holder = turn.holder;
    handed = turn.handed;
    entered = Enters-looks head entries stamp ticket turn.holder looks turn.handed turn.entered;
    ended = turn.ended;
  }

  -- a call leaves a seat at its lock
  pub called_lock : (s w : Standing H E) → CallsInTurn stamp head entries made call reply s w → w.lock ≡ s.lock
  called_lock s w turn =
      ap (λ (u : Standing H E). u.lock) turn.turn.ended.left.left
      ∙ ap (λ (u : Standing H E). u.lock) turn.turn.entered.entered
      ∙ ap (λ (u : Standing H E). u.lock) turn.drawn.drawn
