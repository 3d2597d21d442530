-- A seat that took a turn is still one of its lock.
use Rattle.std.proofs.Common.{◌≡◌, List, ap, ◌∙◌}
use Rattle.minislots.specs.declared.stamp.Stamp.{Stamp}
use Rattle.ticket_lock.specs.Standing.{Standing}
use Rattle.call_queue.specs.Turns.{CallsInTurn}

-- a call leaves a seat at its lock
pub called_lock : {T H E C R : Type 0} (stamp : E → Stamp) (head : T → H) (entries : T → List E)
    (made : Standing H E → T → C → T → R → Type 0) (call : C) (reply : R) (s w : Standing H E)
    → CallsInTurn stamp head entries made call reply s w → w.lock ≡ s.lock
called_lock {T} {H} {E} stamp head entries made call reply s w turn =
    ap (λ (u : Standing H E). u.lock) turn.turn.ended.left.left
    ∙ ap (λ (u : Standing H E). u.lock) turn.turn.entered.entered
    ∙ ap (λ (u : Standing H E). u.lock) turn.drawn.drawn
