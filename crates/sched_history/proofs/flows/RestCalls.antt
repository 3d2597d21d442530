-- The live flows and placements after a flow rests, and after it wakes.
use Rattle.std.proofs.Common.{◌≡◌, ℕ, Bool, true, false, ◌==◌, if◌then◌else◌, List, [], ◌∷◌, ◌++◌}
use Rattle.std.proofs.Common.{Option, None, Some, refl, ap, ◌∙◌, arith}
use Rattle.std.specs.Option.{option_map}
use Rattle.std.proofs.lemmas.Bool.Decides.{nat_tests}
use Rattle.minislots.specs.declared.stamp.Stamp.{Stamp}
use Rattle.periodic.specs.Placement.{Placed}
use Rattle.periodic.specs.Table.{resting, with_rest}
use Rattle.sched_calls.specs.declared.call.Call.TheVariants as calls
use Rattle.sched_calls.specs.declared.reply.Reply.TheVariants as replies
use Rattle.sched_calls.specs.declared.reply.Entry.{Entry}
use Rattle.sched_history.specs.Life.{turn_by, change_by, rest_by, sids, table_of}
use Rattle.sched_history.proofs.lists.Latests.{or_else}
use Rattle.sched_history.proofs.lists.Numbered.{filter_map-changed}
use Rattle.sched_history.proofs.lives.Finding.{placed_at, placed_at-sid}
use Rattle.sched_history.proofs.lives.FlowsAfter.{placed_at-rested}

-- a flow that rests or wakes, or another
rested_flow : (b rests : Bool) (p : Placed) → resting (or_else (if b then Some rests else None) p.rests) p
    ≡ (if b then resting rests p else p)
rested_flow true rests p = refl
rested_flow false rests p = refl

same-test : (a b sid : ℕ) → a ≡ b → (sid == b) ≡ (a == sid)
same-test a b sid e = grind (arith, nat_tests)

rested_this : (sid other : ℕ) (rests : Bool) (o : Option Placed) → ((p : Placed) → o ≡ Some p → p.sid ≡ other)
    → option_map (λ p. resting (or_else (if sid == other then Some rests else None) p.rests) p) o
    ≡ option_map (λ p. if p.sid == sid then resting rests p else p) o
rested_this sid other rests None has = refl
rested_this sid other rests (Some p) has =
    rw (same-test p.sid other sid (has p refl)) (ap (λ (q : Placed). Some q) (rested_flow (p.sid == sid) rests p))

module _ (stamp : Stamp) (h : List Entry) (sid : ℕ) where
  rests-after : (rests : Bool) (e : Entry) → ((other : ℕ) → turn_by other e.call e.reply ≡ None)
      → ((other : ℕ) → change_by other e.call e.reply ≡ None)
      → ((other : ℕ) → rest_by other e.call e.reply ≡ (if sid == other then Some rests else None))
      → table_of (h ++ e ∷ []) ≡ with_rest sid rests (table_of h)
  rests-after rests e turns changes is =
      filter_map-changed (placed_at h) (placed_at (h ++ e ∷ []))
      (λ p. if p.sid == sid then resting rests p else p) sids
      (λ other. placed_at-rested h e other (turns other) (changes other)
      ∙ ap (λ o. option_map (λ (p : Placed). resting (or_else o p.rests) p) (placed_at h other)) (is other)
      ∙ rested_this sid other rests (placed_at h other) (placed_at-sid h other))

  -- the flow rests
  pub table_of-rest : table_of (h ++ record { stamp = stamp; call = calls.Rest sid; reply = replies.Noted } ∷ [])
      ≡ with_rest sid true (table_of h)
  table_of-rest =
      rests-after true (record { stamp = stamp; call = calls.Rest sid; reply = replies.Noted }) (λ other. refl)
      (λ other. refl) (λ other. refl)

  -- and wakes
  pub table_of-wake : table_of (h ++ record { stamp = stamp; call = calls.Wake sid; reply = replies.Noted } ∷ [])
      ≡ with_rest sid false (table_of h)
  table_of-wake =
      rests-after false (record { stamp = stamp; call = calls.Wake sid; reply = replies.Noted }) (λ other. refl)
      (λ other. refl) (λ other. refl)
