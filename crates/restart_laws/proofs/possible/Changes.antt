-- The last change of the UCD count of every legal history started at a frame that a MAP described.
use Rattle.std.proofs.Common.{◌≡◌, ℕ, ◌+◌, ◌≤◌, ◌==◌, ◌%◌, Bool, true, false, Option, None, Some, List, if◌then◌else◌}
use Rattle.std.proofs.Common.{arith}
use Rattle.std.specs.Prelude.{IfSome}
use Rattle.minislots.specs.declared.config.Config.{Config}
use Rattle.minislots.specs.Config.{IsLawful}
use Rattle.sched_calls.specs.declared.reply.Entry.{Entry}
use Rattle.channel_states.specs.Possible.{IsPossibleChange}
use Rattle.sched_history.specs.Situation.{Situation, situation_of}
use Rattle.sched_history.specs.History.{IsLegal}
use Rattle.sched_history.proofs.steps.LegalBounds.{next_after-aligned}
use Rattle.restart_laws.proofs.possible.Effects.{Effect, Described, Skipped, next_left, settling_left}
use Rattle.restart_laws.proofs.possible.Legal.{kept-legal}
use Rattle.restart_laws.proofs.possible.Times.{times-legal}

-- the next frame is a whole one, from the channel's start on
record IsWhole (c : Config) (next : ℕ) : Type 0 where
  aligned : next % c.frame ≡ 0
  started : c.start ≤ next

module _ (c : Config) (next later : ℕ) where
  change-later : (o : Option ℕ) → next ≤ later → IfSome o (IsPossibleChange c next)
      → IfSome o (IsPossibleChange c later)
  change-later None le is = tt
  change-later (Some change) le is =
      record { aligned = is.aligned; least = is.least; most = omega (arith, is.most, le) }

change-made : (c : Config) (next : ℕ) (same : Bool) (o : Option ℕ) → IsWhole c next → IfSome o (IsPossibleChange c next)
    → IfSome (if same then o else Some next) (IsPossibleChange c (next + c.frame))
change-made c next true o whole is = change-later c next (next + c.frame) o (omega arith) is
change-made c next false o whole is =
    record { aligned = whole.aligned; least = whole.started; most = omega arith }

module _ (c : Config) (x : Situation) (whole : IsWhole c x.next) where
  change-kept : (effect : Effect c x) → IfSome x.settling.change (IsPossibleChange c x.next)
      → IfSome (settling_left c x effect).change (IsPossibleChange c (next_left c x effect))
  change-kept (Described plan lawful) is =
      change-made c x.next (x.header.ucd_count == x.settling.count) x.settling.change whole is
  change-kept (Skipped start later) is = change-later c x.next start x.settling.change later is
  change-kept effect is = is

-- so it is of every legal history
pub change-legal : (c : Config) → IsLawful c → (h : List Entry) → IsLegal c h
    → IfSome (situation_of c h).settling.change (IsPossibleChange c (situation_of c h).next)
change-legal c lawful =
    kept-legal c (λ x. IsWhole c x.next)
    (λ h legal. record {
      aligned = next_after-aligned c lawful h legal;
      started = (times-legal c lawful h legal).started;
    })
    (λ x. IfSome x.settling.change (IsPossibleChange c x.next))
    (λ x effect old new is. change-kept c x old effect is) tt
