-- The placed flow of a SID whose flow is unsolicited.
use Rattle.std.proofs.Common.{◌≡◌, ℕ, ◌≤◌, true, false, ◌==◌, nat_lt, find, Option, None, Some, refl, sym, subst, arith}
use Rattle.std.specs.Prelude.{IsSome}
use Rattle.std.specs.Option.{option_map_or, IfSome}
use Rattle.std.proofs.lemmas.Bool.Decides.{nat_tests}
use Rattle.minislots.specs.declared.config.Config.{Config}
use Rattle.sched_calls.specs.declared.spec.FlowSpec.{FlowSpec}
use Rattle.sched_calls.specs.declared.spec.FlowSpec.TheVariants.{Unsolicited, Polled, BestEffort}
use Rattle.sched_calls.specs.FlowSpec.{is_periodic, periodic_slots}
use Rattle.flow_book.specs.Flows.{LiveFlow, flow_of}
use Rattle.periodic.specs.Placement.{Placed}
use Rattle.periodic.specs.Table.{IsPlaced, HasRoomToPoll}
use Rattle.sched_history.specs.declared.scheduler.state.State.{State}
use Rattle.sched_history.specs.Situation.{Situation}
use Rattle.sched_history.specs.Refusal.{has_live, is_unsolicited, is_short_of_poll}
use Rattle.sched_history.specs.State.{IsStateAfter, IsSoundIn}
use Rattle.sched_history.proofs.situations.Places.{placed-periodic}
use Rattle.sched_history.proofs.state.Present.{find-kept, found-from_test, if_some-found}
use Rattle.sched_history.proofs.steps.Passed.{IsKnown}

voice-periodic : (spec : FlowSpec) → is_unsolicited spec ≡ true → is_periodic spec ≡ true
voice-periodic (Unsolicited size interval jitter grants) voice = refl
voice-periodic (Polled interval jitter rate burst peak) voice = absurd cc
voice-periodic (BestEffort priority rate burst peak reserved reserved-burst) voice = absurd cc

not-less : (m n : ℕ) → nat_lt m n ≡ false → n ≤ m
not-less m n e = grind (arith, nat_tests)

module _ (s : State) (x : Situation) (sid : ℕ) (is_after : IsStateAfter s x) (sound : IsSoundIn s.config x)
    (known : IsKnown x sid) (voice : has_live is_unsolicited sid x.flows ≡ true) where
  -- its flow
  live : (f : LiveFlow) × (flow_of sid x.flows ≡ Some f)
  live = found-from_test (flow_of sid x.flows) known.live

  -- and what is placed under it
  stands : (p : Placed) × (find (λ p. p.sid == sid) x.placed ≡ Some p) × (p.spec ≡ live.0.spec)
  stands = placed-periodic x.flows x.placed sound.channel.ascend sound.periodic sid live.0 live.1
      (voice-periodic live.0.spec (rw live.1 at voice))

  -- it is placed
  pub voice-placed : IsPlaced sid s.table.placed
  voice-placed = rw (find-kept s x sid is_after, stands.1) refl

  -- and where its grant has as many minislots as a poll it has room for one
  pub voice-polled : has_live (is_short_of_poll s.config) sid x.flows ≡ false
      → IfSome (find (λ f. f.sid == sid) s.table.placed) (HasRoomToPoll s.table.config)
  voice-polled long =
      let room : s.config.poll_slots ≤ periodic_slots s.config live.0.spec =
      not-less (periodic_slots s.config live.0.spec) s.config.poll_slots (rw live.1 at long) in
      rw (is_after.table_config, find-kept s x sid is_after, stands.1)
      (subst (λ spec. s.config.poll_slots ≤ periodic_slots s.config spec) (sym stands.2) room)
