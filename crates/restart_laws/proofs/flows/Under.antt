-- Steady flows of one state are under their reservations alike, and of one rank.
use Rattle.std.proofs.Common.{◌≡◌, ap, ◌∙◌, ℕ, Bool, ◌&&◌, nat_lt, cond, min}
use Rattle.minislots.specs.declared.config.Config.{Config}
use Rattle.sched_calls.specs.declared.spec.FlowSpec.{FlowSpec}
use Rattle.sched_calls.specs.FlowSpec.{rank_of, reserved_of, reserved_burst_of}
use Rattle.flow_book.specs.Choice.{last_slot}
use Rattle.flow_book.specs.Flows.{LiveFlow, charge_of}
use Rattle.flow_book.specs.Reserved.{is_within, wanted_of, is_under, rank_at}
use Rattle.restart_laws.proofs.Alike.{IsSteadyFlow, AlikeFlow}
use Rattle.restart_laws.proofs.flows.Fields.{spec-alike, outstanding-alike}
use Rattle.restart_laws.proofs.flows.Charges.{within-alike}
use Rattle.restart_laws.proofs.flows.Levels.{reserved-level}

module _ (c : Config) (start : ℕ) (f g : LiveFlow) (one : IsSteadyFlow c start f) (other : IsSteadyFlow c start g)
    (same : AlikeFlow c f g) where
  -- whether a reservation with these parameters and the charges of g has room for so many bytes
  abbrev has_reserve : FlowSpec → ℕ → Bool
  has_reserve spec bytes = nat_lt 0 (reserved_of spec) && is_within c (reserved_of spec) (reserved_burst_of spec)
      (charge_of (record { start = start; bytes = bytes })) g.reserved

  -- they are under their reservations alike
  pub under-alike : is_under c start f ≡ is_under c start g
  under-alike =
      within-alike c (reserved_of f.spec) (reserved_burst_of f.spec) (last_slot f.grants) start one.last f.reserved
      g.reserved (reserved-level c start f g one other same) (wanted_of c f)
      ∙ ap (λ spec. has_reserve spec (wanted_of c f)) (spec-alike c f g same)
      ∙ ap (λ n. has_reserve g.spec (min n c.quantum)) (outstanding-alike c f g same)

  -- and of one rank
  pub rank-alike : rank_at c start f ≡ rank_at c start g
  rank-alike =
      ap (λ under. cond under 8 (rank_of f.spec)) under-alike
      ∙ ap (λ (spec : FlowSpec). cond (is_under c start g) 8 (rank_of spec)) (spec-alike c f g same)
