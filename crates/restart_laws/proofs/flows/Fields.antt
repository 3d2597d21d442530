-- What two flows of one state have alike.
use Rattle.std.proofs.Common.{◌≡◌, sym, ap, ◌∙◌, ℕ, ◌-◌, ◌<◌, Option, None, unwrap_or, arith}
use Rattle.minislots.specs.declared.config.Config.{Config}
use Rattle.sched_calls.specs.FlowSpec.{rate_of, burst_of, peak_of, reserved_of, reserved_burst_of}
use Rattle.sched_calls.specs.declared.spec.FlowSpec.{FlowSpec}
use Rattle.sched_calls.specs.declared.spec.TheConstants.{PEAK_BURST}
use Rattle.sched_calls.specs.declared.state.BatchState.{BatchState}
use Rattle.sched_calls.specs.declared.state.FlowState.{FlowState}
use Rattle.flow_book.specs.Batches.{since_of}
use Rattle.flow_book.specs.Choice.{last_start, last_slot}
use Rattle.flow_book.specs.Flows.{LiveFlow, granted, outstanding}
use Rattle.flow_book.specs.FlowState.{level_after, batch_state}
use Rattle.flow_book.specs.Shown.{since}
use Rattle.flow_book.specs.Carried.{carried_batches}
use Rattle.restart_laws.proofs.Alike.{AlikeFlow}
use Rattle.restart_laws.proofs.flows.Batches.{since-carried}

-- the state of a flow by its parts
abbrev state_by : ℕ → FlowSpec → ℕ → ℕ → Option ℕ → Option ℕ → Option ℕ → Option ℕ → Option BatchState → FlowState
state_by sid spec asked given last sustained peak reserved batches = record {
  sid = sid;
  spec = spec;
  asked = asked;
  granted = given;
  last = last;
  sustained = sustained;
  peak = peak;
  reserved = reserved;
  batches = batches;
  place = None;
}

same-state : (sid sid' : ℕ) (spec spec' : FlowSpec) (asked asked' given given' : ℕ)
    (last last' sustained sustained' peak peak' reserved reserved' : Option ℕ) (batches batches' : Option BatchState)
    → sid ≡ sid' → spec ≡ spec' → asked ≡ asked' → given ≡ given' → last ≡ last' → sustained ≡ sustained'
    → peak ≡ peak' → reserved ≡ reserved' → batches ≡ batches'
    → state_by sid spec asked given last sustained peak reserved batches
    ≡ state_by sid' spec' asked' given' last' sustained' peak' reserved' batches'
same-state sid sid' spec spec' asked asked' given given' last last' sustained sustained' peak peak' reserved reserved'
    batches batches' e1 e2 e3 e4 e5 e6 e7 e8 e9 = rw (e1, e2, e3, e4, e5, e6, e7, e8, e9)

module _ (c : Config) (f g : LiveFlow) where
  -- what has nine parts alike is alike
  pub alike-of : f.sid ≡ g.sid → f.spec ≡ g.spec → f.asked ≡ g.asked → granted f ≡ granted g
      → last_start f.grants ≡ last_start g.grants
      → level_after c (rate_of f.spec) (burst_of f.spec) (last_slot f.grants) f.sustained
      ≡ level_after c (rate_of g.spec) (burst_of g.spec) (last_slot g.grants) g.sustained
      → level_after c (peak_of f.spec) PEAK_BURST (last_slot f.grants) f.peak
      ≡ level_after c (peak_of g.spec) PEAK_BURST (last_slot g.grants) g.peak
      → level_after c (reserved_of f.spec) (reserved_burst_of f.spec) (last_slot f.grants) f.reserved
      ≡ level_after c (reserved_of g.spec) (reserved_burst_of g.spec) (last_slot g.grants) g.reserved
      → batch_state f.batches f.asked (granted f) ≡ batch_state g.batches g.asked (granted g) → AlikeFlow c f g
  alike-of = same-state _ _ _ _ _ _ _ _ _ _ _ _ _ _ _ _ _ _

  -- flows of one state have each part of it alike
  module _ (same : AlikeFlow c f g) where
    pub sid-alike : f.sid ≡ g.sid
    sid-alike = ap (λ (s : FlowState). s.sid) same

    pub spec-alike : f.spec ≡ g.spec
    spec-alike = ap (λ (s : FlowState). s.spec) same

    pub asked-alike : f.asked ≡ g.asked
    asked-alike = ap (λ (s : FlowState). s.asked) same

    pub granted-alike : granted f ≡ granted g
    granted-alike = ap (λ (s : FlowState). s.granted) same

    pub outstanding-alike : outstanding f ≡ outstanding g
    outstanding-alike = ap (λ (s : FlowState). s.asked - s.granted) same

    pub last-alike : last_start f.grants ≡ last_start g.grants
    last-alike = ap (λ (s : FlowState). s.last) same

    pub slot-alike : last_slot f.grants ≡ last_slot g.grants
    slot-alike = ap (λ (s : FlowState). unwrap_or s.last 0) same

    pub sustained-alike : level_after c (rate_of f.spec) (burst_of f.spec) (last_slot f.grants) f.sustained
        ≡ level_after c (rate_of g.spec) (burst_of g.spec) (last_slot g.grants) g.sustained
    sustained-alike = ap (λ (s : FlowState). s.sustained) same

    pub peak-alike : level_after c (peak_of f.spec) PEAK_BURST (last_slot f.grants) f.peak
        ≡ level_after c (peak_of g.spec) PEAK_BURST (last_slot g.grants) g.peak
    peak-alike = ap (λ (s : FlowState). s.peak) same

    pub reserved-alike : level_after c (reserved_of f.spec) (reserved_burst_of f.spec) (last_slot f.grants) f.reserved
        ≡ level_after c (reserved_of g.spec) (reserved_burst_of g.spec) (last_slot g.grants) g.reserved
    reserved-alike = ap (λ (s : FlowState). s.reserved) same

    pub batches-alike : batch_state f.batches f.asked (granted f) ≡ batch_state g.batches g.asked (granted g)
    batches-alike = ap (λ (s : FlowState). s.batches) same

  -- of those that wait the least minislot in which a request was heard is the same
  pub waiting-alike : 0 < outstanding f → AlikeFlow c f g → since f ≡ since g
  waiting-alike waits same =
      let also = rw (outstanding-alike same) at waits in
      sym (since-carried f.batches f.asked (granted f) (omega arith))
      ∙ ap (λ (s : FlowState). since_of (carried_batches s.batches) s.granted) same
      ∙ since-carried g.batches g.asked (granted g) (omega arith)
