-- What is charged to a flow with one grant more, and what its ceilings and its reservation leave then.
use Rattle.std.proofs.Common.{◌≡◌, refl, sym, ap, ◌∙◌, ℕ, ◌≤◌, Bool, true, false, cond, [], ◌∷◌, ◌++◌}
use Rattle.minislots.specs.declared.config.Config.{Config}
use Rattle.sched_calls.specs.FlowSpec.{rate_of, burst_of, peak_of, reserved_of, reserved_burst_of}
use Rattle.sched_calls.specs.declared.spec.TheConstants.{PEAK_BURST}
use Rattle.flow_book.specs.declared.flow.Grant.{Grant}
use Rattle.flow_book.specs.declared.limits.Limits.{Limits}
use Rattle.flow_book.specs.Flows.{LiveFlow, charge_of, HaveStartedBy, AreMadeBy}
use Rattle.flow_book.specs.Reserved.{wanted_of, is_under, with_grant}
use Rattle.flow_book.specs.Bucket.{StandsFor, IsSettled, reserves}
use Rattle.flow_book.specs.Limits.{HasBegunBy, ChargesAtGrants, AreLimitsOf, AreSettled, HaveOneMore, StaySettled}
use Rattle.flow_book.proofs.Reservation.{under-reserves}
use Rattle.flow_book.proofs.Started.{started-front, made-push}

-- a flow under its reservation has the grant charged to that
pub reserved-more : (c : Config) (f : LiveFlow) (g : Grant) → is_under c g.start f ≡ true
    → (with_grant c g f).reserved ≡ f.reserved ++ charge_of g ∷ []
reserved-more c f g under = ap (λ b. cond b (f.reserved ++ charge_of g ∷ []) f.reserved) under

-- another has not
pub reserved-same : (c : Config) (f : LiveFlow) (g : Grant) → is_under c g.start f ≡ false
    → (with_grant c g f).reserved ≡ f.reserved
reserved-same c f g over = ap (λ b. cond b (f.reserved ++ charge_of g ∷ []) f.reserved) over

-- with one grant more too nothing is charged behind the grants
pub charges-more : (c : Config) (f : LiveFlow) (g : Grant) → ChargesAtGrants f → ChargesAtGrants (with_grant c g f)
charges-more c f g has = record {
  sustained = λ slot started.
      let both = started-front slot f.grants g started in
      made-push slot f.sustained (charge_of g) (has.sustained slot both.0) both.1;
  peak = λ slot started.
      let both = started-front slot f.grants g started in
      made-push slot f.peak (charge_of g) (has.peak slot both.0) both.1;
  reserved = λ slot started. made-by (is_under c g.start f) slot (started-front slot f.grants g started);
}
  where
    made-by : (b : Bool) (slot : ℕ) → HaveStartedBy slot f.grants × (g.start ≤ slot)
        → AreMadeBy slot (cond b (f.reserved ++ charge_of g ∷ []) f.reserved)
    made-by true slot both = made-push slot f.reserved (charge_of g) (has.reserved slot both.0) both.1
    made-by false slot both = has.reserved slot both.0

-- buckets are counted from no later than a minislot by which the flow's grants have started
pub begun-by : (c : Config) (f : LiveFlow) (l : Limits) (slot : ℕ) → AreLimitsOf c f l → ChargesAtGrants f
    → HaveStartedBy slot f.grants → HasBegunBy slot l
begun-by c f l slot are has started = record {
  sustained = are.sustained.since slot (has.sustained slot started);
  peak = are.peak.since slot (has.peak slot started);
  reserved = are.reserved.since slot (has.reserved slot started);
}

module _ (c : Config) (f : LiveFlow) (old new : Limits) (slot bytes : ℕ) (has : ChargesAtGrants f)
    (started : HaveStartedBy slot f.grants) (stand : AreLimitsOf c f old) where
  abbrev g : Grant
  g = record { start = slot; bytes = bytes }

  under : is_under c slot f ≡ reserves old.reserved slot (wanted_of c f)
  under = under-reserves c f old slot stand has started

  -- those that stand for one grant more are those of the flow with it
  pub limits-more : HaveOneMore old new slot (wanted_of c f) bytes → AreLimitsOf c (with_grant c g f) new
  limits-more more = record {
    sustained = more.sustained c (rate_of f.spec) (burst_of f.spec) f.sustained stand.sustained
        (has.sustained slot started);
    peak = more.peak c (peak_of f.spec) PEAK_BURST f.peak stand.peak (has.peak slot started);
    reserved = stands-by (is_under c slot f) refl;
  }
    where
      stands-by : (b : Bool) → is_under c slot f ≡ b → StandsFor c (reserved_of f.spec) (reserved_burst_of f.spec)
          new.reserved (with_grant c g f).reserved
      stands-by true is =
          rw (reserved-more c f g is) (more.reserved (sym under ∙ is) c (reserved_of f.spec) (reserved_burst_of f.spec)
          f.reserved stand.reserved (has.reserved slot started))
      stands-by false is = rw (reserved-same c f g is, more.same (sym under ∙ is)) stand.reserved

  -- and are settled by its charges
  pub settled-more : AreSettled f old → StaySettled old new slot (wanted_of c f) bytes
      → AreSettled (with_grant c g f) new
  settled-more are stay = record {
    sustained = stay.sustained f.sustained are.sustained (has.sustained slot started);
    peak = stay.peak f.peak are.peak (has.peak slot started);
    reserved = settled-by (is_under c slot f) refl;
  }
    where
      settled-by : (b : Bool) → is_under c slot f ≡ b → IsSettled new.reserved (with_grant c g f).reserved
      settled-by true is =
          rw (reserved-more c f g is)
          (stay.reserved (sym under ∙ is) f.reserved are.reserved (has.reserved slot started))
      settled-by false is = rw (reserved-same c f g is, stay.same (sym under ∙ is)) are.reserved
