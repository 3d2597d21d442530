-- The requests that are served are those that the granted bytes reach now.
use Rattle.std.proofs.Common.{◌≡◌, ℕ, ◌+◌, ◌-◌, ◌≤◌, List, [], ◌∷◌, ◌++◌, map, length, sym, ap, ◌∙◌, subst}
use Rattle.std.proofs.Common.{append_assoc, arith}
use Rattle.std.specs.List.{AllByRecursion}
use Rattle.std.specs.Prelude.{vec_len, vec_capacity}
use Rattle.std.proofs.lemmas.List.{map-append}
use Rattle.flow_book.proofs.Order.{all-push}
use Rattle.sched_report.specs.declared.service.Delays.{Delays}
use Rattle.sched_report.specs.declared.service.Service.{Service}
use Rattle.sched_report.specs.declared.service.Waiting.{Waiting}
use Rattle.sched_report.specs.declared.spread.Spread.{Spread}
use Rattle.sched_report.specs.Delays.{delay_until, delays_of, AreDelays}
use Rattle.sched_report.specs.Served.{IsWaitingBehind}
use Rattle.sched_report.specs.Steps.{AreStepsOf}
use Rattle.sched_report.proofs.Serving.{IsServiceOf-granted, few_served}
use Rattle.sched_report.proofs.service.Service.grant.Goals as goal

pub add-requires : goal.add-requires
add-requires c =
    let r = c.requires in
    let few = few_served c.args.config.now c.args.self.now r.claims r.bytes r.grants r.is in
    omega (
      arith,
      few,
      c.requires.few,
      c.loop-mark.invariant.few,
      ap (λ (s : Service). s.delays.served) c.in-Some.ensures.same,
    )

-- the steps have the delays so far
pub add-requires-in-Some-clause-few : goal.add-requires-in-Some-clause-few
add-requires-in-Some-clause-few c =
    let i = c.loop-mark.invariant in
    let is = c.requires.is in
    let k = c.args.config.now in
    let before : List ℕ = delays_of k c.requires.claims in
    let delays : List ℕ = before ++ map (λ m. c.end_of-end.result - m.heard) i.passed in
    let spread = ap (λ (s : Service). s.spread) c.in-Some.ensures.same in (
      delays,
      subst (λ (s : Spread). AreStepsOf s.steps.items delays) (sym spread) (i.steps before is.steps),
      omega (
        arith,
        (i.delays before is.delays).served,
        few_served k c.args.self.now c.requires.claims c.requires.bytes c.requires.grants is,
        c.requires.few,
        i.few,
      ),
    )

pub add-requires-in-Some-clause-room : goal.add-requires-in-Some-clause-room
add-requires-in-Some-clause-room c =
    let spread = ap (λ (s : Service). s.spread) c.in-Some.ensures.same in
    omega (
      arith,
      c.loop-mark.invariant.room,
      c.in-Some.ensures.less,
      ap (λ (s : Spread). vec_len s.steps) spread,
      ap (λ (s : Spread). vec_capacity s.steps) spread,
    )

pub add-requires-in-Some-clause-reach : goal.add-requires-in-Some-clause-reach
add-requires-in-Some-clause-reach c = omega (arith, c.saturating_sub-delay.ensures, c.end_of-end.ensures.reach)

pub loop-mark-preserved : goal.loop-mark-preserved
loop-mark-preserved c =
    let i = c.loop-mark.invariant in
    let mark = c.in-Some.mark in
    let new = c.next_served.new.self in
    let same = c.in-Some.ensures.same in
    let delay : Waiting → ℕ = λ m. c.end_of-end.result - m.heard in
    let step : c.saturating_sub-delay.result ≡ delay mark = c.saturating_sub-delay.ensures in
    let granted : new.granted ≡ c.loop-mark.self.granted = ap (λ (s : Service). s.granted) same in
    let told : new.delays ≡ c.loop-mark.self.delays = ap (λ (s : Service). s.delays) same in
    let spread : new.spread ≡ c.loop-mark.self.spread = ap (λ (s : Service). s.spread) same in
    record {
      asks = ap (λ (s : Service). s.asks) same ∙ i.asks;
      asked = ap (λ (s : Service). s.asked) same ∙ i.asked;
      granted = granted ∙ i.granted;
      replaced = ap (λ (s : Service). s.replaced) same ∙ i.replaced;
      passed = i.passed ++ mark ∷ [];
      passes = i.passes ∙ ap (λ (ms : List Waiting). i.passed ++ ms) c.in-Some.ensures.taken
          ∙ sym (append_assoc i.passed (mark ∷ []) new.waiting.items);
      reached = subst (λ n. AllByRecursion (λ m. m.upto ≤ n) (i.passed ++ mark ∷ [])) (sym granted)
          (all-push (λ (m : Waiting). m.upto ≤ c.loop-mark.self.granted) i.passed mark i.reached
          c.in-Some.ensures.some);
      delays = λ delays are.
          let before : AreDelays new.delays (delays ++ map delay i.passed) =
          subst (λ (d : Delays). AreDelays d (delays ++ map delay i.passed)) (sym told) (i.delays delays are) in
          let whole : (delays ++ map delay i.passed) ++ c.saturating_sub-delay.result ∷ []
          ≡ delays ++ map delay (i.passed ++ mark ∷ []) =
          ap (λ n. (delays ++ map delay i.passed) ++ n ∷ []) step
          ∙ append_assoc delays (map delay i.passed) (delay mark ∷ [])
          ∙ ap (λ (ds : List ℕ). delays ++ ds) (sym (map-append delay i.passed (mark ∷ []))) in
          subst (AreDelays c.add.new.self) whole (c.add.ensures.delays (delays ++ map delay i.passed) before);
      steps = λ ns are.
          let before : AreStepsOf new.spread.steps.items (ns ++ map delay i.passed) =
          subst (λ (s : Spread). AreStepsOf s.steps.items (ns ++ map delay i.passed)) (sym spread) (i.steps ns are) in
          let whole : (ns ++ map delay i.passed) ++ c.saturating_sub-delay.result ∷ []
          ≡ ns ++ map delay (i.passed ++ mark ∷ []) =
          ap (λ n. (ns ++ map delay i.passed) ++ n ∷ []) step
          ∙ append_assoc ns (map delay i.passed) (delay mark ∷ [])
          ∙ ap (λ (ds : List ℕ). ns ++ ds) (sym (map-append delay i.passed (mark ∷ []))) in
          subst (AreStepsOf c.add-in-Some.new.self.steps.items) whole
          (c.add-in-Some.ensures.steps (ns ++ map delay i.passed) before);
      room = omega (
        arith,
        i.room,
        c.in-Some.ensures.less,
        c.add-in-Some.ensures.len,
        c.add-in-Some.ensures.capacity,
        ap (λ (s : Spread). vec_len s.steps) spread,
        ap (λ (s : Spread). vec_capacity s.steps) spread,
      );
      few = omega (
        arith,
        i.few,
        c.add.ensures.served,
        ap (λ (d : Delays). d.served) told,
        ap length c.in-Some.ensures.taken,
      );
    }

pub returns : goal.returns
returns c = λ claims bytes grants is.
    let k = c.args.config.now in
    let i = c.loop-mark.invariant in
    let s = c.args.self.now in
    let new = c.next_served.new.self in
    let same = c.in_default.ensures.same in
    let g = c.args.grant in
    let granted : new.granted ≡ c.loop-mark.self.granted = ap (λ (s : Service). s.granted) same in
    let spread : new.spread ≡ c.loop-mark.self.spread = ap (λ (s : Service). s.spread) same in
    IsServiceOf-granted k s new claims bytes grants is g i.passed
    (ap (λ (s : Service). s.asks) same ∙ i.asks)
    (ap (λ (s : Service). s.asked) same ∙ i.asked)
    (granted ∙ i.granted ∙ ap (λ n. s.granted + n) c.from.ensures)
    (ap (λ (s : Service). s.replaced) same ∙ i.replaced)
    (omega (arith, c.requires.within, c.requires.is.granted, c.requires.is.asked))
    (i.passes ∙ ap (λ (ms : List Waiting). i.passed ++ ms) (sym c.in_default.ensures.kept))
    (subst (λ n. AllByRecursion (λ m. m.upto ≤ n) i.passed) (sym granted) i.reached)
    (subst (λ n. IsWaitingBehind n new.waiting.items) (sym granted)
    (subst (IsWaitingBehind c.loop-mark.self.granted) (sym c.in_default.ensures.kept) c.in_default.ensures.none))
    (subst (λ (d : Delays). AreDelays d (delays_of k claims ++ map (λ m. delay_until k m.heard g) i.passed))
    (sym (ap (λ (s : Service). s.delays) same))
    (subst (λ e. AreDelays c.loop-mark.self.delays (delays_of k claims ++ map (λ m. e - m.heard) i.passed))
    c.end_of-end.ensures.value (i.delays (delays_of k claims) is.delays)))
    (subst (λ (s : Spread). AreStepsOf s.steps.items
    (delays_of k claims ++ map (λ m. delay_until k m.heard g) i.passed)) (sym spread)
    (subst (λ e. AreStepsOf c.loop-mark.self.spread.steps.items
    (delays_of k claims ++ map (λ m. e - m.heard) i.passed)) c.end_of-end.ensures.value
    (i.steps (delays_of k claims) is.steps)))
    (omega (
      arith,
      i.room,
      c.in_default.ensures.few,
      ap (λ (s : Spread). vec_len s.steps) spread,
      ap (λ (s : Spread). vec_capacity s.steps) spread,
    ))
