-- The SID of a flow more stands behind, where it waits and stands so.
use Rattle.std.proofs.Common.{◌≡◌, sym, ap, ◌∙◌, refl, ℕ, Bool, true, false, List, [], ◌∷◌, ◌++◌, map, filter, take, cond, arith}
use Rattle.std.proofs.lemmas.List.{append-nil, map-append, take_all}
use Rattle.std.proofs.lemmas.List.Elements.{filter-append}
use Rattle.flow_book.specs.Flows.{LiveFlow}
use Rattle.flow_book.specs.Choice.{HasStartedBy}
use Rattle.flow_book.specs.Entry.{live, IsSoundFlow}
use Rattle.flow_book.specs.Standing.{waits_so}
use Rattle.flow_book.proofs.Steps.{taken-item, all-item}
use Rattle.flow_book.proofs.standing.who_waits.Goals as goal
use Rattle.flow_book.proofs.standing.who_waits.Goals.{then-waits_so+in_ok-push, else-waits_so}

pub loop-place-init : goal.loop-place-init
loop-place-init c = c.new-sids.ensures.items

pub waits_so-requires-clause-within : goal.waits_so-requires-clause-within
waits_so-requires-clause-within c =
    (all-item live c.args.flows.now c.loop-place.place c.at-flow.result.now (omega (arith, c.loop-place-test.true))
    c.at-flow.ensures (IsSoundFlow c.args.config.now) c.requires.book.sound.each).within

pub waits_so-requires-clause-started : goal.waits_so-requires-clause-started
waits_so-requires-clause-started c =
    all-item live c.args.flows.now c.loop-place.place c.at-flow.result.now (omega (arith, c.loop-place-test.true))
    c.at-flow.ensures (HasStartedBy c.args.start) c.requires.started

-- of one flow more the SID stands behind where it passes the test
one-more : (p : LiveFlow → Bool) (fs : List LiveFlow) (f : LiveFlow) → map (λ g. g.sid) (filter p (fs ++ f ∷ []))
    ≡ map (λ g. g.sid) (filter p fs) ++ cond (p f) (f.sid ∷ []) []
one-more p fs f = ap (map (λ g. g.sid)) (filter-append p fs (f ∷ [])) ∙ map-append (λ g. g.sid) (filter p fs) _
    ∙ ap (λ (x : List ℕ). map (λ (g : LiveFlow). g.sid) (filter p fs) ++ x) (by-test (p f) refl)
  where
    by-test : (b : Bool) → p f ≡ b → map (λ (g : LiveFlow). g.sid) (filter p (f ∷ [])) ≡ cond (p f) (f.sid ∷ []) []
    by-test true is = rw is refl
    by-test false is = rw is refl

pub loop-place-preserved : goal.loop-place-preserved
loop-place-preserved c =
    let items = c.args.flows.now in
    let i = c.loop-place.place in
    let f = c.at-flow.result.now in
    let p = waits_so c.args.standing c.args.config.now c.args.start in
    let taken = taken-item live items i f (omega (arith, c.loop-place-test.true)) c.at-flow.ensures in
    let more = one-more p (map live (take i items)) (live f) in
    elim c.if-waits_so.branch [
      | then-waits_so+in_ok-push w ↦ rw (taken, more, sym c.waits_so.ensures, w.if-waits_so.true, w.sids-is)
          (w.in_ok-push.ensures.items ∙ ap (λ (x : List ℕ). x ++ f.sid ∷ []) c.loop-place.invariant)
      | else-waits_so w ↦ rw (taken, more, sym c.waits_so.ensures, w.if-waits_so.false, w.sids-is)
          (c.loop-place.invariant ∙ sym (append-nil _))
    ]

pub returns : goal.returns
returns c =
    let items = c.args.flows.now in
    rw (sym (take_all c.loop-place.place items (omega (arith, c.loop-place-test.false, c.len-place-end.ensures.value))))
    c.loop-place.invariant
