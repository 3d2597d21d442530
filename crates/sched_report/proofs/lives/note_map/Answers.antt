-- The data grants, and then the unsolicited ones.
use Rattle.std.proofs.Common.{◌≡◌, ◌<◌, ℕ, List, [], length, get_or, None, sym, ap, ◌∙◌, subst, append-nil}
use Rattle.std.proofs.Common.{arith}
use Rattle.std.specs.List.{zip, filter_map}
use Rattle.std.specs.Prelude.{sum_by}
use Rattle.map_codec.specs.declared.element.Element.{Element}
use Rattle.map_drawing.specs.Allocation.{allocations_of}
use Rattle.sched_calls.specs.declared.spec.FlowSpec.{FlowSpec}
use Rattle.sched_history.specs.Facts.{HasFront}
use Rattle.sched_history.specs.Life.{grant_by, grants_of_map}
use Rattle.sched_report.specs.Granted.{HaveMore, MayGrantEach}
use Rattle.sched_report.specs.Said.{unsolicited_at, unsolicited_of_map}
use Rattle.sched_report.proofs.GrantedLaws.{HaveMore-then, HaveMore-live}
use Rattle.sched_report.proofs.lives.note_map.Goals as goal

pub grant_each-requires-clause-granted : goal.grant_each-requires-clause-granted
grant_each-requires-clause-granted c =
    subst (λ (bs : List ℕ). MayGrantEach c.args.config.now (λ sid. filter_map (grant_by sid c.args.map.now.start)
    (zip c.as_slice-elements.result.now bs)) c.args.lives.now)
    (sym c.as_slice-counts.ensures)
    (subst (λ (es : List Element). MayGrantEach c.args.config.now (λ sid. filter_map
    (grant_by sid c.args.map.now.start) (zip es c.args.map.now.bytes)) c.args.lives.now)
    (sym c.as_slice-elements.ensures) c.requires.granted)

pub count_each-requires-clause-front : goal.count_each-requires-clause-front
count_each-requires-clause-front c = (
  c.args.config.now,
  subst (HasFront c.args.config.now) (sym c.as_slice-elements.ensures) c.requires.orderly.front,
)

pub count_each-requires-clause-live : goal.count_each-requires-clause-live
count_each-requires-clause-live c =
    HaveMore-live c.args.config.now (λ (sid : ℕ). filter_map (grant_by sid c.args.map.now.start)
    (zip c.as_slice-elements.result.now c.as_slice-counts.result.now)) 0 (λ (spec : FlowSpec) (sid : ℕ). 0)
    c.args.lives.now c.grant_each.new.lives c.grant_each.auto.lives
    c.grant_each.ensures c.args.places.now c.requires.live

pub count_each-requires-clause-few : goal.count_each-requires-clause-few
count_each-requires-clause-few c = λ k t below alive.
    let within : k < length c.args.lives.now = omega (arith, below, c.grant_each.auto.lives) in
    let more = c.grant_each.ensures k t within in
    let goes_on : (get_or c.args.lives.now k t).to ≡ None = sym more.to ∙ alive in
    omega (
      arith,
      more.few,
      c.requires.few k t within goes_on,
      ap (λ (es : List Element). length es) c.as_slice-elements.ensures,
    )

pub returns : goal.returns
returns c =
    let k = c.args.config.now in
    let m = c.args.map.now in
    let met = c.args.met.now in
    let old = c.args.lives.now in
    let granted : HaveMore k (λ sid. grants_of_map sid m) 0 (λ spec sid. 0) old c.grant_each.new.lives =
    subst (λ (bs : List ℕ). HaveMore k (λ sid. filter_map (grant_by sid m.start) (zip m.wire.elements bs))
    0 (λ spec sid. 0) old c.grant_each.new.lives) c.as_slice-counts.ensures
    (subst (λ (es : List Element). HaveMore k (λ sid. filter_map (grant_by sid m.start)
    (zip es c.as_slice-counts.result.now)) 0 (λ spec sid. 0) old c.grant_each.new.lives) c.as_slice-elements.ensures
    c.grant_each.ensures) in
    let counted : HaveMore k (λ sid. []) (length m.wire.elements) (λ spec sid. unsolicited_of_map met spec sid m)
    c.grant_each.new.lives c.count_each.new.lives =
    subst (λ (es : List Element). HaveMore k (λ sid. []) (length es) (λ spec sid. sum_by (unsolicited_at met spec sid)
    (allocations_of es)) c.grant_each.new.lives c.count_each.new.lives) c.as_slice-elements.ensures
    (c.count_each.ensures k) in
    HaveMore-then k (λ (sid : ℕ). grants_of_map sid m) 0 (λ (spec : FlowSpec) (sid : ℕ). 0) old c.grant_each.new.lives
    c.grant_each.auto.lives granted (λ (sid : ℕ). []) (λ (sid : ℕ). grants_of_map sid m) (length m.wire.elements)
    (length m.wire.elements)
    (λ (spec : FlowSpec) (sid : ℕ). unsolicited_of_map met spec sid m)
    (λ (spec : FlowSpec) (sid : ℕ). unsolicited_of_map met spec sid m) c.count_each.new.lives counted
    (λ sid. append-nil (grants_of_map sid m)) (omega arith) (λ spec sid. omega arith)
