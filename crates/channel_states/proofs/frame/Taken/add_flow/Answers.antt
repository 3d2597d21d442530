-- A flow takes nothing of a frame of another phase, and of one of its own a group of its starts.
use Rattle.std.proofs.Common.{◌≡◌, refl, ap, ℕ, ◌+◌, ◌*◌, ◌/◌, ◌≤◌, List, map, length}
use Rattle.std.proofs.Common.{slice_range, arith, rules}
use Rattle.minislots.specs.declared.config.Config.{Config}
use Rattle.minislots.proofs.Bounds.{bounds_of}
use Rattle.sched_calls.specs.declared.state.FlowState.{FlowState}
use Rattle.sched_calls.specs.declared.state.PlaceState.{PlaceState}
use Rattle.sched_calls.specs.FlowSpec.{interval_frames, periodic_slots, grants_of}
use Rattle.periodic.specs.Placement.{group_at}
use Rattle.periodic.proofs.Groups.{range-group}
use Rattle.channel_states.specs.declared.nominal.Nominal.{Nominal}
use Rattle.channel_states.specs.Nominal.{IsNominalOf}
use Rattle.channel_states.specs.Taken.{taken_by, spot_from}
use Rattle.channel_states.proofs.Taking.{own-parts, takes-nothing, group-within, takes-group}
use Rattle.channel_states.proofs.frame.Taken.add_flow.Goals as goal

-- the frame's group is among the starts
fits : (c : Config) (f : FlowState) (at : PlaceState) (n : Nominal) (place : ℕ) → IsNominalOf c f.spec n
    → place / interval_frames c f.spec * grants_of f.spec + grants_of f.spec ≤ length at.starts
    → place / n.interval * n.grants + n.grants ≤ length at.starts
fits c f at n place is within = rw (is.interval, is.grants) within

-- what it takes there
takes : (c : Config) (f : FlowState) (at : PlaceState) (n : Nominal) (place : ℕ) (starts : List ℕ)
    → IsNominalOf c f.spec n
    → starts ≡ at.starts → taken_by c place f
    ≡ map (spot_from f (periodic_slots c f.spec))
    (group_at (grants_of f.spec) (place / interval_frames c f.spec) at.starts)
    → taken_by c place f ≡ map (spot_from f n.slots)
    (slice_range starts (place / n.interval * n.grants) (place / n.interval * n.grants + n.grants))
takes c f at n place starts is same group =
    let range = range-group starts n.grants (place / n.interval) (place / n.interval * n.grants)
    (place / n.interval * n.grants + n.grants) refl refl in
    rw (range, same, is.interval, is.grants, is.slots) group

pub returns-then-place-nominal-clause-added : goal.returns-then-place-nominal-clause-added
returns-then-place-nominal-clause-added c = λ yes.
    let (entries, next, possible) = c.requires.possible in
    let nominal = c.nominal_of-nominal.ensures in
    let none = takes-nothing c.args.config.now entries next c.args.flow.now c.in-Some.at nominal.lawful possible
    c.in-Some.is c.args.place c.requires.place (λ e. c.if-place-nominal.true (rw nominal.value.interval e)) in
    rw none (search rules)

pub overflow_mul-first : goal.overflow_mul-first
overflow_mul-first c =
    let (entries, next, possible) = c.requires.possible in
    let nominal = c.nominal_of-nominal.ensures in
    let within = fits c.args.config.now c.args.flow.now c.in-Some.at c.nominal_of-nominal.result c.args.place
    nominal.value (group-within c.args.config.now entries next c.args.flow.now c.in-Some.at nominal.lawful possible
    c.in-Some.is c.args.place c.requires.place) in
    let long = ap length c.as_slice-starts.ensures in
    search rules

pub overflow_add-group : goal.overflow_add-group
overflow_add-group c =
    let (entries, next, possible) = c.requires.possible in
    let nominal = c.nominal_of-nominal.ensures in
    let within = fits c.args.config.now c.args.flow.now c.in-Some.at c.nominal_of-nominal.result c.args.place
    nominal.value (group-within c.args.config.now entries next c.args.flow.now c.in-Some.at nominal.lawful possible
    c.in-Some.is c.args.place c.requires.place) in
    let long = ap length c.as_slice-starts.ensures in
    search rules

pub offset_bounds-starts-first : goal.offset_bounds-starts-first
offset_bounds-starts-first c =
    let (entries, next, possible) = c.requires.possible in
    let nominal = c.nominal_of-nominal.ensures in
    let within = fits c.args.config.now c.args.flow.now c.in-Some.at c.nominal_of-nominal.result c.args.place
    nominal.value (group-within c.args.config.now entries next c.args.flow.now c.in-Some.at nominal.lawful possible
    c.in-Some.is c.args.place c.requires.place) in
    let long = ap length c.as_slice-starts.ensures in
    search rules

pub slice_bounds-group-end : goal.slice_bounds-group-end
slice_bounds-group-end c =
    let (entries, next, possible) = c.requires.possible in
    let nominal = c.nominal_of-nominal.ensures in
    let within = fits c.args.config.now c.args.flow.now c.in-Some.at c.nominal_of-nominal.result c.args.place
    nominal.value (group-within c.args.config.now entries next c.args.flow.now c.in-Some.at nominal.lawful possible
    c.in-Some.is c.args.place c.requires.place) in
    let long = ap length c.as_slice-starts.ensures in
    search rules

pub overflow_cast-nominal : goal.overflow_cast-nominal
overflow_cast-nominal c =
    let (entries, next, possible) = c.requires.possible in
    let nominal = c.nominal_of-nominal.ensures in
    let parts = own-parts c.args.config.now entries next c.args.flow.now c.in-Some.at nominal.lawful possible
    c.in-Some.is in
    omega (arith, parts.fits, nominal.value.slots, (bounds_of _ nominal.lawful).frame_most)

pub returns-clause-added : goal.returns-clause-added
returns-clause-added c = λ yes.
    let (entries, next, possible) = c.requires.possible in
    let nominal = c.nominal_of-nominal.ensures in
    let same = takes c.args.config.now c.args.flow.now c.in-Some.at c.nominal_of-nominal.result c.args.place
    c.as_slice-starts.result.now nominal.value c.as_slice-starts.ensures
    (takes-group c.args.config.now entries next c.args.flow.now c.in-Some.at nominal.lawful possible c.in-Some.is
    c.args.place c.requires.place (rw nominal.value.interval at c.if-place-nominal.false)) in
    rw same (c.add_starts.ensures.added yes)

pub returns-clause-not : goal.returns-clause-not
returns-clause-not c = λ no all.
    let (entries, next, possible) = c.requires.possible in
    let nominal = c.nominal_of-nominal.ensures in
    let same = takes c.args.config.now c.args.flow.now c.in-Some.at c.nominal_of-nominal.result c.args.place
    c.as_slice-starts.result.now nominal.value c.as_slice-starts.ensures
    (takes-group c.args.config.now entries next c.args.flow.now c.in-Some.at nominal.lawful possible c.in-Some.is
    c.args.place c.requires.place (rw nominal.value.interval at c.if-place-nominal.false)) in
    c.add_starts.ensures.not no (rw same at all)
