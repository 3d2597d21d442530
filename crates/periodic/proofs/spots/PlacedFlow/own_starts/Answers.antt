-- The starts in a frame of the flow's phase are the group behind those of the intervals before it.
use Rattle.std.proofs.Common.{◌≡◌, sym, ap, ◌∙◌, ℕ, ◌+◌, ◌*◌, ◌/◌, ◌%◌, ◌<◌, ◌≤◌, length, rules}
use Rattle.minislots.specs.declared.config.Config.{Config}
use Rattle.sched_calls.specs.FlowSpec.{interval_frames, grants_of}
use Rattle.periodic.specs.declared.spots.PlacedFlow.{PlacedFlow}
use Rattle.periodic.specs.Placement.{phase_of}
use Rattle.periodic.specs.Fields.{IsSoundFlow}
use Rattle.periodic.specs.Groups.{own_place}
use Rattle.periodic.proofs.Choosing.{starts-at}
use Rattle.periodic.proofs.Groups.{group-fits, index-within, range-group}
use Rattle.periodic.proofs.Numbered.{own-number, own-phase}
use Rattle.periodic.proofs.Parameters.{places_of}
use Rattle.periodic.proofs.spots.PlacedFlow.own_starts.Goals as goal

-- the frame's group is among the starts
group-within : (c : Config) (f : PlacedFlow) (number : ℕ) → IsSoundFlow c f → own_place f number < c.cycle
    → number * f.grants + f.grants ≤ length f.placement.starts
group-within c f number is within =
    let frames = interval_frames c f.spec in
    let places = places_of c f.spec is.times.lawful is.sound.periodic is.sound.no_fault in
    let place = own_place f number in
    let index = index-within frames 0 places.interval_positive c.cycle place places.divides within in
    let same : place / frames ≡ number = ap (λ n. place / n) (sym is.times.interval) ∙ own-number c f is number in
    rw (is.times.grants, is.sound.starts.count)
    (group-fits (grants_of f.spec) number (c.cycle / frames) (rw same at index))

pub overflow_mul-first : goal.overflow_mul-first
overflow_mul-first c =
    let (config, sound, within) = c.requires.sound in
    let fits = group-within config c.args.self.now c.args.number sound within in
    let long = ap length c.as_slice-starts.ensures in
    search rules

pub overflow_add-result : goal.overflow_add-result
overflow_add-result c =
    let (config, sound, within) = c.requires.sound in
    let fits = group-within config c.args.self.now c.args.number sound within in
    let long = ap length c.as_slice-starts.ensures in
    search rules

pub offset_bounds-starts-first : goal.offset_bounds-starts-first
offset_bounds-starts-first c =
    let (config, sound, within) = c.requires.sound in
    let fits = group-within config c.args.self.now c.args.number sound within in
    let long = ap length c.as_slice-starts.ensures in
    search rules

pub slice_bounds-result-end : goal.slice_bounds-result-end
slice_bounds-result-end c =
    let (config, sound, within) = c.requires.sound in
    let fits = group-within config c.args.self.now c.args.number sound within in
    let long = ap length c.as_slice-starts.ensures in
    search rules

pub returns : goal.returns
returns c = λ config is within.
    let f = c.args.self.now in
    let number = c.args.number in
    let place = own_place f number in
    let frames = interval_frames config f.spec in
    let phase = phase_of config f.spec f.placement in
    let value : f.interval ≡ frames = is.times.interval in
    let nominal : place % frames ≡ phase = ap (λ n. place % n) (sym value) ∙ own-phase config f is number ∙ is.times.phase in
    let same : number ≡ place / frames = sym (own-number config f is number) ∙ ap (λ n. place / n) value in
    let first : number * f.grants ≡ place / frames * grants_of f.spec =
    ap (λ n. n * f.grants) same ∙ ap (λ n. place / frames * n) is.times.grants in
    rw c.as_slice-starts.ensures (range-group f.placement.starts (grants_of f.spec) (place / frames)
    (number * f.grants) (number * f.grants + f.grants) first (ap (λ n. number * f.grants + n) is.times.grants))
    ∙ sym (starts-at config f.spec f.placement place nominal)
