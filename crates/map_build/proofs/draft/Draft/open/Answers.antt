-- With the request region alone the draft has the plan of nothing.
use Rattle.std.proofs.Common.{◌≡◌, ℕ, ◌∙◌, ap, subst, arith}
use Rattle.minislots.specs.Config.{IsLawful}
use Rattle.minislots.proofs.Bounds.{bounds_of}
use Rattle.map_build.specs.Draft.{Puts}
use Rattle.map_build.specs.Plan.{demand_at}
use Rattle.map_build.proofs.Begun.{HasPlan-begun}
use Rattle.map_build.proofs.draft.Draft.open.Goals as goal

pub overflow_cast-requests : goal.overflow_cast-requests
overflow_cast-requests c =
    let bounds = bounds_of c.config.result.now c.req_slots-requests.ensures.lawful in
    omega (arith, bounds.frame_most, c.req_slots-requests.ensures.fits)

pub put_slots-requires : goal.put_slots-requires
put_slots-requires c =
    let bounds = bounds_of c.config.result.now c.req_slots-requests.ensures.lawful in
    omega (arith, bounds.frame_most, c.req_slots-requests.ensures.fits, c.in_ok-draft.ensures.offset)

pub returns : goal.returns
returns c = λ spots waiting are.
    let book = c.args.overlay in
    let begun = c.in_ok-draft.ensures in
    let same : c.config.result.now ≡ book.config = c.config.ensures.value ∙ begun.config in
    let requests : c.req_slots-requests.result ≡ book.config.req_slots = c.req_slots-requests.ensures.value
    ∙ ap (λ k. k.req_slots) same in
    HasPlan-begun book.config (demand_at book.flows spots waiting c.args.start) c.in_ok-draft.draft c.put_slots.new.self
    (subst IsLawful same c.req_slots-requests.ensures.lawful) begun
    (subst (λ (n : ℕ). Puts 16383 1 n 0 c.in_ok-draft.draft c.put_slots.new.self) requests c.in_ok-put_slots.ensures)
    are
