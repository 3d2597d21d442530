-- It may be served where what it wants at least fits and keeps its ceilings.
use Rattle.std.proofs.Common.{◌≡◌, sym, ◌∙◌, Some, inl, inr, arith}
use Rattle.minislots.proofs.Bounds.{bounds_of}
use Rattle.flow_book.specs.Choice.{IsEligible}
use Rattle.flow_book.specs.Entry.{live}
use Rattle.flow_book.proofs.Serving.{stands-at-place, entry-may, wanted-fits}
use Rattle.flow_book.proofs.waiting.Waiting.may_be_served.Goals as goal

pub returns-clause-may : goal.returns-clause-may
returns-clause-may c = λ config items f lawful quantum fits-room book began at tier found still.
    let w = c.args.self.now in
    let tiers = c.args.tiers.now in
    let start = c.args.start in
    let room = c.args.room.slots in
    let is = stands-at-place config items tiers start w book began at tier in
    let same : is.flow ≡ f = let e : Some is.flow ≡ Some f = sym is.at ∙ found in cc in
    let able =
    entry-may config start room items tiers w c.min-wanted.result c.has.result lawful is
    (omega (arith, c.min-wanted.ensures, quantum))
    (omega (arith, c.if-wanted-eq0.false)) (omega (arith, fits-room, c.if-wanted-room.false)) c.has.ensures in
    rw (sym same) able

pub returns-then-wanted-eq0-clause-may : goal.returns-then-wanted-eq0-clause-may
returns-then-wanted-eq0-clause-may c = λ config items f lawful quantum fits-room book began at tier found still.
    let start = c.args.start in
    let room = c.args.room.slots in
    let is = stands-at-place config items c.args.tiers.now start c.args.self.now book began at tier in
    let same : is.flow ≡ f = let e : Some is.flow ≡ Some f = sym is.at ∙ found in cc in
    let bounds = bounds_of config lawful in
    let none : IsEligible config start room (live is.flow) → ⊥ = λ may.
    let fits = wanted-fits config start room (live is.flow) lawful may in
    elim c.then-wanted-eq0.either [
      | inl idle ↦ absurd (omega (
        arith,
        may.waits,
        idle,
        is.wants,
        c.min-wanted.ensures,
        quantum,
        bounds.quantum_least,
      ))
      | inr long ↦ absurd (omega (
        arith,
        fits,
        long.1,
        is.wants,
        c.min-wanted.ensures,
        quantum,
        fits-room,
        bounds.cap_least,
      ))
    ] in
    ((λ no'. absurd (cc)), (λ may. absurd (none (rw same may))))
