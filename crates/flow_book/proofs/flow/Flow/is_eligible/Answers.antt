-- What it wants at least is the quantum, or what is outstanding where that is less.
use Rattle.std.proofs.Common.{◌≡◌, ◌<◌, ◌≤◌, sym, ◌∙◌, ap, arith}
use Rattle.minislots.specs.Units.{slots_for}
use Rattle.minislots.proofs.Bounds.{bounds_of}
use Rattle.minislots.proofs.UnitLaws.{fits_bytes, fits_slots}
use Rattle.flow_book.specs.Limits.{most_in, most_with}
use Rattle.flow_book.specs.Reserved.{wanted_of}
use Rattle.flow_book.specs.Entry.{live}
use Rattle.flow_book.proofs.Amounts.{eligible-is, limits-within, wanted-whole}
use Rattle.flow_book.proofs.Charges.{begun-by}
use Rattle.flow_book.proofs.flow.Flow.is_eligible.Goals as goal
use Rattle.flow_book.proofs.flow.Flow.is_eligible.Goals.{then-wanted-eq0-via-then-wanted-eq0}
use Rattle.flow_book.proofs.flow.Flow.is_eligible.Goals.{then-wanted-eq0-via-else-wanted-eq0+then-from-bytes_in}

pub returns-then-wanted-eq0 : goal.returns-then-wanted-eq0
returns-then-wanted-eq0 c =
    let f = live c.args.self.now in
    let channel = c.args.config.now in
    let bounds = bounds_of _ c.wanted-wanted.ensures.lawful in
    let value = c.wanted-wanted.ensures.value in (
      (λ no'. absurd cc),
      (λ may.
          let fits = fits_bytes channel bounds.bursts (wanted_of channel f) c.args.room may.takes.fits in
          let waits = may.waits in
          elim c.then-wanted-eq0.branch [
            | then-wanted-eq0-via-then-wanted-eq0 w ↦ absurd (omega (arith, bounds.quantum_least, value))
            | then-wanted-eq0-via-else-wanted-eq0+then-from-bytes_in w ↦ absurd (omega (arith, value))
          ]),
    )

pub has-requires : goal.has-requires
has-requires c =
    begun-by c.args.config.now (live c.args.self.now) c.args.self.now.limits c.args.start c.requires.sums.limits
    c.requires.sums.charges c.requires.started

pub returns : goal.returns
returns c =
    let f = live c.args.self.now in
    let channel = c.args.config.now in
    let limits = c.args.self.now.limits in
    let wanted = c.wanted-wanted.result in
    let value : wanted ≡ wanted_of channel f = c.wanted-wanted.ensures.value in
    let some : 0 < wanted = omega arith in
    let carries = (bounds_of _ c.wanted-wanted.ensures.lawful).bursts in
    let fits : slots_for channel wanted ≤ c.args.room =
    fits_slots channel carries wanted c.args.room some (omega arith) in
    let most = most_in limits c.args.start wanted in
    rw c.has.ensures (eligible-is channel f c.args.start c.args.room wanted most
    (sym c.if-not-takes_requests.ensures) value some fits
    (limits-within channel f limits c.args.start c.args.room wanted most c.requires.sums.limits c.requires.sums.charges
    c.requires.started (sym (ap (λ n. most_with limits c.args.start n wanted) (sym value)
    ∙ wanted-whole limits c.args.start wanted))))
