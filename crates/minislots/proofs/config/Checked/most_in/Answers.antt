-- Where a grant of the grant cap fits, the minislots carry no fewer bytes.
use Rattle.std.proofs.Common.{◌≡◌, ◌≤◌, ap, ◌∙◌, arith}
use Rattle.minislots.specs.Units.{slots_for}
use Rattle.minislots.proofs.Bounds.{bounds_of}
use Rattle.minislots.proofs.UnitLaws.{cap-is-most}
use Rattle.minislots.proofs.config.Checked.most_in.Goals as goal

pub returns-then-sizes-from : goal.returns-then-sizes-from
returns-then-sizes-from c =
    let it = c.args.self.now in
    let cap : c.sizes.result.now.cap_slots ≡ slots_for it it.grant_cap =
    ap (λ sizes. sizes.cap_slots) c.sizes.ensures.value in
    let fits : slots_for it it.grant_cap ≤ c.args.slots = omega (arith, cap, c.if-sizes-from.true, c.from.ensures) in
    c.from-cap.ensures ∙ c.grant_cap.ensures.value
    ∙ cap-is-most it (bounds_of it c.grant_cap.ensures.lawful).bursts c.args.slots fits
