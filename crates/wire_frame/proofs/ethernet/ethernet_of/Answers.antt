-- Each of the 2048 entries is what its shifts make of its byte, by computing.
use Rattle.std.proofs.Common.{◌≡◌, ℕ, ◌+◌, ◌*◌, ◌/◌, ◌%◌, length, refl, ap₂, ◌∙◌, arith}
use Rattle.wire_frame.specs.declared.tables.TheConstants.{ETHERNET}
use Rattle.wire_frame.specs.declared.ethernet.TheConstants.{ETHERNET_BYTES}
use Rattle.wire_frame.specs.Register.{shift, shifts}
use Rattle.wire_frame.proofs.Entries.{entry_is}
use Rattle.wire_frame.proofs.ethernet.ethernet_of.Goals as goal

-- the entry at a place: 256 bytes for each number of shifts
abbrev entry : ℕ → ℕ
entry at = shifts ETHERNET (8 * (at / 256 + 1)) (at % 256)

pub returns : goal.returns
unfolding shifts shift
returns c =
    let more = c.args.more in
    let byte = c.args.byte in
    let below = c.ranges.byte.fits in
    let at = 256 * more + byte in
    let long : length ETHERNET_BYTES ≡ 2048 = refl in
    let table : at / 256 ≡ more = omega (arith, below) in
    let place : at % 256 ≡ byte = omega (arith, below) in
    entry_is ETHERNET_BYTES entry at tt (omega (arith, long, below, c.requires))
    ∙ ap₂ (λ n b. shifts ETHERNET (8 * (n + 1)) b) table place
