-- The time of a minislot: a minislot has as many ticks as the configuration says, 128 at most.
use Rattle.std.proofs.Common.{◌*◌, ◌/◌, ◌%◌, ◌^◌, ◌∙◌, ap, arith}
use Rattle.std.proofs.Math.Nat.{mul-le-mul_left}
use Rattle.minislots.specs.declared.config.Config.{Config}
use Rattle.pcap_command.proofs.Times.{few, seconds_are, nanoseconds_are}
use Rattle.pcap_command.proofs.packet.time_of.Goals as goal

pub overflow_mul-seconds : goal.overflow_mul-seconds
overflow_mul-seconds c =
    let same = c.from-ticks.ensures ∙ ap (λ (k : Config). k.ticks) c.config.ensures.value in
    let whole = mul-le-mul_left (c.args.slot / 160000) (few c.args.config.now _ c.config.ensures.lawful same) in
    omega (arith, whole, c.ranges.slot.fits)

pub overflow_add-seconds : goal.overflow_add-seconds
overflow_add-seconds c =
    let same = c.from-ticks.ensures ∙ ap (λ (k : Config). k.ticks) c.config.ensures.value in
    let most = few c.args.config.now _ c.config.ensures.lawful same in
    let whole = mul-le-mul_left (c.args.slot / 160000) most in
    let rest = mul-le-mul_left (c.args.slot % 160000) most in
    omega (arith, whole, rest, c.ranges.slot.fits)

pub returns-clause-seconds : goal.returns-clause-seconds
returns-clause-seconds c =
    let same = c.from-ticks.ensures ∙ ap (λ (k : Config). k.ticks) c.config.ensures.value in
    ap (λ s. s % 2 ^ 32) (seconds_are c.args.slot c.from-ticks.result)
    ∙ ap (λ t. c.args.slot * t * 6250 / 10 ^ 9 % 2 ^ 32) same

pub returns-clause-nanoseconds : goal.returns-clause-nanoseconds
returns-clause-nanoseconds c =
    let same = c.from-ticks.ensures ∙ ap (λ (k : Config). k.ticks) c.config.ensures.value in
    nanoseconds_are c.args.slot c.from-ticks.result ∙ ap (λ t. c.args.slot * t * 6250 % 10 ^ 9) same
