-- Each number of what was returned fits its type.
use Rattle.std.proofs.Common.{rules, arith}
use Rattle.minislots.specs.declared.bursts.Bursts.{Bursts}
use Rattle.minislots.specs.declared.bursts.Bursts.TheVariants.{Uniform, Described}
use Rattle.minislots.specs.declared.bursts.Profile.{Profile}
use Rattle.minislots.specs.Bursts.{IsSound, HasBursts}
use Rattle.minislots.proofs.Bounds.{bounds_of}
use Rattle.history_writing.specs.Fits.{ProfileFits, BurstsFit, ConfigFits}
use Rattle.segment_line.proofs.writing.config_of.Goals as goal

profile_fits : (p : Profile) → IsSound p → ProfileFits p
profile_fits p sound = record {
  preamble = omega (arith, sound.preamble_most);
  guard = omega (arith, sound.guard_most);
  bits = omega (arith, sound.bits_most);
  parity = omega (arith, sound.parity_most);
  information = omega (arith, sound.information_most);
  shortened = omega (arith, sound.shortened_most);
}

bursts_fit : (b : Bursts) → HasBursts b → BurstsFit b
bursts_fit (Uniform bytes_per_slot overhead) has =
    (omega (arith, has.bytes_most), omega (arith, has.overhead_most))
bursts_fit (Described d) has = (
  omega (arith, has.symbols_most),
  profile_fits d.short has.short,
  profile_fits d.long has.long,
  profile_fits d.unsolicited has.unsolicited,
)

pub returns-clause-fits : goal.returns-clause-fits
returns-clause-fits c =
    let has = (bounds_of c.args.config.now c.config.ensures.lawful).bursts in
    let bursts : BurstsFit c.config.result.bursts =
    rw c.config.ensures.value (bursts_fit c.args.config.now.bursts has) in
    let fits : ConfigFits c.config.result = search (rules, bursts) depth 40 in
    rw c.config.ensures.value at fits
