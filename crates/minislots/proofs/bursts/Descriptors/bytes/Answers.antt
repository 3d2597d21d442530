-- The last of those numbers of bytes is the most that the longest short grant carries.
use Rattle.std.proofs.Common.{◌≡◌, arith, ◌-◌}
use Rattle.minislots.specs.declared.bursts.Bursts.TheVariants.{Described}
use Rattle.minislots.specs.Bursts.{short_sizes, short_bytes}
use Rattle.minislots.proofs.BurstLaws.{by_sizes-last}
use Rattle.minislots.proofs.bursts.Descriptors.bytes.Goals as goal

pub returns : goal.returns
returns c =
    let d = c.args.self.now in
    let last : short_sizes (Described d) c.args.most - 1 ≡ short_bytes (Described d) c.args.most =
    by_sizes-last (Described d) c.requires.sound c.args.most in
    grind (arith, last, c.requires.sizes, c.saturating_sub.ensures, c.max-2.ensures, c.bytes-long.ensures.value)
