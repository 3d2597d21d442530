-- The last of the numbers of bytes that have short grants is the most that the longest short grant carries.
use Rattle.std.proofs.Common.{◌≡◌, ◌-◌, ap, arith}
use Rattle.minislots.specs.declared.bursts.Bursts.TheVariants.{Described}
use Rattle.minislots.specs.Bursts.{short_sizes, short_bytes, capacity_of}
use Rattle.minislots.specs.Units.{bytes_in}
use Rattle.minislots.proofs.BurstLaws.{by_sizes-last}
use Rattle.minislots.proofs.UnitLaws.{short_bytes-are, by_long-is, by_short-is}
use Rattle.minislots.proofs.config.Checked.described_bytes.Goals as goal

pub bytes-long-requires-clause-numbers : goal.bytes-long-requires-clause-numbers
bytes-long-requires-clause-numbers c = by_long-is c.args.self.now _ _ c.sizes-sizes.ensures.value c.requires.these

pub bytes-requires-then-slots-short_max-clause-numbers : goal.bytes-requires-then-slots-short_max-clause-numbers
bytes-requires-then-slots-short_max-clause-numbers c =
    by_short-is c.args.self.now _ _ c.sizes-sizes.ensures.value c.requires.these

pub returns : goal.returns
returns c =
    let d = c.args.these.now in
    let it = c.args.self.now in
    let last : short_sizes (Described d) it.short_max - 1 ≡ short_bytes (Described d) it.short_max =
    by_sizes-last (Described d) c.requires.sound it.short_max in
    let are = short_bytes-are it d _ c.sizes-sizes.ensures.value c.requires.these in
    let is : bytes_in it c.args.slots ≡ capacity_of (Described d) it.short_max c.args.slots =
    ap (λ b. capacity_of b it.short_max c.args.slots) c.requires.these in
    grind (
      arith,
      last,
      are,
      is,
      c.short_max-2.ensures.value,
      c.max-2.ensures,
      c.bytes-long.ensures.value,
    )
