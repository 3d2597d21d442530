-- It goes by the shorter burst where it may be short, else by the long one.
use Rattle.std.proofs.Common.{◌≡◌, ◌+◌, ◌-◌, sym, arith}
use Rattle.minislots.proofs.BurstLaws.{short-where, shorter-is, long-where}
use Rattle.minislots.proofs.UnitLaws.{short-are, short_bytes-are, by_long-is, by_short-is}
use Rattle.minislots.proofs.config.Checked.described_size.Goals as goal

pub slots-long-requires-clause-numbers : goal.slots-long-requires-clause-numbers
slots-long-requires-clause-numbers c = by_long-is c.args.self.now _ _ c.sizes-sizes.ensures.value c.requires.these

pub slots-short-requires-clause-numbers : goal.slots-short-requires-clause-numbers
slots-short-requires-clause-numbers c = by_short-is c.args.self.now _ _ c.sizes-sizes.ensures.value c.requires.these

pub returns-then-from-sizes-clause-slots : goal.returns-then-from-sizes-clause-slots
returns-then-from-sizes-clause-slots c =
    let it = c.args.self.now in
    let are = short-are it _ _ c.sizes-sizes.ensures.value c.requires.these in
    let most = short_bytes-are it _ _ c.sizes-sizes.ensures.value c.requires.these in
    let one : c.args.bytes - 1 + 1 ≡ c.args.bytes = omega arith in
    let long = long-where c.args.these.now c.requires.sound _ it.short_max are c.args.bytes (omega (arith, are, most)) in
    rw (c.requires.these, long)
    (rw one at c.slots-long.ensures.value)

pub returns-then-from-sizes-clause-usage : goal.returns-then-from-sizes-clause-usage
returns-then-from-sizes-clause-usage c =
    let it = c.args.self.now in
    let are = short-are it _ _ c.sizes-sizes.ensures.value c.requires.these in
    let most = short_bytes-are it _ _ c.sizes-sizes.ensures.value c.requires.these in
    rw c.requires.these
    (sym (long-where c.args.these.now c.requires.sound _ it.short_max are c.args.bytes (omega (arith, are, most))))

pub returns-clause-slots : goal.returns-clause-slots
returns-clause-slots c =
    let it = c.args.self.now in
    let are = short-are it _ _ c.sizes-sizes.ensures.value c.requires.these in
    let most = short_bytes-are it _ _ c.sizes-sizes.ensures.value c.requires.these in
    let one : c.args.bytes - 1 + 1 ≡ c.args.bytes = omega arith in
    rw (c.requires.these, c.min.ensures, c.slots-long.ensures.value, c.slots-short.ensures.value, one)
    (shorter-is c.args.these.now c.requires.sound _ it.short_max are c.args.bytes (omega (arith, are, most)))

pub returns-clause-usage : goal.returns-clause-usage
returns-clause-usage c =
    let it = c.args.self.now in
    let are = short-are it _ _ c.sizes-sizes.ensures.value c.requires.these in
    let most = short_bytes-are it _ _ c.sizes-sizes.ensures.value c.requires.these in
    let one : c.args.bytes - 1 + 1 ≡ c.args.bytes = omega arith in
    rw (c.requires.these, c.slots-long.ensures.value, c.slots-short.ensures.value, one)
    (short-where c.args.these.now c.requires.sound _ it.short_max are c.args.bytes (omega (arith, are, most)))
