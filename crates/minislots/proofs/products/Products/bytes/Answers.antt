-- The inverse is exact for the room of so many minislots.
use Rattle.std.proofs.Common.{arith}
use Rattle.minislots.proofs.ProductLaws.{held-fits, bytes-few, bytes-are}
use Rattle.minislots.proofs.products.Products.bytes.Goals as goal

pub overflow_sub-room : goal.overflow_sub-room
overflow_sub-room c =
    rw (c.from-2.ensures, c.from-3.ensures, c.from.ensures, c.saturating_sub-room.ensures, c.requires.numbers)
    (held-fits c.args.profile.now c.requires.sound c.args.symbols c.requires.positive c.requires.few c.args.slots
    c.requires.most)

pub overflow_mul-full-3 : goal.overflow_mul-full-3
overflow_mul-full-3 c =
    let few = bytes-few c.args.profile.now c.requires.sound c.args.symbols c.requires.positive c.requires.few
    c.args.slots c.requires.most in
    rw (c.from-2.ensures, c.from-3.ensures, c.from.ensures, c.saturating_sub-room.ensures, c.requires.numbers)
    (omega (arith, few))

pub overflow_add-full : goal.overflow_add-full
overflow_add-full c =
    let few = bytes-few c.args.profile.now c.requires.sound c.args.symbols c.requires.positive c.requires.few
    c.args.slots c.requires.most in
    rw (
      c.last_information-last.ensures,
      c.from-2.ensures,
      c.from-3.ensures,
      c.from.ensures,
      c.saturating_sub-room.ensures,
      c.requires.numbers,
    ) (omega (arith, few))

pub returns : goal.returns
returns c = record {
  value = rw (
    c.from-4.ensures,
    c.last_information-last.ensures,
    c.from-2.ensures,
    c.from-3.ensures,
    c.from.ensures,
    c.saturating_sub-room.ensures,
    c.requires.numbers,
  )
      (bytes-are c.args.profile.now c.requires.sound c.args.symbols c.requires.positive c.requires.few c.args.slots
      c.requires.most);
}
