-- One byte more of white space.
use Rattle.std.proofs.Common.{◌+◌, drop, get_or, ◌∙◌, arith}
use Rattle.byte_tokens.proofs.Bytes.{next_byte}
use Rattle.byte_tokens.proofs.Taken.{space_passed}
use Rattle.byte_tokens.proofs.between.behind_spaces.Goals as goal

pub spaces-preserved : goal.spaces-preserved
spaces-preserved c =
    let l = c.spaces in
    let text = c.args.text.now in
    let so_far = l.invariant in (
      omega (arith, so_far.0),
      omega arith,
      space_passed (drop l.at text) (drop (l.at + 1) text) (get_or text l.at 0)
          (c.is_space.ensures c.if-is_space.true) (next_byte text l.at (omega arith))
          ∙ so_far.2,
    )
