-- Nothing is put where the text is no frame.
use Rattle.std.proofs.Common.{◌≡◌, true, false, refl, sym, ◌∙◌, inr}
use Rattle.decode_command.proofs.line.point_to_frames.Goals as goal

pub returns-else-branch : goal.returns-else-branch
returns-else-branch c =
    inr (
      (λ frame.
          let no : true ≡ false = sym (c.in_ok-is_hex_of_frame.ensures.1 frame) ∙ c.if-branch.false in cc),
      refl,
    )
