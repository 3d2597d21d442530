-- Each number in its place.
use Rattle.std.proofs.Common.{sym, refl}
use Rattle.state_text.specs.Found.{header_in}
use Rattle.state_text.proofs.found.header_in.Goals as goal

pub returns : goal.returns
unfolding header_in
returns g c =
    rw (
      sym c.in_ok-number_u8.ensures,
      sym c.in_ok-number_u8-2.ensures,
      sym c.in_ok-number_u8-3.ensures,
      sym c.in_ok-number_u8-4.ensures,
      sym c.in_ok-number_u8-5.ensures,
    ) refl
