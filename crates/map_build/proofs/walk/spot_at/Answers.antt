-- No spot but the first of those that are left begins there.
use Rattle.std.proofs.Common.{◌≡◌, ◌==◌, false, sym, arith}
use Rattle.std.proofs.lemmas.Bool.Decides.{nat_tests}
use Rattle.map_build.proofs.Left.{here-first}
use Rattle.map_build.proofs.walk.spot_at.Goals as goal

pub returns-else-first-offset : goal.returns-else-first-offset
returns-else-first-offset c =
    let s = c.in_ok-first.first.now in
    let differs = c.if-first-offset.false in
    let fails : (s.offset == c.args.offset) ≡ false = grind (arith, nat_tests) in
    let here = rw (← c.in_ok-first.ensures.value) at (here-first c.requires.placed.0 c.args.spots.now c.args.offset
    c.requires.placed.1 c.requires.ahead) in
    sym (rw fails at here)
