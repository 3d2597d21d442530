-- A thousand to the tenth power fits.
use Rattle.std.proofs.Common.{◌^◌, ◌≤◌, lit<, arith}
use Rattle.std.proofs.Math.Nat.{pow-le-pow_right, one-le-pow}
use Rattle.report_writing.proofs.text.thousand_to.Goals as goal

pub pow-requires : goal.pow-requires
pow-requires c =
    let most : 1000 ^ c.args.power ≤ 1000 ^ 10 = pow-le-pow_right (lit< tt) c.requires in
    omega (arith, most)

pub returns-clause-some : goal.returns-clause-some
returns-clause-some c = omega (arith, one-le-pow c.args.power 1000 (lit< tt), c.pow.ensures)
