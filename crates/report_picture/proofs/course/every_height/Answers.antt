-- A quotient, rounded down.
use Rattle.std.proofs.Common.{◌≡◌, ◌+◌, ◌*◌, ◌/◌, max, ap, arith}
use Rattle.std.proofs.Math.Nat.{div-mul-le_self, lt-mul-div-succ}
use Rattle.report_picture.specs.declared.axis.TheConstants.{HEIGHT}
use Rattle.report_picture.specs.Course.{length_of, height_of}
use Rattle.report_picture.proofs.course.every_height.Goals as goal

pub returns : goal.returns
returns c = λ course step slots some.
    let all = length_of course step in
    let same : max all 1 ≡ all = omega (arith, some) in
    let is : height_of course step slots ≡ HEIGHT * slots / all = ap (λ m. HEIGHT * slots / m) same in
    let least = div-mul-le_self (HEIGHT * slots) all in
    let most = lt-mul-div-succ (HEIGHT * slots) some in
    record {
      below = omega (arith, ap (λ h. h * all) is, least);
      above = omega (arith, ap (λ h. (h + 1) * all) is, most);
    }
