-- A space, and the digits, of which there are at most twenty.
use Rattle.std.proofs.Common.{◌≡◌, ◌+◌, ◌-◌, ◌≤◌, ◌∷◌, length, decimal, take, drop, slice_set, refl, ◌∙◌, arith}
use Rattle.std.proofs.Common.{append-nil, take_all, length-drop, length-set}
use Rattle.std.proofs.lemmas.List.{drop-set}
use Rattle.sched_lines.specs.Line.{number_text}
use Rattle.sched_lines.proofs.Numerals.{length-decimal}
use Rattle.sched_lines.proofs.line.put_number.Goals as goal

pub write_digits-start-requires : goal.write_digits-start-requires
write_digits-start-requires g c = (omega (arith, length-decimal c.args.number c.ranges.number.fits), omega arith)

pub overflow_sub-text : goal.overflow_sub-text
overflow_sub-text g c =
    omega (arith, length-decimal c.args.number c.ranges.number.fits, c.write_digits-start.ensures.start)

pub overflow_sub-start : goal.overflow_sub-start
overflow_sub-start g c =
    omega (arith, length-decimal c.args.number c.ranges.number.fits, c.write_digits-start.ensures.start)

pub returns : goal.returns
unfolding number_text
returns g c =
    let n = c.args.number in
    let d = c.write_digits-start in
    let at = d.result - 1 in
    let text = slice_set d.new.buf at 32 in
    let some : 1 ≤ d.result = omega (arith, length-decimal n c.ranges.number.fits, d.ensures.start) in
    let whole : length d.new.buf ≡ 21 = omega arith in
    let next : at + 1 ≡ d.result = omega arith in
    let put : take (21 - at) (drop at text) ≡ 32 ∷ decimal n =
    take_all (21 - at) (drop at text) (omega (arith, length-drop at text, length-set d.new.buf at 32))
    ∙ drop-set d.new.buf at 32 (omega arith) ∙ rw (next, d.ensures.written, append-nil) refl in
    rw put at c.put.ensures
