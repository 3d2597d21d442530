-- Each pair that is two digits spells one byte more.
use Rattle.std.proofs.Common.{◌*◌, ◌+◌, ◌%◌, ◌<◌, Some, slice_index, sym, ap, ◌∙◌, subst, arith}
use Rattle.std.proofs.lemmas.Bool.{and_parts}
use Rattle.hex.proofs.Pairs.{decode_step, decode_done}
use Rattle.hex.proofs.HexLemmas.{decode_of-even}
use Rattle.byte_tokens.proofs.Digits.{pair_read}
use Rattle.byte_tokens.proofs.hexadecimal.put_pairs.Goals as goal

pub pairs-preserved : goal.pairs-preserved
pairs-preserved c all =
    let s = c.args.digits.now in
    let l = c.pairs in
    let both = and_parts _ _ all in
    let before = and_parts _ _ both.0 in
    let high = c.is_digit.ensures before.1 in
    let low = c.is_digit-in-pairs.ensures both.1 in
    let i = l.i in
    let x = c.value.result in
    let y = c.value-in-pairs.result in
    let is_x = c.value.ensures in
    let is_y = c.value-in-pairs.ensures in
    decode_step s l.out i ((x * 16 % 256 + y) % 256) (omega (arith, c.requires)) (omega arith)
    (pair_read (slice_index s (2 * i)) (slice_index s (2 * i + 1)) x y (2 * i) (high.0 ∙ ap Some (sym is_x))
    (low.0 ∙ ap Some (sym is_y)) (subst (λ v. v < 16) (sym is_x) high.1) (subst (λ v. v < 16) (sym is_y) low.1))
    (l.invariant before.0)

pub returns : goal.returns
returns c all =
    let l = c.pairs in
    decode_of-even c.args.digits.now (omega (arith, c.requires))
    ∙ decode_done c.args.digits.now l.out l.i (omega arith) (omega (arith, c.requires)) (l.invariant all)
