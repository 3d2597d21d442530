-- The first digit is that of the number.
use Rattle.std.proofs.Common.{◌≡◌, ◌+◌, ◌-◌, ◌^◌, ◌<◌, ◌≤◌, drop, get_or, sym, subst, arith}
use Rattle.byte_tokens.proofs.Bytes.{digit_first, next_byte}
use Rattle.byte_tokens.proofs.numbers.eight_at.Goals as goal

pub put_digit-two-requires-clause-so_far : goal.put_digit-two-requires-clause-so_far
put_digit-two-requires-clause-so_far c =
    let text = c.args.text.now in
    let from = c.args.from in
    let x = get_or text from 0 in
    let some = c.requires.some in
    let here : from + 0 ≡ from = omega arith in
    let most : x ≤ 57 = subst (λ i. get_or text i 0 ≤ 57) here (c.requires.first 0 (omega arith)).1 in
    let one : from + 1 - from ≡ 1 = omega arith in (
      omega arith,
      omega (arith, c.requires.within),
      λ few. (
        omega (arith, some),
        subst (λ i. x - 48 < 10 ^ i) (sym one) (omega (arith, most)),
        digit_first (drop from text) (drop (from + 1) text) x (omega (arith, some)) most
            (next_byte text from (omega (arith, c.requires.within))),
      ),
    )
