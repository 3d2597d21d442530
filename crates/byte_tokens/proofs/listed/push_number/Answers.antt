-- The number stands first, and behind it what ends a value.
use Rattle.std.proofs.Common.{◌≡◌, ◌∷◌, ◌++◌, [], drop, decimal, sym, ap, ◌∙◌, arith}
use Rattle.json.specs.Token.{number}
use Rattle.byte_tokens.proofs.Taken.{number_left}
use Rattle.byte_tokens.proofs.listed.push_number.Goals as goal

pub returns : goal.returns
returns c =
    let text = c.args.text.now in
    let n = c.in_ok-number.number in
    let end = c.in_ok-number.at in
    let found = c.in_ok-number.ensures in
    let r = c.in_ok-behind in
    let fits : c.in-Ok.fits ≡ n = grind arith in (
      n,
      omega (arith, found.1, r.ensures.within.0),
      r.ensures.within.1,
      c.in-Ok-push.ensures.items ∙ ap (λ k. c.args.numbers.now.items ++ k ∷ []) fits,
      λ b may. number_left b may (drop c.args.from text) (drop end text) n found.2 found.3 r.ensures.ends
          ∙ ap (λ ts. number (decimal n) ∷ ts) (sym r.ensures.same),
    )
