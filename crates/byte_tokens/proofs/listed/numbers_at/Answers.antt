-- Each turn puts one number more, behind a comma.
use Rattle.std.proofs.Common.{[], ◌∷◌, ◌++◌, drop, sym, ap, ◌∙◌, arith}
use Rattle.byte_tokens.specs.Left.{tokens_from}
use Rattle.byte_tokens.specs.Listed.{number_tokens}
use Rattle.byte_tokens.proofs.Taken.{number_more}
use Rattle.byte_tokens.proofs.listed.numbers_at.Goals as goal

pub more-init : goal.more-init
unfolding number_tokens
more-init c =
    let text = c.args.text.now in
    let put = c.in_ok-at.ensures in
    let left = tokens_from c.in_ok-at.before (drop c.in_ok-at.at text) in (
      put.2,
      λ b may. put.4 b may ∙ number_more [] put.0 left
          ∙ ap (λ ns. number_tokens ns ++ left) (sym (put.3 ∙ ap (λ ns. ns ++ put.0 ∷ []) c.in-Ok.ensures.items)),
    )

pub more-smaller : goal.more-smaller
more-smaller c =
    let put = c.in_ok-next.ensures in
    omega (arith, put.1, put.2)

pub more-preserved : goal.more-preserved
more-preserved c =
    let l = c.more in
    let text = c.args.text.now in
    let put = c.in_ok-next.ensures in
    let left = tokens_from c.in_ok-next.behind (drop c.in_ok-next.next text) in (
      put.2,
      λ b may. l.invariant.1 b may
          ∙ ap (λ ts. number_tokens l.numbers.items ++ ts)
          (put.4 l.before (sym c.may_begin.ensures ∙ c.more-test.true))
          ∙ number_more l.numbers.items put.0 left
          ∙ ap (λ ns. number_tokens ns ++ left) (sym put.3),
    )
