-- The two blocks cover the word.
use Rattle.std.proofs.Common.{◌≡◌, ◌+◌, length, get_or, ap, ◌∙◌, arith}
use Rattle.byte_tokens.proofs.Bytes.{word_there}
use Rattle.byte_tokens.proofs.Lanes.{two_cover}
use Rattle.byte_tokens.proofs.blocks.long_word_at.Goals as goal

pub returns-then-same_sixteen : goal.returns-then-same_sixteen
returns-then-same_sixteen c second =
    let text = c.args.text.now in
    let word = c.args.word.now in
    let at = c.args.at in
    let n = length word in (
      omega arith,
      word_there text word at (omega arith) (λ k inside. two_cover
          (λ k. get_or text (at + k) 0 ≡ get_or word k 0) n k inside (omega arith) (omega arith)
          (λ k few. c.same_sixteen.ensures c.if-same_sixteen.true k few ∙ ap (λ i. get_or word i 0) (omega arith))
          (λ k few. ap (λ i. get_or text i 0) (omega arith)
          ∙ c.same_sixteen-then-same_sixteen.ensures second k few)),
    )
