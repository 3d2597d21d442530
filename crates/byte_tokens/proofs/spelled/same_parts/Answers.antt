-- The parts cover the word.
use Rattle.std.proofs.Common.{◌≡◌, ◌+◌, length, get_or, ap, ◌∙◌, arith}
use Rattle.byte_tokens.proofs.Bytes.{four_cover, word_there}
use Rattle.byte_tokens.proofs.spelled.same_parts.Goals as goal

pub returns-then-last-le4 : goal.returns-then-last-le4
returns-then-last-le4 c short =
    let text = c.args.text.now in
    let word = c.args.word.now in
    let at = c.args.at in
    let n = length word in
    word_there text word at c.requires.within (λ k inside. four_cover
    (λ k. get_or text (at + k) 0 ≡ get_or word k 0) n k inside c.requires.few.0 c.requires.few.1
    (λ k few. c.same_four.ensures c.if-not-same_four.false k few ∙ ap (λ i. get_or word i 0) (omega arith))
    (λ k few. ap (λ i. get_or text i 0) (omega arith)
    ∙ c.same_four-else-not-same_four.ensures c.if-not-same_four-2.false k few)
    (λ long k few. absurd (omega (arith, long, c.if-last-le4.true))))

pub returns-else-last-le4 : goal.returns-else-last-le4
returns-else-last-le4 c third =
    let text = c.args.text.now in
    let word = c.args.word.now in
    let at = c.args.at in
    let n = length word in
    word_there text word at c.requires.within (λ k inside. four_cover
    (λ k. get_or text (at + k) 0 ≡ get_or word k 0) n k inside c.requires.few.0 c.requires.few.1
    (λ k few. c.same_four.ensures c.if-not-same_four.false k few ∙ ap (λ i. get_or word i 0) (omega arith))
    (λ k few. ap (λ i. get_or text i 0) (omega arith)
    ∙ c.same_four-else-not-same_four.ensures c.if-not-same_four-2.false k few)
    (λ long k few. ap (λ i. get_or text i 0) (omega arith) ∙ c.same_four-else-last-le4.ensures third k few))
