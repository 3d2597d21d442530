-- No lane differs, so each byte is the same.
use Rattle.std.proofs.Common.{drop, get_or, sym, ap, ◌∙◌}
use Rattle.std.proofs.lemmas.Simd.{length-chunk}
use Rattle.std.proofs.lemmas.List.{get_or-take, get_or-drop}
use lib.Lanes.{chunk}
use Rattle.byte_tokens.proofs.Lanes.{blocks_same}
use Rattle.byte_tokens.proofs.blocks.same_sixteen.Goals as goal

pub returns : goal.returns
returns c none k few =
    let a = c.args.a.now in
    let b = c.args.b.now in
    let i = c.args.i in
    let j = c.args.j in
    let long_a = length-chunk i 16 a c.requires.a_fits in
    let long_b = length-chunk j 16 b c.requires.b_fits in
    let same = blocks_same (chunk i 16 a) (chunk j 16 b) long_a long_b none in
    sym (get_or-take 16 (drop i a) k 0 few ∙ get_or-drop i a k 0)
    ∙ ap (λ l. get_or l k 0) same
    ∙ get_or-take 16 (drop j b) k 0 few ∙ get_or-drop j b k 0
