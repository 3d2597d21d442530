-- What a reader reads that was told of a list.
use Rattle.std.proofs.Common.{◌≡◌, ◌+◌, ℕ, List, [], length, sym, ap, ◌∙◌, arith, length-append}
use mathlib.Core.List.{IsPrefix}

-- where it reads none at the end, the list was empty
pub none_read : (told known last : List (List ℕ)) → IsPrefix told known → IsPrefix known last → last ≡ []
    → length told ≡ 0
none_read told known last learned grown none_last =
    let one : length told + length learned.0 ≡ length known = sym (length-append told learned.0) ∙ ap length
    learned.1 in
    let two : length known + length grown.0 ≡ length last = sym (length-append known grown.0) ∙ ap length grown.1 in
    let three : length last ≡ 0 = ap length none_last in
    omega (arith, one, two, three)
