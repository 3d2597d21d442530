-- Numbers in order, and what is made of each.
use Rattle.std.proofs.Common.{◌≡◌, ℕ, ◌+◌, List, [], ◌∷◌, ◌++◌, flat_map, map, sym, ap, ◌∙◌, append-nil}
use Rattle.std.proofs.Common.{append_assoc, arith}
use Rattle.std.specs.List.{range_with_len}
use Rattle.std.proofs.lemmas.Grind.{flat_map-append}
use Rattle.std.proofs.lemmas.List.Folds.{flat_map-map}
use Rattle.std.proofs.lemmas.List.FromFn.{map-range_with_len_more}

-- what the numbers below n + 1 make is what those below n make, and then what n makes
flat_map_next : (f : ℕ → List ℕ) (n : ℕ)
    → flat_map f (range_with_len 0 (n + 1)) ≡ flat_map f (range_with_len 0 n) ++ f n
flat_map_next f n =
    let same : ℕ → ℕ = λ k. k in
    sym (flat_map-map f same (range_with_len 0 (n + 1)))
    ∙ ap (flat_map f) (map-range_with_len_more same 0 n n (omega arith))
    ∙ flat_map-append f (map same (range_with_len 0 n)) (n ∷ [])
    ∙ ap (λ t. t ++ (f n ++ [])) (flat_map-map f same (range_with_len 0 n))
    ∙ ap (λ t. flat_map f (range_with_len 0 n) ++ t) (append-nil (f n))

-- a text that has what the numbers below n make, and then has what n makes
pub one_more : (f : ℕ → List ℕ) (n : ℕ) (start before after : List ℕ)
    → before ≡ start ++ flat_map f (range_with_len 0 n) → after ≡ before ++ f n
    → after ≡ start ++ flat_map f (range_with_len 0 (n + 1))
one_more f n start before after first last =
    last ∙ ap (λ t. t ++ f n) first ∙ append_assoc start (flat_map f (range_with_len 0 n)) (f n)
    ∙ ap (λ t. start ++ t) (sym (flat_map_next f n))

-- a text that grew by one piece, by another and by a last one grew by the three
pub grown : (start one two three a b x : List ℕ) → one ≡ start ++ a → two ≡ one ++ b → three ≡ two ++ x
    → three ≡ start ++ (a ++ b ++ x)
grown start one two three a b x first second third =
    third ∙ ap (λ t. t ++ x) (second ∙ ap (λ t. t ++ b) first ∙ append_assoc start a b) ∙ append_assoc start (a ++ b) x
