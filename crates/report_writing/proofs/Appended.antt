-- One text behind another.
use Rattle.std.proofs.Common.{◌≡◌, ℕ, ◌+◌, List, ◌++◌, flat_map, Result, Ok, Err, OnOk, ap, sym, ◌∙◌, append_assoc}
use Rattle.std.specs.List.{range_with_len}
use Rattle.map_drawing.proofs.Ranges.{flat_map_next}

-- one text more, and what follows it where there was memory
pub then_ok : {E : Type 0} (r : Result (Unit {0}) E) (a b c x y : List ℕ)
    → b ≡ a ++ x → OnOk r (c ≡ b ++ y) → OnOk r (c ≡ a ++ (x ++ y))
then_ok (Ok v) a b c x y first next = next ∙ ap (λ (t : List ℕ). t ++ y) first ∙ append_assoc a x y
then_ok (Err e) a b c x y first next = tt

-- what the numbers below n make, and then what n makes
pub one_more : (f : ℕ → List ℕ) (n : ℕ) (a b c : List ℕ)
    → b ≡ a ++ flat_map f (range_with_len 0 n) → c ≡ b ++ f n → c ≡ a ++ flat_map f (range_with_len 0 (n + 1))
one_more f n a b c before last =
    last ∙ ap (λ (t : List ℕ). t ++ f n) before ∙ append_assoc a (flat_map f (range_with_len 0 n)) (f n)
    ∙ ap (λ (t : List ℕ). a ++ t) (sym (flat_map_next f n))
