-- Beginnings of one list.
use Rattle.std.proofs.Common.{◌≡◌, ◌+◌, ◌≤◌, List, [], ◌∷◌, ◌++◌, length, refl, ap, sym, ◌∙◌, arith, length-append}
use Rattle.std.proofs.Common.{append_assoc}
use Rattle.std.proofs.lemmas.List.{append-nil}
use mathlib.Core.List.{IsPrefix}

-- each list begins with itself
pub prefix_self : {A : Type 0} (xs : List A) → IsPrefix xs xs
prefix_self xs = ([], append-nil xs)

-- a beginning is no longer than the list
pub prefix_length : {A : Type 0} (xs ys : List A) → IsPrefix xs ys → length xs ≤ length ys
prefix_length xs ys p = omega (arith, sym (ap length p.1) ∙ length-append xs p.0)

-- of two beginnings of one list the shorter begins the longer
pub prefix_shorter : {A : Type 0} (xs ys zs : List A) → IsPrefix xs zs → IsPrefix ys zs → length xs ≤ length ys
    → IsPrefix xs ys
prefix_shorter [] ys zs p q le = (ys, refl)
prefix_shorter (x ∷ xs) [] zs p q le = absurd (omega arith)
prefix_shorter (x ∷ xs) (y ∷ ys) [] p q le = absurd (cc (p.1))
prefix_shorter (x ∷ xs) (y ∷ ys) (z ∷ zs) p q le =
    let heads : x ≡ y = cc (p.1, q.1) in
    let rest = prefix_shorter xs ys zs (p.0, cc (p.1)) (q.0, cc (q.1)) (omega arith) in
    (rest.0, cc (heads, rest.1))

-- two beginnings of one list that are equally long are the same
pub prefix_same : {A : Type 0} (xs ys zs : List A) → IsPrefix xs zs → IsPrefix ys zs → length xs ≡ length ys → xs ≡ ys
prefix_same [] [] zs p q eq = refl
prefix_same [] (y ∷ ys) zs p q eq = absurd (omega (arith, eq))
prefix_same (x ∷ xs) [] zs p q eq = absurd (omega (arith, eq))
prefix_same (x ∷ xs) (y ∷ ys) [] p q eq = absurd (cc (p.1))
prefix_same (x ∷ xs) (y ∷ ys) (z ∷ zs) p q eq =
    let heads : x ≡ y = cc (p.1, q.1) in
    let rest = prefix_same xs ys zs (p.0, cc (p.1)) (q.0, cc (q.1)) (omega (arith, eq)) in
    cc (heads, rest)

-- where two beginnings of one list are longer by one, the longer is the shorter with its last member behind
pub prefix_grown : {A : Type 0} (xs front zs : List A) (y : A) → IsPrefix xs zs → IsPrefix (front ++ y ∷ []) zs
    → length (front ++ y ∷ []) ≡ length xs + 1
    → front ++ y ∷ [] ≡ xs ++ y ∷ []
prefix_grown xs front zs y p q eq =
    let long : length (front ++ y ∷ []) ≡ length front + 1 = length-append front (y ∷ []) in
    let shorter : IsPrefix front zs = (y ∷ q.0, sym (append_assoc front (y ∷ []) q.0) ∙ q.1) in
    ap (λ l. l ++ y ∷ []) (prefix_same front xs zs shorter p (omega (arith, eq, long)))
