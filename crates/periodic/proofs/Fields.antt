-- The fields of placed flows, one after another.
use Rattle.std.proofs.Common.{◌≡◌, ◌∙◌, ap, sym, ℕ, ◌+◌, ◌<◌, ◌≤◌, List, [], ◌∷◌, ◌++◌, length, get_or, take, drop}
use Rattle.std.proofs.Common.{map, set, ◌-◌, append_assoc, arith}
use Rattle.std.proofs.lemmas.List.{length-map, map-append, take_more}
use Rattle.std.proofs.lemmas.List.{take_more_set, drop-drop}
use Rattle.std.proofs.Math.Nat.{mod-eq_of_lt}
use Rattle.minislots.specs.declared.config.Config.{Config}
use Rattle.periodic.specs.Placement.{Placed, starts_in, spot_at, spots_of, due_starts, due_at, due_of}

-- one spot more is written behind those before it
pub put-more : {X : Type 0} (h : ℕ → X) (starts : List ℕ) (i : ℕ) (front spots : List X) (next : ℕ) (s : X)
    → i < length starts → next < length spots → take next spots ≡ front ++ map h (take i starts)
    → s ≡ h (get_or starts i 0) → take (next + 1) (set spots next s) ≡ front ++ map h (take (i + 1) starts)
put-more h starts i front spots next s lt room before is =
    let one : map h (take (i + 1) starts) ≡ map h (take i starts) ++ s ∷ [] =
    ap (map h) (take_more starts i 0 lt) ∙ map-append h (take i starts) (get_or starts i 0 ∷ [])
    ∙ ap (λ x. map h (take i starts) ++ x ∷ []) (sym is) in
    take_more_set spots next s room ∙ ap (λ xs. xs ++ s ∷ []) before
    ∙ append_assoc front (map h (take i starts)) (s ∷ []) ∙ ap (λ xs. front ++ xs) (sym one)

-- what is the same from a place on is the same from later ones on
pub drop-later : {X : Type 0} (xs ys : List X) (n m : ℕ) → n ≤ m → drop n xs ≡ drop n ys → drop m xs ≡ drop m ys
drop-later xs ys n m le same =
    let later : n + (m - n) ≡ m = omega arith in
    ap (λ k. drop k xs) (sym later) ∙ sym (drop-drop (m - n) n xs) ∙ ap (drop (m - n)) same ∙ drop-drop (m - n) n ys
    ∙ ap (λ k. drop k ys) later

-- what a flow takes of a frame of the cycle is one spot for each start there
pub spots-here : (c : Config) (place : ℕ) (f : Placed) → place < c.cycle
    → spots_of c place f ≡ map (spot_at c f) (starts_in c f.spec f.placement place)
spots-here c place f within =
    ap (λ n. map (spot_at c f) (starts_in c f.spec f.placement n)) (mod-eq_of_lt within)

-- as many as starts
pub count-here : (c : Config) (place : ℕ) (f : Placed) → place < c.cycle
    → length (spots_of c place f) ≡ length (starts_in c f.spec f.placement place)
count-here c place f within =
    ap length (spots-here c place f within) ∙ length-map (starts_in c f.spec f.placement place) (spot_at c f)

-- what a flow is to have of a frame of the cycle is one spot for each start that is due there
pub due-here : (c : Config) (place : ℕ) (f : Placed) → place < c.cycle
    → due_of c place f ≡ map (due_at c f) (due_starts c f place)
due-here c place f within = ap (λ n. map (due_at c f) (due_starts c f n)) (mod-eq_of_lt within)

-- as many as these
pub count-due : (c : Config) (place : ℕ) (f : Placed) → place < c.cycle
    → length (due_of c place f) ≡ length (due_starts c f place)
count-due c place f within =
    ap length (due-here c place f within) ∙ length-map (due_starts c f place) (due_at c f)
