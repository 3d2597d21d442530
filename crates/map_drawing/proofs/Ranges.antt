-- Numbers in order, and what is made of each.
use Rattle.std.proofs.Common.{◌≡◌, ℕ, zero, suc, ◌+◌, List, [], ◌∷◌, ◌++◌, flat_map, map, if◌then◌else◌, Result, Ok}
use Rattle.std.proofs.Common.{Err}
use Rattle.std.proofs.Common.{refl, sym, ap, ◌∙◌, append-nil, append_assoc, arith}
use Rattle.std.specs.Prelude.{OnOk, is_ok}
use Rattle.std.specs.List.{range_with_len}
use Rattle.std.proofs.lemmas.Grind.{flat_map-append}
use Rattle.std.proofs.lemmas.List.FromFn.{map-range_with_len_more}

-- one number more at the end
pub range_with_len-next : (a n : ℕ) → range_with_len a (n + 1) ≡ range_with_len a n ++ (a + n) ∷ []
range_with_len-next a zero = ap (λ (k : ℕ). k ∷ []) (omega arith)
range_with_len-next a (suc n) =
    let count : suc n + 1 ≡ suc (n + 1) = omega arith in
    let last : a + 1 + n ≡ a + suc n = omega arith in
    rw count (ap (λ (ks : List ℕ). a ∷ ks)
    (range_with_len-next (a + 1) n ∙ ap (λ (k : ℕ). range_with_len (a + 1) n ++ k ∷ []) last))

-- what the numbers below n + 1 make is what those below n make, and then what n makes
pub flat_map_next : (f : ℕ → List ℕ) (n : ℕ)
    → flat_map f (range_with_len 0 (n + 1)) ≡ flat_map f (range_with_len 0 n) ++ f n
flat_map_next f n =
    let last : 0 + n ≡ n = omega arith in
    rw (range_with_len-next, flat_map-append, last, append-nil)

-- a text that what was appended to it grew by, where there was memory
pub appended : {E : Type 0} (r : Result (Unit {0}) E) (old new piece wanted : List ℕ)
    → new ≡ (if is_ok r then old ++ piece else old) → piece ≡ wanted → OnOk r (new ≡ old ++ wanted)
appended (Ok x) old new piece wanted is same = is ∙ ap (λ (p : List ℕ). old ++ p) same
appended (Err e) old new piece wanted is same = tt

-- a text that has what the numbers below n make, and then has what n makes
pub flat_map_step : (f : ℕ → List ℕ) (n : ℕ) (start mid new : List ℕ)
    → mid ≡ start ++ flat_map f (range_with_len 0 n) → new ≡ mid ++ f n
    → new ≡ start ++ flat_map f (range_with_len 0 (n + 1))
flat_map_step f n start mid new before last =
    last ∙ ap (λ (t : List ℕ). t ++ f n) before ∙ append_assoc start (flat_map f (range_with_len 0 n)) (f n)
    ∙ ap (λ (t : List ℕ). start ++ t) (sym (flat_map_next f n))

-- a text that has the characters of n minislots, and then has that of the next one
pub map_step : (f : ℕ → ℕ) (from n : ℕ) (start mid new : List ℕ)
    → mid ≡ start ++ map f (range_with_len from n) → new ≡ mid ++ f (from + n) ∷ []
    → new ≡ start ++ map f (range_with_len from (n + 1))
map_step f from n start mid new before last =
    last ∙ ap (λ (t : List ℕ). t ++ f (from + n) ∷ []) before
    ∙ append_assoc start (map f (range_with_len from n)) (f (from + n) ∷ [])
    ∙ ap (λ (t : List ℕ). start ++ t) (sym (map-range_with_len_more f from n (from + n) refl))

-- a text that grew by one piece and then by another grew by both
pub grown : (start mid new piece next : List ℕ) → mid ≡ start ++ piece → new ≡ mid ++ next
    → new ≡ start ++ (piece ++ next)
grown start mid new piece next first second =
    second ∙ ap (λ (t : List ℕ). t ++ next) first ∙ append_assoc start piece next

-- what follows from a fact that holds where there was memory
pub where_ok : {A E P Q : Type 0} (r : Result A E) → (P → Q) → OnOk r P → OnOk r Q
where_ok (Ok x) follows holds = follows holds
where_ok (Err e) follows holds = tt
