-- The bytes of a file, compared piece by piece with those of a line.
use Rattle.std.proofs.Common.{◌≡◌, ◌≢◌, ℕ, ◌+◌, ◌<◌, ◌≤◌, List, [], ◌++◌, length, take, drop, Option}
use Rattle.std.proofs.Common.{None, Some, Result, Ok, Err}
use Rattle.std.specs.Prelude.{IfErr}
use Rattle.std.proofs.Common.{refl, sym, ap, ◌∙◌, append_assoc, append-nil, arith}
use Rattle.std.proofs.lemmas.List.{length-append, append_cancel_left}
use Rattle.journal_file.specs.Refusing.{IsNoFront}
use Rattle.journal_file.specs.Store.{HasLength, GivesFrom, Lacks}
use Rattle.journal_file.proofs.Finding.{none_of}

-- the bytes before a place are the first ones of a line, and these are the others of it
abbrev pub Compared : Option (List ℕ) → List ℕ → List ℕ → ℕ → Type 0
Compared None line rest at = Unit {0}
Compared (Some text) line rest at =
    (front : List ℕ) × (line ≡ front ++ rest) × (text ≡ front ++ drop at text)

-- none before the first place
pub compared_none : (known : Option (List ℕ)) (line : List ℕ) → Compared known line line 0
compared_none None line = tt
compared_none (Some text) line = ([], refl, refl)

-- one piece more
pub compared_more : (known : Option (List ℕ)) (line rest behind buf : List ℕ) (at n : ℕ) → Compared known line rest at
    → GivesFrom known at n buf → rest ≡ take n buf ++ behind → Compared known line behind (at + n)
compared_more None line rest behind buf at n so_far gives is = tt
compared_more (Some text) line rest behind buf at n so_far gives is =
    let front = so_far.0 in
    let piece = take n buf in (
      front ++ piece,
      so_far.1 ∙ ap (λ (l : List ℕ). front ++ l) is ∙ sym (append_assoc front piece behind),
      so_far.2 ∙ ap (λ (l : List ℕ). front ++ l) gives.0 ∙ sym (append_assoc front piece (drop (at + n) text)),
    )

-- all of them
pub compared_all : (known : Option (List ℕ)) (line rest buf : List ℕ) (at n : ℕ) → Compared known line rest at
    → GivesFrom known at n buf → n ≡ 0 → 0 < length buf → Lacks known line rest
compared_all None line rest buf at n so_far gives none some = tt
compared_all (Some text) line rest buf at n so_far gives none some =
    let front = so_far.0 in
    let there : at ≡ at + n = omega (arith, none) in
    let nothing : drop at text ≡ [] = ap (λ (m : ℕ). drop m text) there ∙ gives.1 none some in
    let all : text ≡ front = so_far.2 ∙ ap (λ (l : List ℕ). front ++ l) nothing ∙ append-nil front in
    so_far.1 ∙ ap (λ (l : List ℕ). l ++ rest) (sym all)

-- or other bytes
pub compared_other : (known : Option (List ℕ)) (line rest buf : List ℕ) (at n : ℕ) → Compared known line rest at
    → GivesFrom known at n buf → ((others : List ℕ) → rest ≢ take n buf ++ others) → (size : ℕ)
    → IsNoFront line size known
compared_other None line rest buf at n so_far gives other size = tt
compared_other (Some text) line rest buf at n so_far gives other size = λ long others is.
    let front = so_far.0 in
    let piece = take n buf in
    let left = drop (at + n) text in
    let parts : text ≡ front ++ (piece ++ left) = so_far.2 ∙ ap (λ (l : List ℕ). front ++ l) gives.0 in
    let same : front ++ rest ≡ front ++ (piece ++ (left ++ others)) =
    sym so_far.1 ∙ is ∙ ap (λ (l : List ℕ). l ++ others) parts ∙ append_assoc front (piece ++ left) others
    ∙ ap (λ (l : List ℕ). front ++ l) (append_assoc piece left others) in
    absurd (other (left ++ others) (append_cancel_left front rest (piece ++ (left ++ others)) same))

-- all of a text, where there are no bytes
pub lacks_all : (known : Option (List ℕ)) (size : ℕ) (text : List ℕ) → size ≡ 0 → HasLength known size
    → Lacks known text text
lacks_all None size text none long = tt
lacks_all (Some bytes) size text none long =
    ap (λ (front : List ℕ). front ++ text) (sym (none_of bytes (sym long ∙ none)))

-- as many bytes as the line has are no front of it
pub no_front_long : (known : Option (List ℕ)) (n : ℕ) (line : List ℕ) → length line ≤ n → IsNoFront line n known
no_front_long None n line long = tt
no_front_long (Some text) n line long = λ size others is.
    let sum : length line ≡ length text + length others = ap length is ∙ length-append text others in
    none_of others (omega (arith, sum, size, long))

-- what is said of each number of bytes is said of one
pub no_front_of : {T E : Type 0} (r : Result T E) (fault : E) (line : List ℕ) (known : Option (List ℕ)) (size : ℕ)
    → IfErr r (λ e. e ≡ fault → (n : ℕ) → IsNoFront line n known) → IfErr r (λ e. e ≡ fault → IsNoFront line size known)
no_front_of (Ok x) fault line known size other = tt
no_front_of (Err e) fault line known size other = λ is. other is size
