-- The latest of the members that say something, with one member more.
use Rattle.std.proofs.Common.{◌≡◌, ◌-◌, List, [], ◌∷◌, ◌++◌, take, length, Option, None, Some, refl, ap, ◌∙◌, arith}
use Rattle.std.specs.Option.{option_or, option_map, option_map_or}
use Rattle.std.proofs.lemmas.List.{length_push, take-append-le, take_all}
use Rattle.sched_history.specs.Latest.{Found, up_to, latest}

-- what was found, with one member more after it
abbrev pub with_after : {X Y : Type 0} → X → Found X Y → Found X Y
with_after x found = record found { after = found.after ++ x ∷ [] }

-- a member more that says something is the latest
pub latest-says : {X Y : Type 0} (f : X → Option Y) (xs : List X) (x : X) (y : Y) → f x ≡ Some y
    → latest f (xs ++ x ∷ []) ≡ Some (record { said = y; after = [] })
latest-says f [] x y says = rw says refl
latest-says f (z ∷ xs) x y says = rw (latest-says f xs x y says) refl

either_after : {X Y : Type 0} (found here : Option (Found X Y)) (x : X)
    → option_or (option_map (with_after x) found) (option_map (with_after x) here)
    ≡ option_map (with_after x) (option_or found here)
either_after None here x = refl
either_after (Some found) here x = refl

here_after : {X Y : Type 0} (said : Option Y) (xs : List X) (x : X)
    → option_map (λ y. record { said = y; after = xs ++ x ∷ [] }) said
    ≡ option_map (with_after x) (option_map (λ y. record { said = y; after = xs }) said)
here_after None xs x = refl
here_after (Some y) xs x = refl

-- a member more that says nothing comes after the latest
pub latest-silent : {X Y : Type 0} (f : X → Option Y) (xs : List X) (x : X) → f x ≡ None
    → latest f (xs ++ x ∷ []) ≡ option_map (with_after x) (latest f xs)
latest-silent f [] x silent = rw silent refl
latest-silent f (z ∷ xs) x silent =
    rw (latest-silent f xs x silent, here_after (f z) xs x)
    (either_after (latest f xs) (option_map (λ y. record { said = y; after = xs }) (f z)) x)

-- what the latest that says something says, or the first where none does
abbrev pub said_or : {X Y : Type 0} → (X → Option Y) → Y → List X → Y
said_or f first xs = option_map_or (λ found. found.said) (latest f xs) first

-- a value, or another where there is none
abbrev pub or_else : {Y : Type 0} → Option Y → Y → Y
or_else o y = option_map_or (λ x. x) o y

said-after : {X Y : Type 0} (o : Option (Found X Y)) (x : X) (first : Y)
    → option_map_or (λ found. found.said) (option_map (with_after x) o) first
    ≡ option_map_or (λ found. found.said) o first
said-after None x first = refl
said-after (Some found) x first = refl

said-by : {X Y : Type 0} (f : X → Option Y) (first : Y) (xs : List X) (x : X) (o : Option Y) → f x ≡ o
    → said_or f first (xs ++ x ∷ []) ≡ or_else o (said_or f first xs)
said-by f first xs x None says = rw (latest-silent f xs x says) (said-after (latest f xs) x first)
said-by f first xs x (Some y) says = rw (latest-says f xs x y says) refl

-- what one member more says comes last
pub said-push : {X Y : Type 0} (f : X → Option Y) (first : Y) (xs : List X) (x : X)
    → said_or f first (xs ++ x ∷ []) ≡ or_else (f x) (said_or f first xs)
said-push f first xs x = said-by f first xs x (f x) refl

said-either : {X Y : Type 0} (later : Option (Found X Y)) (here : Option Y) (xs : List X) (first : Y)
    → option_map_or (λ found. found.said) (option_or later (option_map (λ y. record { said = y; after = xs }) here)) first
    ≡ option_map_or (λ found. found.said) later (or_else here first)
said-either None None xs first = refl
said-either None (Some y) xs first = refl
said-either (Some found) None xs first = refl
said-either (Some found) (Some y) xs first = refl

-- what the first member says is what the others begin with
pub said-cons : {X Y : Type 0} (f : X → Option Y) (first : Y) (x : X) (xs : List X)
    → said_or f first (x ∷ xs) ≡ said_or f (or_else (f x) first) xs
said-cons f first x xs = said-either (latest f xs) (f x) xs first

-- the members before those at the end are the same where one more stands at the end
pub up_to-push : {X : Type 0} (xs ys : List X) (x : X) → up_to (xs ++ x ∷ []) (ys ++ x ∷ []) ≡ up_to xs ys
up_to-push xs ys x =
    let n : length (xs ++ x ∷ []) - length (ys ++ x ∷ []) ≡ length xs - length ys =
    omega (arith, length_push xs x, length_push ys x) in
    ap (λ m. take m (xs ++ x ∷ [])) n ∙ take-append-le (length xs - length ys) xs (x ∷ []) (omega arith)

-- before none at the end stand all
pub up_to-none : {X : Type 0} (xs : List X) → up_to xs [] ≡ xs
up_to-none xs = take_all (length xs - 0) xs (omega arith)
