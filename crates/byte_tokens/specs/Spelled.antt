-- What stands in quotes as it is.
use Rattle.std.specs.Prelude.{◌≡◌, ◌-◌, ◌^◌, ◌<◌, ◌≤◌, ℕ, List, [], ◌∷◌, ◌++◌, length, drop, decimal}

-- a text in its quotes
abbrev pub spelled_text : List ℕ → List ℕ
spelled_text content = 34 ∷ (content ++ (34 ∷ []))

-- a key in its quotes, with its colon
abbrev pub spelled_key : List ℕ → List ℕ
spelled_key name = 34 ∷ (name ++ (34 ∷ 58 ∷ []))

-- a key, the text under it and the key behind that, with a comma between them and nothing else
abbrev pub spelled_run : List ℕ → List ℕ → List ℕ → List ℕ
spelled_run name content next = spelled_key name ++ (spelled_text content ++ 44 ∷ spelled_key next)

-- the digits between two places, where they are few, are those of the number
abbrev pub Spells : List ℕ → ℕ → ℕ → ℕ → Type 0
Spells text from at n = (from < at) × (at ≤ length text)
    × (at - from ≤ 19 → (0 < n) × (n < 10 ^ (at - from)) × (drop from text ≡ decimal n ++ drop at text))
