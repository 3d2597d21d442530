-- The tokens of numbers that follow one another.
use Rattle.std.specs.Prelude.{ℕ, List, [], ◌∷◌, decimal}
use Rattle.json.specs.Token.{Token, number}

-- One token for each number.
unfoldable pub number_tokens : List ℕ → List Token
number_tokens [] = []
number_tokens (n ∷ ns) = number (decimal n) ∷ number_tokens ns
