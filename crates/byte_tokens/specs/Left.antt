-- The tokens from a place of a text on, by what stands before it.
use Rattle.std.specs.Prelude.{◌≡◌, ◌⊎◌, ℕ, List, Bool, true, false}
use Rattle.json.specs.Token.{Token}
use Rattle.json.specs.Lex.{between, lex, fresh, after_value, after_comma, punctuate, begins_colon}
use Rattle.json.specs.Word.{ends_word}
use Rattle.byte_tokens.specs.declared.between.Before.{Before}
use Rattle.byte_tokens.specs.declared.between.Before.TheVariants.{Opening, Value, Comma}

-- the tokens that are left
abbrev pub tokens_from : Before → List ℕ → List Token
tokens_from Opening text = punctuate fresh (lex between text)
tokens_from Value text = punctuate after_value (lex between text)
tokens_from Comma text = punctuate after_comma (lex between text)

-- whether a value or a key may begin
abbrev pub begins_at : Before → Bool
begins_at Opening = true
begins_at Value = false
begins_at Comma = true

-- whether a bracket may close
abbrev pub closes_at : Before → Bool
closes_at Opening = true
closes_at Value = true
closes_at Comma = false

-- whether a byte ends a value: a comma, or a closing bracket
abbrev pub IsEnd : ℕ → Type 0
IsEnd c = (c ≡ 44) ⊎ ((c ≡ 125) ⊎ (c ≡ 93))

-- whether a byte is white space
abbrev pub IsSpace : ℕ → Type 0
IsSpace c = (c ≡ 32) ⊎ ((c ≡ 9) ⊎ ((c ≡ 10) ⊎ (c ≡ 13)))

-- what stands there ends a value, and makes no key of it
abbrev pub EndsValue : List ℕ → Type 0
EndsValue text = (ends_word text ≡ true) × (begins_colon (lex between text) ≡ false)
