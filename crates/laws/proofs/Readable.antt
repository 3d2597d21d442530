-- The text of a value of whole numbers that fit 64 bits, and of keys in order, is read again with a newline behind it.
use Rattle.std.proofs.Common.{◌≡◌, ◌≤◌, List, ℕ, [], ◌∷◌, ◌++◌, Some, IsUtf8, refl, sym, ap, ◌∙◌}
use Rattle.std.proofs.lemmas.Str.{IsUtf8-append}
use Rattle.json.specs.Tree.{json_tokens}
use Rattle.json.specs.Lex.{tokens}
use Rattle.json.proofs.Printed.Trees.{ArePrintable-json_tokens}
use Rattle.json.proofs.Printed.Utf8.{IsUtf8-are_ascii}
use Rattle.serde_json.specs.Data.{Data, depth}
use Rattle.serde_json.specs.Read.{read, max_depth}
use Rattle.serde_json.specs.Written.{outline, compact_text}
use Rattle.serde_json.proofs.Texts.{print-outline}
use Rattle.state_text.proofs.Readable.{IsReadable, read-tokens, has_numbers, IsUtf8-compact}
use Rattle.laws.proofs.EndedText.{tokens-ended}

-- it is read as the value
pub read-compact : (d : Data) → IsReadable d → depth d ≤ max_depth → read (compact_text d ++ 10 ∷ []) ≡ Some d
read-compact d h shallow =
    let ts = json_tokens (outline d) in
    read-tokens d h shallow (compact_text d ++ 10 ∷ [])
    (ap (λ (text : List ℕ). tokens (text ++ 10 ∷ [])) (sym (print-outline d))
    ∙ tokens-ended ts (ArePrintable-json_tokens (outline d) (has_numbers d h)))

-- and it is UTF-8
pub IsUtf8-ended : (d : Data) → IsReadable d → IsUtf8 (compact_text d ++ 10 ∷ [])
IsUtf8-ended d h = IsUtf8-append (compact_text d) (10 ∷ []) (IsUtf8-compact d h) (IsUtf8-are_ascii (10 ∷ []) refl)
