-- A document whose members were read.
use Rattle.std.proofs.Common.{◌≡◌, [], ◌∷◌, List, ℕ, length, Some, option_and_then, Result, Ok, Err, sym, ap, ◌∙◌}
use Rattle.std.proofs.Common.{arith}
use Rattle.std.specs.Prelude.{IfOk, IsUtf8}
use Rattle.json.specs.Token.{Token}
use Rattle.json.specs.Lex.{tokens}
use Rattle.json.specs.Json as json
use Rattle.json.specs.Json.{members, value}
use Rattle.serde_json.specs.Data.{Data, object, Members, no_members}
use Rattle.serde_json.specs.Read.{read, of_json, of_members, converted}
use Rattle.json_fields.specs.declared.plain.Stop.{Stop}
use Rattle.text_stream.specs.Input.{value_of}
use Rattle.json_fields.specs.Usual.{read_tokens}
use Rattle.text_stream.proofs.Bytes.{value_of-Ok}
use Rattle.json_fields.proofs.PlainValues.{object_read, read_as}

-- what the tokens of a text stand for, its bytes stand for
pub value_of_tokens : {X : Type 0} (stands_for : Data → X → Type 0) (bytes text : List ℕ) (reader : List Token)
    (result : Result X Stop) → text ≡ bytes → IsUtf8 bytes → reader ≡ tokens text
    → IfOk result (λ x. (d : Data) × (read_tokens reader ≡ Some d) × stands_for d x)
    → IfOk result (λ x. (d : Data) × (value_of bytes ≡ Ok d) × stands_for d x)
value_of_tokens stands_for bytes text reader (Ok x) same utf8 is found = (
  found.0,
  value_of-Ok bytes found.0 utf8 (ap read (sym same) ∙ ap read_tokens (sym is) ∙ found.1),
  found.2,
)
value_of_tokens stands_for bytes text reader (Err stop) same utf8 is found = tt

-- the tokens of a document: an object, and nothing behind it
pub document_read : (ts s : List Token) (ms : Members) → ts ≡ Token.begin_object ∷ s
    → converted (λ members. of_members members no_members) (members (value 126) (length s) s) ≡ Some (ms, [])
    → read_tokens ts ≡ Some (object ms)
document_read ts s ms is reads =
    let all = object_read 127 ts [] s ms (omega arith) is reads in
    let j = read_as of_json (value 127 ts) (object ms) [] all in
    ap (λ o. option_and_then of_json (option_and_then (λ p. json.if_last p.0 p.1) o)) j.1 ∙ j.2
