-- What is read of a script of the usual spelling.
use Rattle.std.proofs.Common.{◌≡◌, ℕ, ◌-◌, ◌<◌, List, [], ◌∷◌, length, Option, Some, None, option_and_then, refl, sym}
use Rattle.std.proofs.Common.{ap, ◌∙◌, subst, arith}
use Rattle.json.specs.Token.{Token}
use Rattle.json.specs.Json as json
use Rattle.json.specs.Json.{read_key, after_end_array, members, value}
use Rattle.json.proofs.Grammar.{value_is}
use Rattle.serde_json.specs.Data.{Data, no_members, put}
use Rattle.serde_json.specs.Read.{of_json, of_members, converted}
use Rattle.json_fields.proofs.PlainValues.{member_read, members_over, read_as}
use Rattle.json_fields.specs.Usual.{read_tokens}

abbrev IsThere : {A : Type 0} → Option A → Type 0
IsThere None = ⊥
IsThere (Some a) = Unit {0}

-- where a value is read, no bracket closes an array
pub goes_on : (depth : ℕ) (ts : List Token) (d : Data) (r : List Token)
    → converted of_json (value depth ts) ≡ Some (d, r) → after_end_array ts ≡ None
goes_on depth [] d r reads = refl
goes_on depth (Token.begin_object ∷ ts) d r reads = refl
goes_on depth (Token.end_object ∷ ts) d r reads = refl
goes_on depth (Token.begin_array ∷ ts) d r reads = refl
goes_on depth (Token.end_array ∷ ts) d r reads =
    let none : ◌≡◌ {A = Option (Data × List Token)} None (Some (d, r)) =
    sym (ap (converted of_json) (value_is depth (Token.end_array ∷ ts))) ∙ reads in
    absurd (subst IsThere (sym none) tt)
goes_on depth (Token.key s ∷ ts) d r reads = refl
goes_on depth (Token.string s ∷ ts) d r reads = refl
goes_on depth (Token.number s ∷ ts) d r reads = refl
goes_on depth (Token.boolean b ∷ ts) d r reads = refl
goes_on depth (Token.null ∷ ts) d r reads = refl
goes_on depth (Token.bad ∷ ts) d r reads = refl

-- two members, and the brace behind them
pub two_members : (ts s t u v r : List Token) (a b : List ℕ) (d e : Data)
    → read_key ts ≡ Some (Some a, s) → converted of_json (value 126 s) ≡ Some (d, t) → length t < length ts
    → read_key t ≡ Some (Some b, u) → converted of_json (value 126 u) ≡ Some (e, v) → length v < length t
    → read_key v ≡ Some (None, r)
    → converted (λ ms. of_members ms no_members) (members (value 126) (length ts) ts)
    ≡ Some (put b e (put a d no_members), r)
two_members ts s t u v r a b d e key reads less key' reads' less' end =
    member_read (value 126) (length ts) no_members ts t a s d (omega arith) key reads
    ∙ member_read (value 126) (length ts - 1) (put a d no_members) t v b u e (omega arith) key' reads'
    ∙ members_over (value 126) (length ts - 1 - 1) (put b e (put a d no_members)) v r (omega arith) end

-- one value and nothing behind it is what the tokens stand for
pub alone : (ts r : List Token) (d : Data) → converted of_json (value 127 ts) ≡ Some (d, r) → r ≡ []
    → read_tokens ts ≡ Some d
alone ts r d reads over =
    let j = read_as of_json (value 127 ts) d [] (reads ∙ ap (λ (l : List Token). Some (d, l)) over) in
    ap (λ o. option_and_then of_json (option_and_then (λ p. json.if_last p.0 p.1) o)) j.1 ∙ j.2
