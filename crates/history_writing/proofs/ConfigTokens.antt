-- The tokens of a configuration: those of its fields, some of which stand only where they are others than missing ones.
use Rattle.std.proofs.Common.{◌≡◌, ℕ, ◌==◌, List, [], ◌∷◌, ◌++◌, codes, inl, inr, refl, ap, ◌∙◌}
use Rattle.std.proofs.lemmas.Bool.{cases_Bool}
use Rattle.json.specs.Token.{Token}
use Rattle.json.specs.Tree.{members_tokens}
use Rattle.serde_json.specs.Data.{Members, object, member}
use Rattle.serde_json.specs.Written.{members_outline}
use Rattle.minislots.specs.declared.bursts.Bursts.TheVariants.{Uniform, Described}
use Rattle.minislots.specs.declared.bursts.Descriptors.{Descriptors}
use Rattle.minislots.specs.declared.config.Config.{Config}
use Rattle.history_writing.specs.Json.{count}
use Rattle.history_writing.specs.HistoryText.{front_members, back_members, members_with}
use Rattle.history_writing.specs.HistoryText.{descriptors_data}
use Rattle.history_writing.specs.Tokens.{tokens_of, numbered, joined, front_tokens, back_tokens}

-- the tokens of members, and of the closing brace
abbrev tokens_in : Members → List Token
tokens_in ms = members_tokens (members_outline ms)

-- those of the fields before the overhead, and behind them
front : (c : Config) (behind : Members) → tokens_in (front_members c behind) ≡ front_tokens c ++ tokens_in behind
front c behind = elim (cases_Bool (c.flows == 64)) [
  | inl a ↦ elim (cases_Bool (c.open_idle == 0)) [
    | inl b ↦ rw (a, b) refl
    | inr b ↦ rw (a, b) refl
  ]
  | inr a ↦ elim (cases_Bool (c.open_idle == 0)) [
    | inl b ↦ rw (a, b) refl
    | inr b ↦ rw (a, b) refl
  ]
]

-- those of the fields behind the overhead
back : (c : Config) → tokens_in (back_members c) ≡ back_tokens c ++ Token.end_object ∷ []
back c = elim (cases_Bool (c.pending == 64)) [
  | inl a ↦ elim (cases_Bool (c.periodic == 40)) [
    | inl b ↦ elim (cases_Bool (c.settle == 0)) [
      | inl d ↦ rw (a, b, d) refl
      | inr d ↦ rw (a, b, d) refl
    ]
    | inr b ↦ elim (cases_Bool (c.settle == 0)) [
      | inl d ↦ rw (a, b, d) refl
      | inr d ↦ rw (a, b, d) refl
    ]
  ]
  | inr a ↦ elim (cases_Bool (c.periodic == 40)) [
    | inl b ↦ elim (cases_Bool (c.settle == 0)) [
      | inl d ↦ rw (a, b, d) refl
      | inr d ↦ rw (a, b, d) refl
    ]
    | inr b ↦ elim (cases_Bool (c.settle == 0)) [
      | inl d ↦ rw (a, b, d) refl
      | inr d ↦ rw (a, b, d) refl
    ]
  ]
]

-- those of a configuration in which each minislot carries the same bytes
pub uniform-tokens : (c : Config) (bytes overhead : ℕ) → tokens_of (object (members_with c (Uniform bytes overhead)))
    ≡ joined ((Token.begin_object ∷ []) ∷ numbered (codes "bytes_per_slot") bytes ∷ front_tokens c
    ∷ numbered (codes "overhead") overhead ∷ back_tokens c ∷ (Token.end_object ∷ []) ∷ [])
uniform-tokens c bytes overhead =
    ap (λ (rest : List Token). Token.begin_object ∷ (numbered (codes "bytes_per_slot") bytes ++ rest))
    (front c (member (codes "overhead") (count overhead) (back_members c))
    ∙ ap (λ (rest : List Token). front_tokens c ++ (numbered (codes "overhead") overhead ++ rest)) (back c))

-- and with burst descriptors
pub described-tokens : (c : Config) (d : Descriptors) → tokens_of (object (members_with c (Described d)))
    ≡ joined ((Token.begin_object ∷ []) ∷ (Token.key (codes "bursts") ∷ []) ∷ tokens_of (descriptors_data d)
    ∷ front_tokens c ∷ back_tokens c ∷ (Token.end_object ∷ []) ∷ [])
described-tokens c d =
    let bursts = tokens_of (descriptors_data d) in
    ap (λ (rest : List Token). Token.begin_object ∷ Token.key (codes "bursts") ∷ (bursts ++ rest))
    (front c (back_members c)
    ∙ ap (λ (rest : List Token). front_tokens c ++ rest) (back c))
