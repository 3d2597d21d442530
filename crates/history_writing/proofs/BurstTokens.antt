-- The tokens of what stands behind other members, or does not.
use Rattle.std.proofs.Common.{◌≡◌, [], ◌∷◌, ◌++◌, inl, inr, refl}
use Rattle.std.proofs.lemmas.Bool.{cases_Bool}
use Rattle.json.specs.Token.{Token}
use Rattle.json.specs.Tree.{members_tokens}
use Rattle.serde_json.specs.Written.{members_outline}
use Rattle.minislots.specs.declared.bursts.Descriptors.{Descriptors}
use Rattle.history_writing.specs.HistoryText.{is_same_profile, unsolicited_member}
use Rattle.history_writing.specs.Tokens.{unsolicited_tokens}

-- the descriptor of unsolicited grants, where it stands, and the closing brace
pub unsolicited-tokens : (d : Descriptors)
    → members_tokens (members_outline (unsolicited_member d)) ≡ unsolicited_tokens d ++ Token.end_object ∷ []
unfolding unsolicited_member
unsolicited-tokens d = elim (cases_Bool (is_same_profile d.unsolicited d.long)) [
  | inl same ↦ rw same refl
  | inr other ↦ rw other refl
]
