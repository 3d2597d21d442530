-- Entries and replies that are read member by member from the tokens of their usual spelling. Only private clauses cite
-- it.
use Rattle.std.specs.Prelude.{◌≡◌, ℕ, ◌<◌, ◌≤◌, List, length, codes, Option, Some, None}
use Rattle.json.specs.Token.{Token}
use Rattle.json.specs.Json.{read_key, members, value}
use Rattle.serde_json.specs.Data.{Data, number, unsigned, object, Members, put}
use Rattle.serde_json.specs.Read.{of_json, of_members, converted}
use Rattle.sched_calls.specs.declared.placement.Placement.{Placement}
use Rattle.sched_calls.specs.declared.reply.Reply.{Reply}
use Rattle.json_fields.specs.Fields.{text_at}
use Rattle.history_reading.specs.Replies.{place_of, reply_of}

-- a member was read, this value under this key: the tokens that are left are fewer
pub record IsMember (depth : ℕ) (key : List ℕ) (d : Data) (old new : List Token) : Type 0 where
  pub behind_key : List Token
  pub key_is : read_key old ≡ Some (Some key, behind_key)
  pub value_is : converted of_json (value depth behind_key) ≡ Some (d, new)
  pub shorter : length new < length old

-- the members that were left were read, up to the brace that closes the object: with those found before, they are these
pub record AreMembers (depth : ℕ) (found all : Members) (old new : List Token) : Type 0 where
  pub read : (n : ℕ) → length old ≤ n
      → converted (λ js. of_members js found) (members (value depth) n old) ≡ Some (all, new)
  pub shorter : length new < length old

-- these members, and the value of a refusal where it has one
abbrev pub with_value : Option ℕ → Members → Members
with_value None found = found
with_value (Some value) found = put (codes "value") (number (unsigned value)) found

-- with the members found before, those that were left say this of a flow's place, in a reply of this kind
pub record SaysPlace (depth : ℕ) (kind : List ℕ) (found : Members) (place : Option Placement) (old new : List Token)
    : Type 0 where
  pub all : Members
  pub are : AreMembers depth found all old new
  pub kind_is : text_at (codes "kind") (object all) ≡ Some kind
  pub place_is : place_of (object all) ≡ Some place

-- with the members found before, those that were left make this reply
pub record MakesReply (depth : ℕ) (found : Members) (reply : Reply) (old new : List Token) : Type 0 where
  pub all : Members
  pub are : AreMembers depth found all old new
  pub makes : reply_of (object all) ≡ Some reply
