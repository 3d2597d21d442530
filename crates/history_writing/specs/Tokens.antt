-- What is written of a JSON value, token by token.
use Rattle.std.specs.Prelude.{ℕ, ◌==◌, List, [], ◌∷◌, ◌++◌, decimal, codes, if◌then◌else◌}
use Rattle.std.specs.Borrow.{Bor}
use Rattle.json.specs.Token.{Token}
use Rattle.json.specs.Tree.{json_tokens}
use Rattle.serde_json.specs.Data.{Data}
use Rattle.serde_json.specs.Written.{outline}
use Rattle.minislots.specs.declared.bursts.Descriptors.{Descriptors}
use Rattle.minislots.specs.declared.config.Config.{Config}
use Rattle.history_writing.specs.HistoryText.{is_same_profile, profile_data}

-- the tokens of a value
abbrev pub tokens_of : Data → List Token
tokens_of d = json_tokens (outline d)

-- a whole number under a title
abbrev pub numbered : List ℕ → ℕ → List Token
numbered title n = Token.key title ∷ Token.number (decimal n) ∷ []

-- the same, where it is another than the one of a missing member
abbrev pub optional_tokens : ℕ → List ℕ → ℕ → List Token
optional_tokens missing title n = if n == missing then [] else numbered title n

-- whole numbers, each under the key of its place
abbrev pub counted : List (Bor (List ℕ)) → List ℕ → List Token
counted [] ns = []
counted (k ∷ ks) [] = []
counted (k ∷ ks) (n ∷ ns) = Token.key k.now ∷ Token.number (decimal n) ∷ counted ks ns

-- a name under a title
abbrev pub titled : List ℕ → List ℕ → List Token
titled title name = Token.key title ∷ Token.string name ∷ []

-- the parts, one behind the other
abbrev pub joined : List (List Token) → List Token
joined [] = []
joined (part ∷ parts) = part ++ joined parts

-- the descriptor of unsolicited grants, where it stands
abbrev pub unsolicited_tokens : Descriptors → List Token
unsolicited_tokens d = if is_same_profile d.unsolicited d.long then []
    else Token.key (codes "unsolicited") ∷ tokens_of (profile_data d.unsolicited)

-- the fields of a configuration between its bursts and the overhead
abbrev pub front_tokens : Config → List Token
front_tokens c = joined (
    numbered (codes "calls") c.calls ∷ numbered (codes "channel") c.channel ∷ numbered (codes "cycle") c.cycle
    ∷ numbered (codes "data_end") c.data_end ∷ numbered (codes "data_start") c.data_start
    ∷ optional_tokens 64 (codes "flows") c.flows ∷ numbered (codes "frame") c.frame ∷ numbered (codes "grant_cap") c.grant_cap
    ∷ numbered (codes "lead") c.lead ∷ optional_tokens 0 (codes "open_idle") c.open_idle ∷ [])

-- the fields behind the overhead
abbrev pub back_tokens : Config → List Token
back_tokens c = joined (
    optional_tokens 64 (codes "pending") c.pending ∷ optional_tokens 40 (codes "periodic") c.periodic
    ∷ numbered (codes "phy") c.phy ∷ numbered (codes "poll_slots") c.poll_slots ∷ numbered (codes "quantum") c.quantum
    ∷ numbered (codes "ranging_end") c.ranging_end ∷ numbered (codes "ranging_start") c.ranging_start
    ∷ numbered (codes "receivers") c.receivers ∷ numbered (codes "req_slots") c.req_slots
    ∷ optional_tokens 0 (codes "settle") c.settle ∷ numbered (codes "short_max") c.short_max
    ∷ numbered (codes "start") c.start ∷ numbered (codes "ticks") c.ticks ∷ numbered (codes "ucd_count") c.ucd_count ∷ [])
