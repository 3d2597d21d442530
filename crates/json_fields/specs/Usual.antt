-- What the reader of a usual document finds in the tokens of a text.
use Rattle.std.specs.Prelude.{List, Option, option_and_then}
use Rattle.json.specs.Token.{Token}
use Rattle.json.specs.Json.{value, if_last}
use Rattle.serde_json.specs.Data.{Data}
use Rattle.serde_json.specs.Read.{of_json, max_depth}

-- the value that a whole list of tokens is
abbrev pub read_tokens : List Token → Option Data
read_tokens ts = option_and_then of_json (option_and_then (λ p. if_last p.0 p.1) (value max_depth ts))
