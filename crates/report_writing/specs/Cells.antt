-- What stands under the keys of a report's JSON.
use Rattle.std.specs.Prelude.{ℕ, List, [], ◌∷◌, codes, Option, None, Some}
use Rattle.std.specs.Borrow.{Bor}
use Rattle.json.specs.Token.{Token}
use Rattle.json.specs.Tree.{members_tokens}
use Rattle.serde_json.specs.Data.{Data, Members, null, string, object, no_members, member}
use Rattle.serde_json.specs.Written.{members_outline}
use Rattle.history_writing.specs.Json.{count}
use Rattle.report_writing.specs.declared.cell.Cell.{Cell}
use Rattle.report_writing.specs.declared.cell.Cell.TheVariants.{Count, Maybe, Given, Name, Delay}

-- how delays are spread
abbrev pub spread_data : ℕ → ℕ → ℕ → ℕ → Data
spread_data greatest least middle p99 = object (
    member (codes "greatest") (count greatest) (member (codes "least") (count least) (
    member (codes "middle") (count middle) (member (codes "p99") (count p99) no_members))))

-- and null where there are none
abbrev pub delay_data : Option ℕ → Option ℕ → Option ℕ → Option ℕ → Data
delay_data (Some greatest) (Some least) (Some middle) (Some p99) = spread_data greatest least middle p99
delay_data greatest least middle p99 = null

-- a whole number, where there is one
abbrev pub maybe_data : Option ℕ → Data
maybe_data None = null
maybe_data (Some n) = count n

-- what stands under a key
abbrev pub cell_data : Cell → Data
cell_data (Count n) = count n
cell_data (Maybe n) = maybe_data n
cell_data (Given n) = maybe_data n
cell_data (Name name) = string name.now
cell_data (Delay s) = delay_data s.greatest s.least s.middle s.p99

-- a member for a whole number, where there is one, before others
abbrev pub with_given : List ℕ → Option ℕ → Members → Members
with_given key None others = others
with_given key (Some n) others = member key (count n) others

-- a member for one of these, before others
abbrev pub with_cell : List ℕ → Cell → Members → Members
with_cell key (Given n) others = with_given key n others
with_cell key cell others = member key (cell_data cell) others

-- a member for each of these, under the key at its place
abbrev pub members_with : List (Bor (List ℕ)) → List Cell → Members
members_with [] cells = no_members
members_with (k ∷ ks) [] = no_members
members_with (k ∷ ks) (cell ∷ cells) = with_cell k.now cell (members_with ks cells)

-- the object of these members
abbrev pub object_of : List (Bor (List ℕ)) → List Cell → Data
object_of ks cells = object (members_with ks cells)

-- the tokens of members and of the brace behind them
abbrev pub tokens_to_end : Members → List Token
tokens_to_end members = members_tokens (members_outline members)
