-- The answer to a line that asks for the numbers of a conversation.
use Rattle.std.specs.Prelude.{ℕ, List, ◌∷◌, ◌++◌, flat_map, codes, decimal, Option, None, Some}
use Rattle.live_command.specs.declared.numbers.Numbers.{Numbers}
use Rattle.live_command.specs.declared.standing.Standing.{Standing}

-- a number behind a comma
abbrev pub next_text : ℕ → List ℕ
next_text n = 44 ∷ decimal n

-- a number, where there is one
abbrev pub number_or_null : Option ℕ → List ℕ
number_or_null None = codes "null"
number_or_null (Some n) = decimal n

-- a member of an object, with a number
abbrev pub member_text : List ℕ → ℕ → List ℕ
member_text name n = name ++ decimal n

-- the refusals by their numbers, of which none is 0
unfoldable pub refused_text : List ℕ → List ℕ
refused_text counts = codes ",\"refused\":[0" ++ (flat_map next_text counts ++ codes "]")

-- the counts: of entries, of MAPs, and of refusals
unfoldable pub counts_text : Numbers → List ℕ
counts_text n = member_text (codes "{\"entries\":") n.entries
    ++ (member_text (codes ",\"maps\":") n.maps ++ refused_text n.refused)

-- what is least or greatest
unfoldable pub extremes_text : Numbers → List ℕ
extremes_text n = member_text (codes ",\"most_elements\":") n.elements
    ++ (codes ",\"least_margin\":" ++ (number_or_null n.margin
    ++ (member_text (codes ",\"most_ack_behind\":") n.behind ++ codes "}")))

-- the numbers as an object
unfoldable pub numbers_text : Numbers → List ℕ
numbers_text n = counts_text n ++ extremes_text n

-- a member of an object, with numbers
unfoldable pub named_text : List ℕ → Numbers → List ℕ
named_text name n = name ++ numbers_text n

-- what waits for data grants
unfoldable pub backlog_text : Standing → List ℕ
backlog_text now = member_text (codes ",\"waiting_flows\":") now.backlog.flows
    ++ member_text (codes ",\"waiting_bytes\":") now.backlog.bytes

-- how a conversation stands
unfoldable pub standing_text : Standing → List ℕ
standing_text now = backlog_text now ++ (member_text (codes ",\"lapsed_reserves\":") now.lapsed
    ++ member_text (codes ",\"journal_bytes\":") now.journal_bytes)

-- the numbers since the start, and since they were told last
unfoldable pub both_text : Numbers → Numbers → List ℕ
both_text total since = named_text (codes "{\"since_start\":") total ++ named_text (codes ",\"since_stats\":") since

-- the line of both, and of how the conversation stands
unfoldable pub stats_line : Numbers → Numbers → Standing → List ℕ
stats_line total since now = both_text total since ++ (standing_text now ++ codes "}\n")
