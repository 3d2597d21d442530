-- The numbers of a list of entries: how many there are of a kind, and what is least or greatest among their MAPs.
use Rattle.std.specs.Prelude.{◌≡◌, ℕ, ◌+◌, ◌-◌, ◌<◌, ◌==◌, max, min, Bool, false, List, [], ◌∷◌, length, map, replicate}
use Rattle.std.specs.Prelude.{count_by, filter_map, slice_index, Option, None, Some, option_map}
use Rattle.sched_calls.specs.declared.call.Call.{Call}
use Rattle.sched_calls.specs.declared.call.Call.TheVariants.{Build}
use Rattle.sched_calls.specs.declared.frame_map.FrameMap.{FrameMap}
use Rattle.sched_calls.specs.declared.reply.Reply.{Reply}
use Rattle.sched_calls.specs.declared.reply.Reply.TheVariants.{Built, Refused}
use Rattle.sched_calls.specs.declared.reply.Entry.{Entry}
use Rattle.sched_lines.specs.Line.{refusal_number}
use Rattle.live_command.specs.declared.numbers.Numbers.{Numbers}

-- the clock of a build; no other call builds a MAP
abbrev pub clock_of : Call → ℕ
clock_of (Build now) = now
clock_of call = 0

-- the MAP of a reply, where it has one
abbrev pub map_in : Reply → Option FrameMap
map_in (Built m) = Some m
map_in reply = None

-- the MAPs that were built
abbrev pub maps_of : List Entry → List FrameMap
maps_of es = filter_map (λ e. map_in e.reply) es

-- how many minislots before the start of its MAP a build was made
abbrev pub margin_in : Entry → Option ℕ
margin_in e = option_map (λ m. m.start - clock_of e.call) (map_in e.reply)

-- the margins of all builds
abbrev pub margins_of : List Entry → List ℕ
margins_of es = filter_map margin_in es

-- whether a reply is a refusal with this number
abbrev pub is_refusal : ℕ → Reply → Bool
is_refusal number (Refused refusal) = refusal_number refusal == number
is_refusal number reply = false

-- how many refusals with this number there are
abbrev pub refusals_with : ℕ → List Entry → ℕ
refusals_with number es = count_by (λ e. is_refusal number e.reply) es

-- the greatest of some numbers, and 0 of none
abbrev pub greatest : List ℕ → ℕ
greatest [] = 0
greatest (n ∷ ns) = max n (greatest ns)

-- the lesser of a number and one that there may be
abbrev pub lesser_with : ℕ → Option ℕ → ℕ
lesser_with n None = n
lesser_with n (Some k) = min n k

-- the least of some numbers
abbrev pub least : List ℕ → Option ℕ
least [] = None
least (n ∷ ns) = Some (lesser_with n (least ns))

-- the numbers of no entries
abbrev pub no_numbers : Numbers
no_numbers = record { entries = 0; maps = 0; refused = replicate 23 0; elements = 0; margin = None; behind = 0 }

-- So many refusals there are with each number: with 1 at the first place, and so on
pub record CountsRefusals (counts : List ℕ) (es : List Entry) : Type 0 where
  pub places : length counts ≡ 23
  pub each : (place : ℕ) → place < 23 → slice_index counts place ≡ refusals_with (place + 1) es

-- These are the numbers of a list of entries
pub record AreNumbersOf (n : Numbers) (es : List Entry) : Type 0 where
  pub entries : n.entries ≡ length es
  pub maps : n.maps ≡ length (maps_of es)
  pub refused : CountsRefusals n.refused es
  -- the most elements of a MAP
  pub elements : n.elements ≡ greatest (map (λ m. length m.wire.elements) (maps_of es))
  -- the least margin of a build
  pub margin : n.margin ≡ least (margins_of es)
  -- how far the acknowledge time of a MAP lay behind its start, at most
  pub behind : n.behind ≡ greatest (map (λ m. m.start - m.ack) (maps_of es))
