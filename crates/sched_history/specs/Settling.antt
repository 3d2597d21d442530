-- Which MAPs settle: those that change the UCD count, and for a time those after them.
use Rattle.std.specs.Prelude.{ℕ, ◌+◌, Bool, false, not, ◌&&◌, ◌||◌, nat_lt, ◌==◌, List, [], ◌∷◌, map, zip, filter_map, Option}
use Rattle.std.specs.Prelude.{None, Some, option_map, if◌then◌else◌}
use Rattle.std.specs.List.{list_any}
use Rattle.std.specs.Option.{option_map_or}
use Rattle.minislots.specs.declared.config.Config.{Config}
use Rattle.map_codec.specs.declared.element.Element.{Element}
use Rattle.sched_calls.specs.declared.frame_map.FrameMap.{FrameMap}
use Rattle.sched_calls.specs.declared.opportunity.Header.{Header}
use Rattle.sched_calls.specs.declared.reply.Reply.{Reply}
use Rattle.sched_calls.specs.declared.reply.Reply.TheVariants as replies
use Rattle.sched_calls.specs.declared.reply.Entry.{Entry}
use Rattle.sched_history.specs.declared.scheduler.settling.Settling.{Settling}
use Rattle.sched_history.specs.Latest.{latest}
use Rattle.sched_history.specs.Time.{next_after}
use Rattle.sched_history.specs.Headers.{header_after}

-- whether a MAP with these elements settles: at its head is an idle, in the place of the request region
abbrev pub is_quiet : List Element → Bool
is_quiet [] = false
is_quiet (e ∷ es) = e.sid == 0

-- the MAP that a reply builds
abbrev pub map_by : Reply → Option FrameMap
map_by (replies.Built m) = Some m
map_by reply = None

-- the MAPs that were built, in order
abbrev pub maps_of : List Entry → List FrameMap
maps_of h = filter_map (λ e. map_by e.reply) h

-- the UCD counts before these MAPs, and behind the last: one before the first, and then theirs
abbrev pub counts_from : ℕ → List FrameMap → List ℕ
counts_from first maps = first ∷ map (λ m. m.wire.ucd_count) maps

-- where a MAP starts that changes: its UCD count is another than the one before it, which it is told beside
abbrev pub change_in : FrameMap × ℕ → Option ℕ
change_in m = if m.0.wire.ucd_count == m.1 then None else Some m.0.start

-- where those of these MAPs start that change, in order, where one UCD count is before the first
abbrev pub changes_in : ℕ → List FrameMap → List ℕ
changes_in first maps = filter_map change_in (zip maps (counts_from first maps))

-- where the MAPs of a history start that change, in order: the configuration's UCD count is before the first
abbrev pub changes_of : Config → List Entry → List ℕ
changes_of c h = changes_in c.ucd_count (maps_of h)

-- the last of some numbers
abbrev pub last_of : List ℕ → Option ℕ
last_of ns = option_map (λ found. found.said) (latest Some ns)

-- the UCD count of the last of these MAPs, or one before them
abbrev pub count_behind : ℕ → List FrameMap → ℕ
count_behind first maps = option_map_or (λ found. found.said) (latest (λ m. Some m.wire.ucd_count) maps) first

-- the UCD count of the last MAP, or the configuration's
abbrev pub count_after : Config → List Entry → ℕ
count_after c h = count_behind c.ucd_count (maps_of h)

-- the acknowledge time of the last of these MAPs, or one before them
abbrev pub ack_behind : ℕ → List FrameMap → ℕ
ack_behind first maps = option_map_or (λ found. found.said) (latest (λ m. Some m.ack) maps) first

-- the acknowledge time of the last MAP, or the configuration's start. The next MAP has another where since then a
-- receiver has handed in what it heard
abbrev pub last_ack : Config → List Entry → ℕ
last_ack c h = ack_behind c.start (maps_of h)

-- what a history leaves of its changes: that UCD count, and where the last MAP starts that changes
abbrev pub settling_after : Config → List Entry → Settling
settling_after c h = record { count = count_after c h; change = last_of (changes_of c h) }

-- the same with a MAP more, of this UCD count, that starts there
abbrev pub settling_with : ℕ → ℕ → Settling → Settling
settling_with count start s =
    record { count = count; change = if count == s.count then s.change else Some start }

-- a MAP that starts there is less than so many minislots behind a change
abbrev pub is_near : ℕ → ℕ → ℕ → Bool
is_near settle start change = nat_lt start (change + settle)

-- a MAP with this header, of the frame that starts there, settles: it has another UCD count than the last MAP, or
-- starts less than the configuration says behind the last that changed. Where the configuration says 0 none does
abbrev pub settles_by : Config → Header → Settling → ℕ → Bool
settles_by c header s next = nat_lt 0 c.settle
    && (not (header.ucd_count == s.count) || option_map_or (is_near c.settle next) s.change false)

-- the MAP of the next frame settles
abbrev pub settles_after : Config → List Entry → Bool
settles_after c h = settles_by c (header_after c h) (settling_after c h) (next_after c h)

-- the same by every change: it changes, or starts less than the configuration says behind one that changes
abbrev pub settles_by_any : Config → List Entry → Bool
settles_by_any c h = nat_lt 0 c.settle
    && (not ((header_after c h).ucd_count == count_after c h)
    || list_any (is_near c.settle (next_after c h)) (changes_of c h))
