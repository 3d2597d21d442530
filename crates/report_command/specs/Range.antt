-- Which entries of a history a report tells of.
use Rattle.std.specs.Prelude.{◌≡◌, ℕ, ◌+◌, ◌-◌, ◌*◌, ◌≤◌, nat_le, min, Bool, true, false, List, [], ◌∷◌, ◌++◌}
use Rattle.std.specs.Prelude.{length, take}
use Rattle.std.specs.Prelude.{Option, None, Some, if◌then◌else◌}
use Rattle.minislots.specs.declared.config.Config.{Config as Configuration}
use Rattle.sched_calls.specs.declared.reply.Entry.{Entry}
use Rattle.sched_history.specs.Time.{next_after}
use Rattle.sched_report.specs.Window.{Window}
use Rattle.report_command.specs.declared.range.Range.{Range}

-- how many ticks of 6.25 microseconds after the configuration's start a frame starts
abbrev pub ticks_until : Configuration → ℕ → ℕ
ticks_until c start = (start - c.start) * c.ticks

-- and the next frame after some entries
abbrev pub ticks_after : Configuration → List Entry → ℕ
ticks_after c h = ticks_until c (next_after c h)

-- how many entries, which stand behind others, come before a time: up to the first before which the next frame starts
-- so many milliseconds after the configuration's start, or later; a millisecond has 160 ticks
abbrev pub entries_before : Configuration → ℕ → List Entry → List Entry → ℕ
entries_before c ms before [] = 0
entries_before c ms before (e ∷ es) =
    if nat_le (160 * ms) (ticks_after c before) then 0 else 1 + entries_before c ms (before ++ e ∷ []) es

-- how many entries of a history come before the end of what is told: all where none is given
abbrev pub entries_until : Configuration → Option ℕ → List Entry → ℕ
entries_until c None h = length h
entries_until c (Some ms) h = entries_before c ms [] h

-- what is told of a history
abbrev pub window_of : Configuration → Range → List Entry → Window
window_of c r h = record {
  config = c;
  history = take (entries_until c r.to h) h;
  passed = min (entries_before c r.from [] h) (entries_until c r.to h);
}

-- whether what is told is over so many ticks after the start, where its end is given
abbrev pub is_over : Option ℕ → ℕ → Bool
is_over None ticks = false
is_over (Some ms) ticks = nat_le (160 * ms) ticks

-- A configuration, the part of a history that is told of, and the entries that were taken
pub record Ranged : Type 0 where
  pub config : Configuration
  pub range : Range
  pub history : List Entry

-- whether what is told is over behind the entries that were taken
abbrev pub ends_here : Ranged → Bool
ends_here r = is_over r.range.to (ticks_after r.config r.history)

-- What is told is over behind none of these entries
pub record GoesOn (c : Configuration) (r : Range) (es : List Entry) : Type 0 where
  pub all : entries_until c r.to es ≡ length es
  pub here : is_over r.to (ticks_after c es) ≡ false

-- these entries follow where what is told is over, or none does
abbrev pub IsCut : List Entry → Bool → Type 0
IsCut [] over = Unit {0}
IsCut (e ∷ rest) over = over ≡ true

-- What is told has begun behind as many entries as come before it, whatever follows; or all that were taken come before
pub record IsRanged (c : Configuration) (r : Range) (begun : Bool) (w : Window) : Type 0 where
  pub config : c ≡ w.config
  pub until : entries_until w.config r.to w.history ≡ length w.history
  pub few : w.passed ≤ length w.history
  pub after : begun ≡ true → (rest : List Entry) → entries_before w.config r.from [] (w.history ++ rest) ≡ w.passed
  pub before : begun ≡ false → entries_before w.config r.from [] w.history ≡ length w.history
