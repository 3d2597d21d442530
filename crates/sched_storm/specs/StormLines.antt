-- The lines of a tally.
use Rattle.std.specs.Prelude.{ℕ, zero, suc, Bool, true, false, List, [], ◌∷◌, ◌++◌, Option, None, Some}
use Rattle.std.specs.Prelude.{codes, slice_index}
use Rattle.sched_storm.specs.declared.tally.Tally.{Tally}
use Rattle.sched_lines.specs.Line.{number_text}
use Rattle.sched_lines.specs.Line.{number_line}

-- the line of a seat: its number and its count
unfoldable pub seat_line : ℕ → ℕ → List ℕ
seat_line number count = codes "seat" ++ (number_text number ++ (number_text count ++ 10 ∷ []))

-- the lines of the first so many seats
abbrev pub seat_lines : List ℕ → ℕ → List ℕ
seat_lines counts zero = []
seat_lines counts (suc n) = seat_lines counts n ++ seat_line n (slice_index counts n)

-- the line of the version that was read last, or of none
abbrev pub newest_line : Option ℕ → List ℕ
newest_line None = codes "newest none" ++ 10 ∷ []
newest_line (Some version) = number_line (codes "newest") version

-- the line of a worker that was held, if any
abbrev pub held_line : Option ℕ → List ℕ
held_line None = []
held_line (Some worker) = number_line (codes "held") worker

-- the line of the audit
abbrev pub audit_line : Bool → List ℕ
audit_line true = codes "audit legal\n"
audit_line false = codes "audit illegal\n"

-- the lines of a tally of so many workers
unfoldable pub tally_text : ℕ → Tally → List ℕ
tally_text workers t =
    seat_lines t.counts workers
    ++ (number_line (codes "unrecorded") t.unrecorded
    ++ (number_line (codes "maps") t.maps ++ (newest_line t.newest ++ (held_line t.held ++ audit_line t.legal))))
