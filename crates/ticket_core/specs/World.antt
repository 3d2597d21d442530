-- What a `World` shows: the lock's words of 64 bits, and the seats with their tickets as such words.
use Rattle.std.specs.Prelude.{◌≡◌, ℕ, ◌%◌, ◌^◌, List, map, take}
use Rattle.ticket_core.specs.declared.SeatState.{SeatState}
use Rattle.ticket_core.specs.declared.SeatState.TheVariants.{Idle, Waiting, Holding}
use Rattle.ticket_core.specs.LockWorld.{LockWorld, IsLawful}

-- the words `serving` and `next`, and what each seat shows
pub record Words : Type 0 where
  pub serving : ℕ
  pub next : ℕ
  pub shown : List SeatState

-- these words, with the first so many of these states
abbrev pub words_with : ℕ → ℕ → ℕ → List SeatState → Words
words_with serving next seats states = record { serving = serving; next = next; shown = take seats states }

-- a state as it is shown: its ticket modulo 2^64
abbrev pub shown_state : SeatState → SeatState
shown_state Idle = Idle
shown_state (Waiting ticket) = Waiting (ticket % 2 ^ 64)
shown_state (Holding ticket) = Holding (ticket % 2 ^ 64)

-- the words that stand for a world: its numbers modulo 2^64
abbrev pub words_of : LockWorld → Words
words_of w = record { serving = w.served % 2 ^ 64; next = w.next % 2 ^ 64; shown = map shown_state w.seats }

-- there is a lawful world that the words stand for
pub record StandForLawful (words : Words) : Type 0 where
  pub world : LockWorld
  pub lawful : IsLawful world
  pub stands : words ≡ words_of world
