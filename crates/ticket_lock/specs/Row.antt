-- The words of the table: the ticket that is drawn next, and the row of words by which the lock grants.
use Rattle.std.specs.Prelude.{◌≡◌, ◌≢◌, ℕ, ◌+◌, ◌-◌, ◌*◌, ◌%◌, ◌^◌, ◌<◌, ◌≤◌, List, length, slice_index}
use Rattle.ticket_core.specs.LockWorld.{LockWorld}
use Rattle.ticket_core.specs.Grants.{grant_of}

-- the word of the table that a seat with this ticket waits on: each word of the row has a cache line of 8 words of its
-- own, and stands behind the line of the first word
abbrev pub place_of : ℕ → ℕ
place_of ticket = (ticket % 64 + 1) * 8

-- the words stand for this world: the first is the ticket drawn next, word i of the row is the greatest number that is
-- at most the ticket served and leaves i on division by 64, all modulo 2^64, and words between never change
pub record WordsStand (w : LockWorld) (words : List ℕ) : Type 0 where
  pub count : length words ≡ 520
  pub next : slice_index words 0 ≡ w.next % 2 ^ 64
  pub grants : (i : ℕ) → i < 64 → slice_index words (place_of i) ≡ grant_of w.served i
  pub between : (k : ℕ) → k < 520 → k % 8 ≢ 0 → slice_index words k ≡ 0

-- the ticket so many before this one, both modulo 2^64
abbrev pub before_by : ℕ → ℕ → ℕ
before_by count ticket = (ticket + 2 ^ 64 - count) % 2 ^ 64

-- for a seat that waits with this ticket, whatever ticket is served: the herald's word has the herald exactly where no
-- more than so many tickets come before the seat's
abbrev pub TellsNear : ℕ → ℕ → ℕ → Type 0
TellsNear near ticket herald = (t served : ℕ) → ticket ≡ t % 2 ^ 64 → served ≤ t → t < served + 64
    → (grant_of served (herald % 64) ≡ herald → t ≤ served + near)
    × (t ≤ served + near → grant_of served (herald % 64) ≡ herald)

-- this is the low half of what the word of a ticket has while an earlier one is served, and not of what it has then
abbrev pub IsBeforeTurn : ℕ → ℕ → Type 0
IsBeforeTurn ticket low = (t served : ℕ) → ticket ≡ t % 2 ^ 64 → served ≤ t → t < served + 64
    → (served < t → grant_of served (t % 64) % 2 ^ 32 ≡ low) × (served ≡ t → grant_of served (t % 64) % 2 ^ 32 ≢ low)
