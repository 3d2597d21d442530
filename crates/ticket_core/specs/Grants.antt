-- The row of 64 words by which a partitioned ticket lock grants: a seat waits with its ticket on the word whose index
-- the ticket leaves on division by 64.
use Rattle.std.specs.Prelude.{◌≡◌, ℕ, ◌+◌, ◌-◌, ◌%◌, ◌^◌, ◌≤◌}
use Rattle.ticket_core.specs.declared.SeatState.TheVariants.{Waiting}
use Rattle.ticket_core.specs.LockWorld.{LockWorld, state_of, IsLawful}
use Rattle.ticket_core.specs.World.{Words, words_of}

-- the latest number that was served at this index, one turn of the words up so that there always is one: the ticket
-- served less what it is past a number that leaves the index on division by 64
abbrev pub latest_at : ℕ → ℕ → ℕ
latest_at served index = served + 2 ^ 64 - (served + 64 - index) % 64

-- what the word with this index holds: that number modulo 2^64
abbrev pub grant_of : ℕ → ℕ → ℕ
grant_of served index = latest_at served index % 2 ^ 64

-- a number is the greatest that is at most the ticket served and leaves the index on division by 64, both one turn of
-- the words up
pub record IsLatestAt (served index latest : ℕ) : Type 0 where
  pub at_most : latest ≤ served + 2 ^ 64
  pub leaves : latest % 64 ≡ index
  pub greatest : (n : ℕ) → n ≤ served + 2 ^ 64 → n % 64 ≡ index → n ≤ latest

-- the word is the grant of whatever world the words stand for
pub record ShowsGrant (words : Words) (index word : ℕ) : Type 0 where
  pub is : (w : LockWorld) → words ≡ words_of w → word ≡ grant_of w.served index
  pub latest : (w : LockWorld) → words ≡ words_of w → IsLatestAt w.served index (latest_at w.served index)

-- a seat that waits finds its ticket in the word of its index exactly where its ticket is served
abbrev pub TellsTurns : Words → ℕ → ℕ → Type 0
TellsTurns words index word = (w : LockWorld) (seat ticket : ℕ) → IsLawful w → words ≡ words_of w
    → state_of w seat ≡ Waiting ticket → index ≡ ticket % 64
    → (word ≡ ticket % 2 ^ 64 → ticket ≡ w.served) × (ticket ≡ w.served → word ≡ ticket % 2 ^ 64)
