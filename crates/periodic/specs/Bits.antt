-- The minislots of a frame as bits, 64 of them in a word.
use Rattle.std.specs.Prelude.{◌≡◌, ℕ, ◌+◌, ◌-◌, ◌*◌, ◌/◌, ◌%◌, ◌<◌, ◌≤◌, ◌⊎◌, Bool, true, false, List, get_or}
use Rattle.std.specs.Int.{bit_at}

-- the bit of a minislot
unfoldable pub bit_of : List ℕ → ℕ → ℕ
bit_of words m = bit_at (get_or words (m / 64) 0) (m % 64)

-- none of so many minislots from start on has its bit set
abbrev pub IsClear : List ℕ → ℕ → ℕ → Type 0
IsClear words start slots = (m : ℕ) → start ≤ m → m < start + slots → bit_of words m ≡ 0

-- the bit of a minislot that is taken, or of one that is free
abbrev pub bit_for : Bool → ℕ
bit_for true = 1
bit_for false = 0

-- The first minislot from `from` on with this bit in the word at a place
pub record IsFirstBit (bit word place from m : ℕ) : Type 0 where
  pub after : from ≤ m
  pub least : place * 64 ≤ m
  pub most : m < place * 64 + 64
  pub is : bit_at word (m - place * 64) ≡ bit
  pub before : (i : ℕ) → i < 64 → from ≤ place * 64 + i → place * 64 + i < m → bit_at word i ≡ 1 - bit

-- Of the words before this place, those bits were written that stand for minislots from start to before end
pub record IsWritten (old new : List ℕ) (start end bit place : ℕ) : Type 0 where
  pub inside : (m : ℕ) → m < place * 64 → start ≤ m → m < end → bit_of new m ≡ bit
  pub outside : (m : ℕ) → (m < start) ⊎ (end ≤ m) → bit_of new m ≡ bit_of old m
  pub rest : (m : ℕ) → place * 64 ≤ m → bit_of new m ≡ bit_of old m
