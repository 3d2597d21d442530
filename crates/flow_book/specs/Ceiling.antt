-- The rate ceiling: maximum sustained rate and burst, over every window of what is charged to it.
use Rattle.std.specs.Prelude.{ℕ, ◌+◌, ◌*◌, ◌<◌, ◌≤◌, List, length, take, drop, slice_index_or}
use Rattle.minislots.specs.declared.config.Config.{Config}
use Rattle.flow_book.specs.Flows.{Charge, tokens_of}

-- the charges from the i-th to the j-th, both counted in; the first has the number 0
abbrev pub window : List Charge → ℕ → ℕ → List Charge
window charges i j = drop i (take (j + 1) charges)

-- where the i-th charge is made
abbrev pub start_of : List Charge → ℕ → ℕ
start_of charges i = (slice_index_or charges i (record { start = 0; tokens = 0 })).start

-- The charges keep the maximum sustained rate, in bits per second, and the maximum burst, in bytes: any run of them,
-- one after the other, takes at most the burst and what the rate brings in the time from the start of the run's first
-- charge to the start of its last. A rate of 0 is no ceiling.
-- How the numbers come about: a minislot has so many ticks of 6.25 microseconds, of which 160000 are a second, so in n
-- minislots a rate brings n * ticks * rate / 160000 bits, an eighth of that in bytes: n * ticks * rate / 1280000. Of
-- the tokens 1280000 are a byte, so that nothing is divided, and the start of the first charge stands on the left, so
-- that nothing is subtracted.
abbrev pub KeepsCeiling : Config → ℕ → ℕ → List Charge → Type 0
KeepsCeiling c rate burst charges = 0 < rate → (i j : ℕ) → i ≤ j → j < length charges →
    tokens_of (window charges i j) + start_of charges i * c.ticks * rate
    ≤ start_of charges j * c.ticks * rate + 1280000 * burst
