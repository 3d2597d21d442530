-- A queue with a gap, into which many are put.
use Rattle.std.specs.Prelude.{ℕ, ◌+◌, List, [], ◌∷◌, ◌++◌, take, drop}
use Rattle.flow_book.specs.declared.waiting.Waiting.{Waiting}
use Rattle.sched_calls.specs.Sids.{put_in}

-- those before a gap of so many places, and those behind it
abbrev pub around : ℕ → ℕ → List Waiting → List Waiting
around first gap queue = take first queue ++ drop (first + gap) queue

-- a queue with all of these, each put in its turn
abbrev pub all_put_in : List Waiting → List Waiting → List Waiting
all_put_in [] queue = queue
all_put_in (w ∷ ws) queue = put_in (λ v. v.turn) w (all_put_in ws queue)
