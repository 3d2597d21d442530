-- The flows that wait after a MAP, as they stand in the two parts of a queue.
use Rattle.std.specs.Prelude.{◌≡◌, ℕ, ◌-◌, ◌%◌, ◌^◌, ◌<◌, List, ◌++◌, Some, unwrap_or, option_map}
use Rattle.std.specs.Prelude.{slice_get, filter, map}
use Rattle.std.specs.List.{AllByRecursion}
use Rattle.flow_book.specs.declared.flow.Flow.{Flow}
use Rattle.flow_book.specs.declared.waiting.Waiting.{Waiting}
use Rattle.flow_book.specs.Batches.{since_of}
use Rattle.flow_book.specs.Flows.{LiveFlow, outstanding}
use Rattle.flow_book.specs.Book.{Ascend}
use Rattle.flow_book.specs.Queue.{still_waits}
use Rattle.flow_book.specs.Shown.{number_of}
use Rattle.flow_book.specs.Line.{sorted, numbers_of}

-- those of the two parts that still wait
abbrev pub waiting_in : List Waiting → List Waiting → List Waiting
waiting_in queue served = filter still_waits queue ++ filter still_waits served

-- the turn of one that waits ends with its SID
abbrev pub sid_at : Waiting → ℕ
sid_at w = w.turn % 2 ^ 16

-- the number in line of one that waits, by the flow at its place
abbrev pub number_at : List Flow → Waiting → ℕ
number_at flows w =
    unwrap_or (option_map (λ f. number_of (since_of f.batches (f.asked - w.wants)) f.sid) (slice_get flows w.place)) 0

-- one is that of a flow: its place is the flow's, its turn ends with the SID, and it waits for its bytes
pub record IsWaitingOf (flows : List LiveFlow) (f : LiveFlow) (w : Waiting) : Type 0 where
  pub at : slice_get flows w.place ≡ Some f
  pub sid : sid_at w ≡ f.sid
  pub wants : w.wants ≡ outstanding f

-- the numbers in line of these are in order those of the flows that wait
pub record AreInLine (flows : List Flow) (ws : List Waiting) (after : List LiveFlow) : Type 0 where
  pub ascending : Ascend after
  pub small : AllByRecursion (λ f. f.sid < 2 ^ 16) after
  pub numbers : sorted (map (number_at flows) ws) ≡ sorted (numbers_of after)
