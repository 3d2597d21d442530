-- How many calls of a run were not recorded.
use Rattle.std.proofs.Common.{◌≡◌, ℕ, ◌+◌, ◌≤◌, List, [], ◌∷◌, length, length-append, Ok, Err, ap, arith}
use Rattle.sched_calls.specs.declared.call.Call.{Call}
use Rattle.sched_history.specs.Machine.{Machine}
use Rattle.sched_calls.specs.Reply.{Answer}
use Rattle.sched_history.specs.Answer.{recorded, recorded_entries, MakesCalls}

-- a call has at most one entry
few-recorded : (ticket : ℕ) (call : Call) (answer : Answer) → length (recorded ticket call answer) ≤ 1
few-recorded ticket call (Ok reply) = omega arith
few-recorded ticket call (Err unrecorded) = omega arith

-- there are no more entries than calls
recorded_entries-few : (ticket : ℕ) (calls : List Call) (answers : List Answer)
    → length (recorded_entries ticket calls answers) ≤ length calls
recorded_entries-few ticket [] answers = omega arith
recorded_entries-few ticket (call ∷ calls) [] = omega arith
recorded_entries-few ticket (call ∷ calls) (answer ∷ answers) =
    omega (
      arith,
      few-recorded ticket call answer,
      length-append (recorded ticket call answer) (recorded_entries (ticket + 1) calls answers),
      recorded_entries-few (ticket + 1) calls answers,
    )

-- a scheduler has recorded no more than the calls that were made
pub MakesCalls-few : (old new : Machine) (calls : List Call) (answers : List Answer)
    → MakesCalls old new calls answers → length new.history ≤ length calls
MakesCalls-few old new calls answers makes = rw (ap (λ (m : Machine). m.history) makes.state)
    (recorded_entries-few 0 calls answers)

-- and the others were not recorded
pub MakesCalls-count : (old new : Machine) (calls : List Call) (answers : List Answer) (n : ℕ)
    → MakesCalls old new calls answers → n + length new.history ≡ length calls
    → n + length (recorded_entries 0 calls answers) ≡ length calls
MakesCalls-count old new calls answers n makes count = rw (ap (λ (m : Machine). m.history) makes.state) at count
