-- The workers of a storm, as threads, and what they give back.
use Rattle.std.specs.Prelude.{◌≡◌, ◌+◌, ◌≤◌, ◌||◌, ℕ, Bool, true, false, List, [], ◌∷◌, vec_len, vec_capacity, map}
use Rattle.std.specs.Prelude.{sum_by, reverse, Option, Some, None}
use Rattle.std.specs.Global.{Vec}
use Rattle.std.specs.List.{AllZip}
use Rattle.minislots.specs.declared.config.Config.{Config}
use Rattle.sched_calls.specs.declared.call.Call.{Call}
use Rattle.sched_calls.specs.declared.call.TheConstants.{MAX_SCRIPTS}
use Rattle.ticket_lock.specs.Rule.{Every}
use Rattle.ticket_lock.specs.Standing.{Lock, Standing}
use Rattle.sched_desk.specs.declared.event.Event.{Event}
use Rattle.sched_desk.specs.Desk.{FixedDesk}
use Rattle.sched_storm.specs.declared.worker.Ended.{Ended}
use Rattle.sched_storm.specs.declared.worker.Ended.TheVariants.{Done, Held, Stopped}
use Rattle.sched_storm.specs.declared.worker.Worked.{Worked}
use Rattle.sched_storm.specs.declared.jobs.Job.{Job}
use Rattle.sched_storm.specs.declared.jobs.Job.TheVariants.{Started, Refused}
use Rattle.sched_storm.specs.declared.gather.Gathered.{Gathered}
use Rattle.sched_storm.specs.Work.{HasWorked}

-- whether a worker was stopped
abbrev pub is_stopped : Ended → Bool
is_stopped Done = false
is_stopped Held = false
is_stopped Stopped = true

-- the first that was held, with one worker more, which has this number
abbrev pub held_then : Option ℕ → ℕ → Ended → Option ℕ
held_then held number Done = held
held_then None number Held = Some number
held_then (Some first) number Held = Some first
held_then held number Stopped = held

module _ {R G : Type 0} (passes holds : G → ℕ → ℕ → Type 0) (lacks : Type 0) where
  -- what a job gives back: what its thread promised, or what it gave back itself
  abbrev pub GivesBack : Job R G → Worked → Type 0
  GivesBack (Started handle) w =
      let given = handle.promise in
      HasWorked (passes given.gate.value) (holds given.gate.value) lacks given.config.value given.seat.value
      given.script.value.items w.seat w.unrecorded w.ended
  GivesBack (Refused worked) w = w ≡ worked

  module _ (c : Config) (gate : G) where
    -- a thread that promises what a worker with this seat and this script makes, or, where no thread was started, what
    -- the worker made until it was stopped
    abbrev pub IsJob : Standing FixedDesk Event → List Call → Job R G → Type 0
    IsJob s script (Started handle) =
        let given = handle.promise in
        (given.config.value ≡ c) × (given.gate.value ≡ gate) × (given.seat.value ≡ s)
        × (given.script.value.items ≡ script)
    IsJob s script (Refused w) =
        HasWorked (passes gate) (holds gate) lacks c s script w.seat w.unrecorded w.ended × (is_stopped w.ended ≡ true)

-- the fact holds of the members at each place, and the three lists are equally long
abbrev pub EachOf : {X : Type 0} → (Standing FixedDesk Event → List Call → X → Type 0)
    → List (Standing FixedDesk Event) → List (List Call) → List X → Type 0
EachOf P [] [] [] = Unit {0}
EachOf P [] [] (x ∷ xs) = ⊥
EachOf P [] (script ∷ scripts) xs = ⊥
EachOf P (s ∷ seats) [] xs = ⊥
EachOf P (s ∷ seats) (script ∷ scripts) [] = ⊥
EachOf P (s ∷ seats) (script ∷ scripts) (x ∷ xs) = P s script x × EachOf P seats scripts xs

-- scripts, as lists of calls
abbrev pub calls_each : List (Vec Call) → List (List Call)
calls_each scripts = map (λ v. v.items) scripts

-- how many calls of all workers were not recorded
abbrev pub unrecorded_by : List Worked → ℕ
unrecorded_by done = sum_by (λ w. w.unrecorded) done

-- the first that was held, of workers of which the first has this number, after one that was held, if any
abbrev pub held_by : Option ℕ → ℕ → List Worked → Option ℕ
held_by held number [] = held
held_by held number (w ∷ ws) = held_by (held_then held number w.ended) (number + 1) ws

-- whether any was stopped
abbrev pub any_stopped : List Worked → Bool
any_stopped [] = false
any_stopped (w ∷ ws) = is_stopped w.ended || any_stopped ws

-- what these workers gave back, put together
pub record GathersAll (done : List Worked) (g : Gathered) : Type 0 where
  pub seats_are : g.seats.items ≡ map (λ w. w.seat) done
  pub unrecorded_is : g.unrecorded ≡ unrecorded_by done
  pub held_is : g.held ≡ held_by None 0 done
  pub stopped_is : g.stopped ≡ any_stopped done

-- what these jobs gave back, of which the first worker's is the last, put together
pub record Gathers {R G : Type 0} (passes holds : G → ℕ → ℕ → Type 0) (lacks : Type 0) (jobs : List (Job R G))
    (g : Gathered) : Type 0 where
  pub done : List Worked
  pub gave : AllZip (GivesBack passes holds lacks) (reverse jobs) done
  pub all : GathersAll done g

-- a worker with each of these seats made calls of the script at the same place, put together
pub record IsGathered (passes holds : ℕ → ℕ → Type 0) (lacks : Type 0) (c : Config)
    (seats : List (Standing FixedDesk Event)) (scripts : List (List Call)) (g : Gathered) : Type 0 where
  pub done : List Worked
  pub each : EachOf (λ s script w. HasWorked passes holds lacks c s script w.seat w.unrecorded w.ended) seats scripts
      done
  pub all : GathersAll done g

-- there is a script for each of these seats, which are of the lock and no more than a storm has, and room for as many
-- threads and for the seats that come back
pub record AreJobsReady {R G : Type 0} (lock : Lock FixedDesk Event) (seats : Vec (Standing FixedDesk Event))
    (scripts : Vec (Vec Call)) (jobs : Vec (Job R G)) (row : Vec (Standing FixedDesk Event)) : Type 0 where
  pub own : Every (λ s. s.lock ≡ lock) seats.items
  pub each : vec_len seats ≡ vec_len scripts
  pub few : vec_len seats ≤ MAX_SCRIPTS
  pub jobs_empty : jobs.items ≡ []
  pub jobs_room : vec_len seats ≤ vec_capacity jobs
  pub row_empty : row.items ≡ []
  pub row_room : vec_len seats ≤ vec_capacity row
