-- What the workers gave back, put together one after the other.
use Rattle.std.proofs.Common.{◌≡◌, ◌<◌, ◌≤◌, ◌+◌, ◌*◌, ◌^◌, ◌||◌, ℕ, false, List, [], ◌∷◌, ◌++◌, length, reverse}
use Rattle.std.proofs.Common.{Option, None, refl, sym, ap, ◌∙◌, subst, append_assoc, append-nil, length-append, arith}
use Rattle.std.specs.List.{AllZip}
use Rattle.std.proofs.Math.Bool.{or-false, or_assoc}
use Rattle.std.proofs.lemmas.List.{map-append, length-map}
use Rattle.std.proofs.lemmas.List.Sums.{sum_by-append, sum_by-cons}
use Rattle.minislots.specs.declared.config.Config.{Config}
use Rattle.sched_calls.specs.declared.call.Call.{Call}
use Rattle.ticket_lock.specs.Standing.{Standing}
use Rattle.sched_desk.specs.declared.event.Event.{Event}
use Rattle.sched_desk.specs.Desk.{FixedDesk}
use Rattle.sched_storm.specs.declared.gather.Gathered.{Gathered}
use Rattle.sched_storm.specs.declared.jobs.Job.{Job}
use Rattle.sched_storm.specs.declared.jobs.Job.TheVariants.{Started, Refused}
use Rattle.sched_storm.specs.declared.worker.Worked.{Worked}
use Rattle.sched_storm.specs.Work.{HasWorked}
use Rattle.sched_storm.specs.Jobs.{is_stopped, held_then, held_by, any_stopped, unrecorded_by, GathersAll, Gathers}
use Rattle.sched_storm.specs.Jobs.{GivesBack, IsJob, EachOf, IsGathered}
use Rattle.sched_storm.proofs.JobLaws.{none_left, reverse-last}

-- the first that was held, with one worker more
held_by-append : (held : Option ℕ) (number : ℕ) (ws : List Worked) (w : Worked)
    → held_by held number (ws ++ w ∷ []) ≡ held_then (held_by held number ws) (number + length ws) w.ended
held_by-append held number [] w =
    let same : number ≡ number + 0 = omega arith in ap (λ n. held_then held n w.ended) same
held_by-append held number (x ∷ xs) w =
    let next = held_then held number x.ended in
    let same : number + 1 + length xs ≡ number + length (x ∷ xs) = omega arith in
    held_by-append next (number + 1) xs w ∙ ap (λ n. held_then (held_by next (number + 1) xs) n w.ended) same

-- whether any was stopped, with one worker more
any_stopped-append : (ws : List Worked) (w : Worked)
    → any_stopped (ws ++ w ∷ []) ≡ (any_stopped ws || is_stopped w.ended)
any_stopped-append [] w = or-false (is_stopped w.ended)
any_stopped-append (x ∷ xs) w =
    ap (λ b. is_stopped x.ended || b) (any_stopped-append xs w)
    ∙ sym (or_assoc (is_stopped x.ended) (any_stopped xs) (is_stopped w.ended))

-- how many calls of all were not recorded, with one worker more
unrecorded_by-append : (ws : List Worked) (w : Worked) → unrecorded_by (ws ++ w ∷ []) ≡ unrecorded_by ws + w.unrecorded
unrecorded_by-append ws w =
    let count = λ (x : Worked). x.unrecorded in
    let one = sum_by-cons (λ (x : Worked). x.unrecorded) w [] in
    let both = sum_by-append (λ (x : Worked). x.unrecorded) ws (w ∷ []) in
    omega (arith, one, both)

-- what was put together, with one worker more
pub GathersAll-add : (done : List Worked) (w : Worked) (g more : Gathered) → GathersAll done g
    → more.seats.items ≡ g.seats.items ++ w.seat ∷ [] → more.unrecorded ≡ g.unrecorded + w.unrecorded
    → more.held ≡ held_then g.held (length g.seats.items) w.ended → more.stopped ≡ (g.stopped || is_stopped w.ended)
    → GathersAll (done ++ w ∷ []) more
GathersAll-add done w g more all seats unrecorded held stopped =
    let long : length g.seats.items ≡ length done =
    ap length all.seats_are ∙ length-map done (λ (x : Worked). x.seat) in
    let number : length g.seats.items ≡ 0 + length done = omega (arith, long) in
    record {
      seats_are =
          seats
          ∙ ap (λ l. l ++ w.seat ∷ []) all.seats_are
          ∙ sym (map-append (λ (x : Worked). x.seat) done (w ∷ []));
      unrecorded_is =
          unrecorded ∙ ap (λ n. n + w.unrecorded) all.unrecorded_is ∙ sym (unrecorded_by-append done w);
      held_is =
          held
          ∙ ap (λ o. held_then o (length g.seats.items) w.ended) all.held_is
          ∙ ap (λ n. held_then (held_by None 0 done) n w.ended) number
          ∙ sym (held_by-append None 0 done w);
      stopped_is =
          stopped ∙ ap (λ b. b || is_stopped w.ended) all.stopped_is ∙ sym (any_stopped-append done w);
    }

module _ {J : Type 0} (Gives : J → Worked → Type 0) where
  -- one job more, and what it gave back
  AllZip-more : (jobs : List J) (done : List Worked) (job : J) (w : Worked) → AllZip Gives jobs done → Gives job w
      → AllZip Gives (jobs ++ job ∷ []) (done ++ w ∷ [])
  AllZip-more [] [] job w gave last = (last, tt)
  AllZip-more [] (x ∷ xs) job w gave last = absurd gave
  AllZip-more (j ∷ js) [] job w gave last = absurd gave
  AllZip-more (j ∷ js) (x ∷ xs) job w gave last = (gave.0, AllZip-more js xs job w gave.1 last)

  module _ (all_jobs : List J) where
    -- these jobs are left, and what the others gave back was put together
    pub record Joining (jobs : List J) (g : Gathered) : Type 0 where
      pub joined : List J
      pub done : List Worked
      pub jobs_are : reverse all_jobs ≡ joined ++ reverse jobs
      pub gave : AllZip Gives joined done
      pub all : GathersAll done g
      pub bound : g.unrecorded ≤ length g.seats.items * 2 ^ 59

    -- no job has ended yet
    pub Joining-none : (g : Gathered) → g.seats.items ≡ [] → g.unrecorded ≡ 0 → g.held ≡ None → g.stopped ≡ false
        → Joining all_jobs g
    Joining-none g empty unrecorded held stopped = record {
      joined = [];
      done = [];
      jobs_are = refl;
      gave = tt;
      all = record { seats_are = empty; unrecorded_is = unrecorded; held_is = held; stopped_is = stopped };
      bound = omega (arith, unrecorded);
    }

    -- one more has ended
    pub Joining-push : (jobs rest : List J) (g more : Gathered) (job : J) (w : Worked) → jobs ≡ rest ++ job ∷ []
        → Gives job w → w.unrecorded < 2 ^ 59 → Joining jobs g → more.seats.items ≡ g.seats.items ++ w.seat ∷ []
        → more.unrecorded ≡ g.unrecorded + w.unrecorded → more.held ≡ held_then g.held (length g.seats.items) w.ended
        → more.stopped ≡ (g.stopped || is_stopped w.ended) → Joining rest more
    Joining-push jobs rest g more job w is gives few so seats unrecorded held stopped = record {
      joined = so.joined ++ job ∷ [];
      done = so.done ++ w ∷ [];
      jobs_are =
          so.jobs_are
          ∙ ap (λ l. so.joined ++ reverse l) is
          ∙ ap (λ l. so.joined ++ l) (reverse-last rest job)
          ∙ sym (append_assoc so.joined (job ∷ []) (reverse rest));
      gave = AllZip-more so.joined so.done job w so.gave gives;
      all = GathersAll-add so.done w g more so.all seats unrecorded held stopped;
      bound =
          let long = ap length seats ∙ length-append g.seats.items (w.seat ∷ []) in
          let bound = so.bound in
          omega (arith, long, bound, unrecorded, few);
    }

    -- none is left
    pub Joining-all : (jobs : List J) (g : Gathered) → length jobs ≡ 0 → (so : Joining jobs g)
        → AllZip Gives (reverse all_jobs) so.done
    Joining-all jobs g none so =
        let all : reverse all_jobs ≡ so.joined =
        so.jobs_are ∙ ap (λ l. so.joined ++ reverse l) (none_left jobs none) ∙ append-nil so.joined in
        subst (λ js. AllZip Gives js so.done) (sym all) so.gave

module _ (R : Type 0) {G : Type 0} (passes holds : G → ℕ → ℕ → Type 0) (lacks : Type 0) (c : Config) (gate : G) where
  -- what a worker with this seat and this script makes
  abbrev Work : Standing FixedDesk Event → List Call → Worked → Type 0
  Work s script w = HasWorked (passes gate) (holds gate) lacks c s script w.seat w.unrecorded w.ended

  -- what a job gives back is what its worker made
  gives_kept : (s : Standing FixedDesk Event) (script : List Call) (job : Job R G) (w : Worked)
      → IsJob passes holds lacks c gate s script job → GivesBack passes holds lacks job w → Work s script w
  gives_kept s script (Started handle) w is gives =
      subst (λ (x : Config × G × Standing FixedDesk Event × List Call).
      HasWorked (passes x.1) (holds x.1) lacks x.0 x.2 x.3 w.seat w.unrecorded w.ended)
      (λ i. (is.0 i, is.1 i, is.2 i, is.3 i)) gives
  gives_kept s script (Refused worked) w is gives = subst (Work s script) (sym gives) is.0

  -- what all jobs give back is what all workers made
  gives_kept_each : (seats : List (Standing FixedDesk Event)) (scripts : List (List Call)) (jobs : List (Job R G))
      (done : List Worked) → EachOf (IsJob passes holds lacks c gate) seats scripts jobs
      → AllZip (GivesBack passes holds lacks) jobs done → EachOf Work seats scripts done
  gives_kept_each [] [] [] [] are gave = tt
  gives_kept_each [] [] [] (w ∷ ws) are gave = absurd gave
  gives_kept_each [] [] (j ∷ js) done are gave = absurd are
  gives_kept_each [] (script ∷ scripts) jobs done are gave = absurd are
  gives_kept_each (s ∷ seats) [] jobs done are gave = absurd are
  gives_kept_each (s ∷ seats) (script ∷ scripts) [] done are gave = absurd are
  gives_kept_each (s ∷ seats) (script ∷ scripts) (j ∷ js) [] are gave = absurd gave
  gives_kept_each (s ∷ seats) (script ∷ scripts) (j ∷ js) (w ∷ ws) are gave =
      (gives_kept s script j w are.0 gave.0, gives_kept_each seats scripts js ws are.1 gave.1)

  -- and so it is put together
  pub gathered : (seats : List (Standing FixedDesk Event)) (scripts : List (List Call)) (jobs : List (Job R G))
      (g : Gathered) → EachOf (IsJob passes holds lacks c gate) seats scripts (reverse jobs)
      → Gathers passes holds lacks jobs g
      → IsGathered (passes gate) (holds gate) lacks c seats scripts g
  gathered seats scripts jobs g are gathers = record {
    done = gathers.done;
    each = gives_kept_each seats scripts (reverse jobs) gathers.done are gathers.gave;
    all = gathers.all;
  }
