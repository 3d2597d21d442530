-- Threads that are started one after the other.
use Rattle.std.proofs.Common.{◌≡◌, List, [], ◌∷◌, ◌++◌, length, reverse, refl, sym, ap, ◌∙◌}
use Rattle.std.proofs.Common.{subst, append_assoc, append-nil, arith}
use Rattle.std.specs.Global.{Vec}
use Rattle.std.proofs.lemmas.List.{reverse-append}
use Rattle.sched_calls.specs.declared.call.Call.{Call}
use Rattle.ticket_lock.specs.Rule.{Every}
use Rattle.ticket_lock.specs.Standing.{Lock, Standing}
use Rattle.ticket_lock.proofs.Logs.{Every-front}
use Rattle.ticket_lock.proofs.Gathered.{Every-back}
use Rattle.sched_desk.specs.declared.event.Event.{Event}
use Rattle.sched_desk.specs.Desk.{FixedDesk}
use Rattle.sched_storm.specs.Jobs.{EachOf, calls_each}

-- a list without members
pub none_left : {X : Type 0} (xs : List X) → length xs ≡ 0 → xs ≡ []
none_left [] e = refl
none_left (x ∷ xs) e = absurd (omega (arith, e))

-- the last member stands first in the reversed list
pub reverse-last : {X : Type 0} (xs : List X) (x : X) → reverse (xs ++ x ∷ []) ≡ x ∷ reverse xs
reverse-last xs x = reverse-append xs (x ∷ [])

module _ {J : Type 0} (Fits : Standing FixedDesk Event → List Call → J → Type 0) (lock : Lock FixedDesk Event)
    (all_seats : List (Standing FixedDesk Event)) (all_scripts : List (Vec Call)) where
  -- a seat is of this lock
  abbrev IsOwn : Standing FixedDesk Event → Type 0
  IsOwn s = s.lock ≡ lock

  -- these seats and scripts are left, and each of the others has its job
  pub record Starting (seats : List (Standing FixedDesk Event)) (scripts : List (Vec Call)) (jobs : List J) : Type 0
    where
      pub given_seats : List (Standing FixedDesk Event)
      pub given_scripts : List (Vec Call)
      pub seats_are : all_seats ≡ seats ++ given_seats
      pub scripts_are : all_scripts ≡ scripts ++ given_scripts
      pub jobs_are : EachOf Fits given_seats (calls_each given_scripts) (reverse jobs)
      pub own : Every (λ s. s.lock ≡ lock) seats

  -- no job yet
  pub Starting-none : Every (λ s. s.lock ≡ lock) all_seats → (jobs : List J) → jobs ≡ []
      → Starting all_seats all_scripts jobs
  Starting-none own jobs empty = record {
    given_seats = [];
    given_scripts = [];
    seats_are = sym (append-nil all_seats);
    scripts_are = sym (append-nil all_scripts);
    jobs_are = subst (λ js. EachOf Fits [] [] (reverse js)) (sym empty) tt;
    own = own;
  }

  module _ (seats rest : List (Standing FixedDesk Event)) (scripts rest_scripts : List (Vec Call)) (jobs : List J)
      (s : Standing FixedDesk Event) (script : Vec Call) (seats_is : seats ≡ rest ++ s ∷ [])
      (so : Starting seats scripts jobs) where
    -- the last seat is of this lock
    pub Starting-own : s.lock ≡ lock
    Starting-own = (Every-back IsOwn rest (s ∷ []) (subst (Every IsOwn) seats_is so.own)).0

    -- one job more
    pub Starting-push : (job : J) (more : List J) → scripts ≡ rest_scripts ++ script ∷ [] → Fits s script.items job
        → more ≡ jobs ++ job ∷ [] → Starting rest rest_scripts more
    Starting-push job more scripts_is fits pushed = record {
      given_seats = s ∷ so.given_seats;
      given_scripts = script ∷ so.given_scripts;
      seats_are = so.seats_are ∙ ap (λ l. l ++ so.given_seats) seats_is ∙ append_assoc rest (s ∷ []) so.given_seats;
      scripts_are =
          so.scripts_are
          ∙ ap (λ l. l ++ so.given_scripts) scripts_is
          ∙ append_assoc rest_scripts (script ∷ []) so.given_scripts;
      jobs_are =
          subst (EachOf Fits (s ∷ so.given_seats) (script.items ∷ calls_each so.given_scripts))
          (sym (ap reverse pushed ∙ reverse-last jobs job)) (fits, so.jobs_are);
      own = Every-front IsOwn rest (s ∷ []) (subst (Every IsOwn) seats_is so.own);
    }

  -- none is left
  pub Starting-all : (seats : List (Standing FixedDesk Event)) (scripts : List (Vec Call)) (jobs : List J)
      → length seats ≡ 0 → length scripts ≡ 0 → Starting seats scripts jobs
      → EachOf Fits all_seats (calls_each all_scripts) (reverse jobs)
  Starting-all seats scripts jobs no_seat no_script so =
      let seats_is : all_seats ≡ so.given_seats =
      so.seats_are ∙ ap (λ l. l ++ so.given_seats) (none_left seats no_seat) in
      let scripts_is : all_scripts ≡ so.given_scripts =
      so.scripts_are ∙ ap (λ l. l ++ so.given_scripts) (none_left scripts no_script) in
      subst (λ (x : List (Standing FixedDesk Event) × List (Vec Call)). EachOf Fits x.0 (calls_each x.1) (reverse jobs))
      (λ i. (sym seats_is i, sym scripts_is i)) so.jobs_are
