-- A storm from the opening of its lock to its tally.
use Rattle.std.proofs.Common.{◌≡◌, ℕ, true, false, List, length, map, Result, Ok, Err, sym, ap, ◌∙◌, subst, inl, inr}
use Rattle.std.specs.Prelude.{◌⊎◌, IfOk, IfErr, IsErrOf, OnOk, vec_len}
use Rattle.std.specs.Global.{Vec}
use Rattle.std.specs.List.{range_with_len}
use Rattle.std.proofs.lemmas.List.{length-map}
use Rattle.minislots.specs.declared.config.Config.{Config}
use Rattle.sched_calls.specs.declared.call.Call.{Call}
use Rattle.logbook.specs.Pages.{Book}
use Rattle.ticket_lock.specs.Rule.{Every}
use Rattle.ticket_lock.specs.Standing.{Lock, Standing, opening_in, seats_in, seats_of}
use Rattle.ticket_lock.specs.Calls.{Opens, new_standing}
use Rattle.ticket_lock.proofs.Dealt.{new_standings-own, length-new_standings}
use Rattle.sched_desk.specs.declared.event.Event.{Event}
use Rattle.sched_desk.specs.Desk.{FixedDesk, fixed_of, events_of, empty_desk}
use Rattle.sched_desk.specs.Closed.{ClosesTo}
use Rattle.sched_storm.specs.declared.gather.Gathered.{Gathered}
use Rattle.sched_storm.specs.declared.tally.StormFault.{StormFault}
use Rattle.sched_storm.specs.declared.tally.Tally.{Tally}
use Rattle.sched_storm.specs.declared.worker.Worked.{Worked}
use Rattle.sched_storm.specs.Work.{HasWorked}
use Rattle.sched_storm.specs.Jobs.{EachOf, IsGathered, calls_each}
use Rattle.sched_storm.specs.Storm.{IsTally, IsGatedTally, Tells}
use Rattle.sched_storm.specs.declared.tally.StormFault.TheVariants.{Threads, Memory}
use Rattle.sched_storm.proofs.TallyLaws.{each_own, each_length, lacks_thread, Counted, counted}

-- the seats of a lock that was opened round an empty desk
module _ (c : Config) (workers : ℕ) (lock : Lock FixedDesk Event) (seats : List (Standing FixedDesk Event))
    (press : Book) (opened : Opens fixed_of events_of (empty_desk c press true) workers 0 lock seats) where
  -- they are of this lock
  pub opened_own : Every (λ s. s.lock ≡ lock) seats
  opened_own =
      subst (Every (λ s. s.lock ≡ lock)) (sym opened.seats_are) (new_standings-own lock (range_with_len 0 workers))

  -- there are so many
  pub opened_length : length seats ≡ workers
  opened_length = ap length opened.seats_are ∙ length-new_standings lock 0 workers

  -- and so many has the lock
  opened_count : seats_of lock ≡ workers
  opened_count = ap seats_in opened.about_is

  module _ (passes holds : ℕ → ℕ → Type 0) (lacks : Type 0) (given : Vec (Vec Call))
      (count : workers ≡ vec_len given) (g : Gathered)
      (made : IsGathered passes holds lacks c seats (calls_each given.items) g) where
    -- the scripts
    abbrev scripts : List (List Call)
    scripts = calls_each given.items

    -- there is one for each worker
    long : length scripts ≡ workers
    long = length-map given.items (λ (v : Vec Call). v.items) ∙ sym given.ok.0 ∙ sym count

    -- the seats that came back are of the lock
    pub gathered_own : Every (λ s. s.lock ≡ lock) g.seats.items
    gathered_own =
        subst (Every (λ s. s.lock ≡ lock)) (sym made.all.seats_are)
        (each_own passes holds lacks c lock seats scripts made.done opened_own made.each)

    -- where a missing thread is told, one was not started
    pub told_thread : (r : Result Tally StormFault)
        → IfErr r (λ fault. ((fault ≡ Threads) × (g.stopped ≡ true)) ⊎ ((fault ≡ Memory) × (g.stopped ≡ false)))
        → IsErrOf r Threads → lacks
    told_thread r why is =
        elim (subst (λ x. IfErr x (λ fault. ((fault ≡ Threads) × (g.stopped ≡ true))
        ⊎ ((fault ≡ Memory) × (g.stopped ≡ false)))) is why) [
          | inl stopped ↦ lacks_thread passes holds lacks c seats scripts made.done made.each
              (sym made.all.stopped_is ∙ stopped.1)
          | inr other ↦ absurd (let contra : Threads ≡ Memory = other.0 in cc)
        ]

    -- all of them came back
    pub gathered_all : length g.seats.items ≡ seats_of lock
    gathered_all =
        ap length made.all.seats_are
        ∙ length-map made.done (λ (w : Worked). w.seat)
        ∙ each_length passes holds lacks c seats scripts made.done made.each
        ∙ long
        ∙ sym opened_count

    -- what the workers made, with the new seats of the lock
    with_new : EachOf (λ s script w. HasWorked passes holds lacks c s script w.seat w.unrecorded w.ended)
        (map (new_standing lock) (range_with_len 0 (length scripts))) scripts made.done
    with_new =
        subst (λ l. EachOf (λ s script w. HasWorked passes holds lacks c s script w.seat w.unrecorded w.ended) l scripts
        made.done)
        (opened.seats_are ∙ ap (λ n. map (new_standing lock) (range_with_len 0 n)) (sym long)) made.each

    -- their tally
    is_gated : (t : Tally) → g.stopped ≡ false → Tells c lock g t → IsGatedTally passes holds c scripts t
    is_gated t going tells =
        let h = t.history.items in
        let closed : ClosesTo c lock (map (λ (w : Worked). w.seat) made.done) h 0 t.counts =
        subst (λ l. ClosesTo c lock l h 0 t.counts) made.all.seats_are tells.closed in
        let counts : Counted passes holds lacks c lock (ap opening_in opened.about_is) h 0 scripts made.done =
        counted passes holds lacks c lock (ap opening_in opened.about_is) h 0 scripts made.done
        (sym made.all.stopped_is ∙ going) with_new closed.own_are closed.begins in
        record {
          tally = record {
            lock = lock;
            deeds = counts.deeds;
            scripts_are = counts.scripts_are;
            numbers_are = counts.numbers_are;
            own = counts.own;
            count_is = opened_count ∙ sym long;
            closed = subst (λ l. ClosesTo c lock l h 0 t.counts) counts.seats_are closed;
            each = counts.each;
            unrecorded_is = tells.unrecorded_is ∙ made.all.unrecorded_is ∙ counts.unrecorded_is;
            maps_is = tells.maps_is;
            newest_is = tells.newest_is;
            legal_is = tells.legal_is;
            held_is = tells.held_is ∙ made.all.held_is ∙ counts.held_is;
          };
          gated = counts.gated;
        }

    module _ (config : Config) (same : config ≡ c) where
      -- where there is a tally, it is theirs
      pub is_gated_tally : (r : Result Tally StormFault) → IfOk r (Tells config lock g) → OnOk r (g.stopped ≡ false)
          → IfOk r (IsGatedTally passes holds c (calls_each given.items))
      is_gated_tally (Ok t) tells going = is_gated t going (subst (λ x. Tells x lock g t) same tells)
      is_gated_tally (Err fault) tells going = tt

      -- whatever their gate is
      pub is_tally : (r : Result Tally StormFault) → IfOk r (Tells config lock g) → OnOk r (g.stopped ≡ false)
          → IfOk r (IsTally c (calls_each given.items))
      is_tally (Ok t) tells going = (is_gated t going (subst (λ x. Tells x lock g t) same tells)).tally
      is_tally (Err fault) tells going = tt

-- an audit of a closed history finds it legal
pub legal_tally : (c : Config) (lock : Lock FixedDesk Event) (g : Gathered) (r : Result Tally StormFault)
    → IfOk r (Tells c lock g) → IfOk r (λ t. t.legal ≡ true)
legal_tally c lock g (Ok t) tells = tells.legal_is.1 tells.closed.legal
legal_tally c lock g (Err fault) tells = tt
