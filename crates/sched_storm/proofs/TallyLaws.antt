-- The tally of a storm, from what its workers gave back and the history at the close.
use Rattle.std.proofs.Common.{◌≡◌, ◌<◌, ◌+◌, ◌||◌, ℕ, suc, Bool, true, false, cond, List, [], ◌∷◌, map, length}
use Rattle.std.proofs.Common.{Some, None, refl, sym, ap, ◌∙◌, subst, arith}
use Rattle.std.specs.Prelude.{nat_lt, sum_by}
use Rattle.std.specs.List.{range_with_len}
use Rattle.std.proofs.lemmas.Bool.{lt-ltb}
use Rattle.std.proofs.lemmas.Bool.Decides.{nat_tests}
use Rattle.std.proofs.lemmas.List.Sums.{sum_by-cons}
use mathlib.Core.List.{IsPrefix}
use Rattle.minislots.specs.declared.config.Config.{Config}
use Rattle.sched_calls.specs.declared.call.Call.{Call}
use Rattle.sched_calls.specs.declared.reply.Entry.{Entry}
use Rattle.ticket_lock.specs.Rule.{Every}
use Rattle.ticket_lock.specs.Standing.{Lock, Standing, opening_of}
use Rattle.ticket_lock.specs.Calls.{new_standing}
use Rattle.sched_desk.specs.declared.event.Event.{Event}
use Rattle.sched_desk.specs.Desk.{FixedDesk, history_seen, own_entries}
use Rattle.sched_desk.specs.Closed.{entries_of}
use Rattle.sched_storm.specs.declared.worker.Ended.{Ended}
use Rattle.sched_storm.specs.declared.worker.Ended.TheVariants.{Done, Held, Stopped}
use Rattle.sched_storm.specs.declared.worker.Worked.{Worked}
use Rattle.sched_storm.specs.Made.{left_out_count, GrowsByOthers, Leads}
use Rattle.sched_storm.specs.Work.{EndsSo, HasWorked}
use Rattle.sched_storm.specs.Jobs.{EachOf, is_stopped, held_then, held_by, any_stopped, unrecorded_by}
use Rattle.sched_storm.specs.Storm.{Deed, HasMade, KeepsGate, held_of}
use Rattle.sched_storm.proofs.MadeLaws.{Leads-entries, Leads-longer}
use Rattle.sched_storm.proofs.SeatLaws.{seen_log, own_seen}

-- the first that was held stays the first
held_by-first : (first number : ℕ) (ws : List Worked) → held_by (Some first) number ws ≡ Some first
held_by-first first number [] = refl
held_by-first first number (w ∷ ws) = same w.ended ∙ held_by-first first (number + 1) ws
  where
    same : (ended : Ended)
        → held_by (held_then (Some first) number ended) (number + 1) ws ≡ held_by (Some first) (number + 1) ws
    same Done = refl
    same Held = refl
    same Stopped = refl

module _ (lacks held : Type 0) (made calls : ℕ) where
  -- a worker that was not stopped was held exactly where it made fewer calls than its script has
  held_by-next : (number seat : ℕ) (ended : Ended) (ws : List Worked) → seat ≡ number → is_stopped ended ≡ false
      → EndsSo lacks held made calls ended
      → held_by (held_then None number ended) (number + 1) ws
      ≡ cond (nat_lt made calls) (Some seat) (held_by None (number + 1) ws)
  held_by-next number seat Done ws same going ends =
      let all : nat_lt made calls ≡ false = grind (arith, nat_tests, ends) in
      sym (ap (λ b. cond b (Some seat) (held_by None (number + 1) ws)) all)
  held_by-next number seat Held ws same going ends =
      let fewer : nat_lt made calls ≡ true = lt-ltb made calls ends.0 in
      held_by-first number (number + 1) ws
      ∙ ap Some (sym same)
      ∙ sym (ap (λ b. cond b (Some seat) (held_by None (number + 1) ws)) fewer)
  held_by-next number seat Stopped ws same going ends = absurd (let contra : true ≡ false = going in cc)

  -- and then its gate did not let it pass
  held_back : (ended : Ended) → is_stopped ended ≡ false → EndsSo lacks held made calls ended → made < calls → held
  held_back Done going ends fewer = absurd (omega (arith, ends, fewer))
  held_back Held going ends fewer = ends.1
  held_back Stopped going ends fewer = absurd (let contra : true ≡ false = going in cc)

-- where none of some workers was stopped, the first was not
going_first : (a b : Bool) → (a || b) ≡ false → a ≡ false
going_first false b none = refl
going_first true b none = absurd (let contra : true ≡ false = none in cc)

-- nor the others
going_rest : (a b : Bool) → (a || b) ≡ false → b ≡ false
going_rest false b none = none
going_rest true b none = absurd (let contra : true ≡ false = none in cc)

-- where one of some workers was stopped, it was the first or one of the others
stopped_first : (lacks held : Type 0) (made calls : ℕ) (ended : Ended) (others : Bool)
    → EndsSo lacks held made calls ended → (is_stopped ended || others) ≡ true → (others ≡ true → lacks) → lacks
stopped_first lacks held made calls Done others ends some rest = rest some
stopped_first lacks held made calls Held others ends some rest = rest some
stopped_first lacks held made calls Stopped others ends some rest = ends

module _ (passes holds : ℕ → ℕ → Type 0) (lacks : Type 0) (c : Config) where
  -- what a worker with this seat and this script makes
  abbrev Work : Standing FixedDesk Event → List Call → Worked → Type 0
  Work s script w = HasWorked passes holds lacks c s script w.seat w.unrecorded w.ended

  -- the workers gave back seats of the lock
  pub each_own : (lock : Lock FixedDesk Event) (seats : List (Standing FixedDesk Event)) (scripts : List (List Call))
      (done : List Worked) → Every (λ s. s.lock ≡ lock) seats → EachOf Work seats scripts done
      → Every (λ s. s.lock ≡ lock) (map (λ w. w.seat) done)
  each_own lock [] [] [] own kept = tt
  each_own lock [] [] (w ∷ ws) own kept = absurd kept
  each_own lock [] (script ∷ scripts) done own kept = absurd kept
  each_own lock (s ∷ seats) [] done own kept = absurd kept
  each_own lock (s ∷ seats) (script ∷ scripts) [] own kept = absurd kept
  each_own lock (s ∷ seats) (script ∷ scripts) (w ∷ ws) own kept =
      (kept.0.makes.lock_is ∙ own.0, each_own lock seats scripts ws own.1 kept.1)

  -- where one was stopped, a thread was not started
  pub lacks_thread : (seats : List (Standing FixedDesk Event)) (scripts : List (List Call)) (done : List Worked)
      → EachOf Work seats scripts done → any_stopped done ≡ true → lacks
  lacks_thread [] [] [] kept some = absurd (let contra : false ≡ true = some in cc)
  lacks_thread [] [] (w ∷ ws) kept some = absurd kept
  lacks_thread [] (script ∷ scripts) done kept some = absurd kept
  lacks_thread (s ∷ seats) [] done kept some = absurd kept
  lacks_thread (s ∷ seats) (script ∷ scripts) [] kept some = absurd kept
  lacks_thread (s ∷ seats) (script ∷ scripts) (w ∷ ws) kept some =
      stopped_first lacks (holds s.number (length kept.0.made)) (length kept.0.made) (length script) w.ended
      (any_stopped ws) kept.0.ends some (lacks_thread seats scripts ws kept.1)

  -- there is one for each script
  pub each_length : (seats : List (Standing FixedDesk Event)) (scripts : List (List Call)) (done : List Worked)
      → EachOf Work seats scripts done → length done ≡ length scripts
  each_length [] [] [] kept = refl
  each_length [] [] (w ∷ ws) kept = absurd kept
  each_length [] (script ∷ scripts) done kept = absurd kept
  each_length (s ∷ seats) [] done kept = absurd kept
  each_length (s ∷ seats) (script ∷ scripts) [] kept = absurd kept
  each_length (s ∷ seats) (script ∷ scripts) (w ∷ ws) kept = ap suc (each_length seats scripts ws kept.1)

  module _ (lock : Lock FixedDesk Event) (opening : opening_of lock ≡ []) (h : List Entry) where
    module _ (number : ℕ) (script : List Call) (w : Worked) (kept : Work (new_standing lock number) script w) where
      -- what it did
      abbrev deed_of : Deed
      deed_of = record { seat = w.seat; script = script; made = kept.made }

      -- its seat still has its number
      number_is : w.seat.number ≡ number
      number_is = kept.makes.number_is

      -- the history is what its seat has seen, and then entries of others
      grows_to : entries_of w.seat.number h ≡ own_entries w.seat → IsPrefix (history_seen w.seat) h
          → GrowsByOthers w.seat.number (history_seen w.seat) h
      grows_to own_are begins = record {
        begins = begins;
        same_own = own_are ∙ own_seen lock opening w.seat kept.makes.lock_is;
      }

      -- it did so, in a storm with this history
      has_made : entries_of w.seat.number h ≡ own_entries w.seat → IsPrefix (history_seen w.seat) h
          → HasMade c h deed_of
      has_made own_are begins =
          let n = w.seat.number in
          let from_none : Leads c n [] kept.made (history_seen w.seat) =
          subst (λ m. Leads c m [] kept.made (history_seen w.seat)) (sym number_is)
          (subst (λ l. Leads c number l kept.made (history_seen w.seat))
          (seen_log lock opening (new_standing lock number) refl) kept.makes.leads) in
          let leads = Leads-longer n c [] kept.made (history_seen w.seat) h (grows_to own_are begins) from_none in
          record {
            front = kept.front;
            turns = let turns = kept.makes.turns_is in omega (arith, turns);
            entries = Leads-entries n c [] kept.made h leads;
            leads = leads;
          }

      -- its gate let it pass as far, and no farther
      keeps_gate : is_stopped w.ended ≡ false → KeepsGate passes holds deed_of
      keeps_gate going =
          let made = length kept.made in
          record {
            passed = λ place below. subst (λ n. passes n place) (sym number_is) (kept.passed place below);
            held = λ fewer. subst (λ n. holds n made) (sym number_is)
                (held_back lacks (holds number made) made (length script) w.ended going kept.ends fewer);
          }

    -- what the workers did, as the history has it
    pub record Counted (number : ℕ) (scripts : List (List Call)) (done : List Worked) : Type 0 where
      pub deeds : List Deed
      pub scripts_are : map (λ d. d.script) deeds ≡ scripts
      pub numbers_are : map (λ d. d.seat.number) deeds ≡ range_with_len number (length scripts)
      pub seats_are : map (λ w. w.seat) done ≡ map (λ d. d.seat) deeds
      pub own : Every (λ d. d.seat.lock ≡ lock) deeds
      pub each : Every (HasMade c h) deeds
      pub gated : Every (KeepsGate passes holds) deeds
      pub unrecorded_is : unrecorded_by done ≡ sum_by (λ d. left_out_count d.made) deeds
      pub held_is : held_by None number done ≡ held_of deeds

    -- each worker made calls of its script, from what all gave back
    pub counted : (number : ℕ) (scripts : List (List Call)) (done : List Worked) → any_stopped done ≡ false
        → EachOf Work (map (new_standing lock) (range_with_len number (length scripts))) scripts done
        → Every (λ s. entries_of s.number h ≡ own_entries s) (map (λ w. w.seat) done)
        → Every (λ s. IsPrefix (history_seen s) h) (map (λ w. w.seat) done) → Counted number scripts done
    counted number [] [] going kept own_are begins = record {
      deeds = [];
      scripts_are = refl;
      numbers_are = refl;
      seats_are = refl;
      own = tt;
      each = tt;
      gated = tt;
      unrecorded_is = refl;
      held_is = refl;
    }
    counted number [] (w ∷ ws) going kept own_are begins = absurd kept
    counted number (script ∷ scripts) [] going kept own_are begins = absurd kept
    counted number (script ∷ scripts) (w ∷ ws) going kept own_are begins =
        let first = going_first (is_stopped w.ended) (any_stopped ws) going in
        let rest = counted (number + 1) scripts ws (going_rest (is_stopped w.ended) (any_stopped ws) going) kept.1
        own_are.1 begins.1 in
        let work = kept.0 in
        let deed = deed_of number script w work in
        let made = length work.made in
        record {
          deeds = deed ∷ rest.deeds;
          scripts_are = ap (λ l. script ∷ l) rest.scripts_are;
          numbers_are =
              ap (λ l. w.seat.number ∷ l) rest.numbers_are
              ∙ ap (λ n. n ∷ range_with_len (number + 1) (length scripts)) work.makes.number_is;
          seats_are = ap (λ l. w.seat ∷ l) rest.seats_are;
          own = (work.makes.lock_is, rest.own);
          each = (has_made number script w work own_are.0 begins.0, rest.each);
          gated = (keeps_gate number script w work first, rest.gated);
          unrecorded_is =
              sum_by-cons (λ (x : Worked). x.unrecorded) w ws
              ∙ ap (λ m. m + unrecorded_by ws) work.unrecorded_is
              ∙ ap (λ m. left_out_count work.made + m) rest.unrecorded_is
              ∙ sym (sum_by-cons (λ (d : Deed). left_out_count d.made) deed rest.deeds);
          held_is =
              held_by-next lacks (holds number made) made (length script) number w.seat.number w.ended ws
              work.makes.number_is first work.ends
              ∙ ap (λ o. cond (nat_lt made (length script)) (Some w.seat.number) o) rest.held_is;
        }
