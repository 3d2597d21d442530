-- The calls of a worker, one after the other.
use Rattle.std.proofs.Common.{◌≡◌, ◌≤◌, ℕ, ◌+◌, ◌<◌, Bool, true, false, List, [], ◌∷◌, ◌++◌, length, get_or}
use Rattle.std.proofs.Common.{take, drop, refl, sym, ap, ◌∙◌, subst, cond, arith, length-append}
use borrow.Author.Count.{below_none, below_more}
use Rattle.std.proofs.lemmas.List.{length-take-le, length-map, take_more, take-append-drop}
use Rattle.minislots.specs.declared.config.Config.{Config}
use Rattle.sched_calls.specs.declared.call.Call.{Call}
use Rattle.ticket_lock.specs.Standing.{Standing}
use Rattle.sched_desk.specs.declared.event.Event.{Event}
use Rattle.sched_desk.specs.Desk.{FixedDesk, history_seen}
use Rattle.sched_storm.specs.declared.worker.Ended.{Ended}
use Rattle.sched_storm.specs.declared.worker.Ended.TheVariants.{Done, Held, Stopped}
use Rattle.sched_storm.specs.Made.{MadeCall, calls_made, left_out_count, Leads}
use Rattle.sched_storm.specs.Work.{Makes, MakesOne, Hinders, EndsSo, HasWorked}
use Rattle.sched_storm.proofs.MadeLaws.{calls_made-append, left_out_count-append, left_out_count-one}
use Rattle.sched_storm.proofs.MadeLaws.{left_out_count-le, GrowsByOthers-same, Leads-append}

-- no call
pub no_call : (c : Config) (s : Standing FixedDesk Event) → Makes c s s []
no_call c s = record {
  lock_is = refl;
  number_is = refl;
  turns_is = omega arith;
  leads = GrowsByOthers-same s.number (history_seen s);
}

-- some calls, and then more
pub Makes-append : (c : Config) (s w x : Standing FixedDesk Event) (made more : List MadeCall) → Makes c s w made
    → Makes c w x more → Makes c s x (made ++ more)
Makes-append c s w x made more first then = record {
  lock_is = then.lock_is ∙ first.lock_is;
  number_is = then.number_is ∙ first.number_is;
  turns_is =
      let so_far = first.turns_is in
      let since = then.turns_is in
      let both = length-append made more in
      omega (arith, so_far, since, both);
  leads = Leads-append s.number c (history_seen s) made more (history_seen w) (history_seen x) first.leads
      (subst (λ n. Leads c n (history_seen w) more (history_seen x)) first.number_is then.leads);
}

-- a worker with this seat has made the calls before this place of its script, each after its gate let it pass
pub record HasMadeSoFar (passes : ℕ → ℕ → Type 0) (c : Config) (s : Standing FixedDesk Event) (script : List Call)
    (place : ℕ) (w : Standing FixedDesk Event) (unrecorded : ℕ) : Type 0 where
  -- the calls that it made, each with what it was answered
  pub made : List MadeCall
  -- they lead its seat from the first state to the last
  pub makes : Makes c s w made
  -- they are the front of its script
  pub front : calls_made made ≡ take place script
  -- so many of them were not recorded
  pub unrecorded_is : unrecorded ≡ left_out_count made
  -- the gate let it pass before each
  pub passed : (k : ℕ) → k < place → passes s.number k

-- the count after a call: one more where it was not recorded
abbrev pub IsCountedTo : ℕ → Bool → ℕ → Type 0
IsCountedTo n recorded more = more ≡ n + cond recorded 0 1

module _ (passes : ℕ → ℕ → Type 0) (c : Config) (s : Standing FixedDesk Event) (script : List Call) where
  -- a worker that has made no call
  pub none_so_far : HasMadeSoFar passes c s script 0 s 0
  none_so_far = record {
    made = [];
    makes = no_call c s;
    front = refl;
    unrecorded_is = refl;
    passed = below_none (passes s.number);
  }

  module _ (place : ℕ) (w : Standing FixedDesk Event) (unrecorded : ℕ)
      (so_far : HasMadeSoFar passes c s script place w unrecorded) where
    -- so many calls
    length_is : place ≤ length script → length so_far.made ≡ place
    length_is within =
        sym (length-map so_far.made (λ (m : MadeCall). m.call))
        ∙ ap length so_far.front
        ∙ length-take-le place script within

    -- no more of them were left out than were made
    pub few_so_far : place ≤ length script → unrecorded ≤ place
    few_so_far within =
        let few = left_out_count-le so_far.made in
        let long = length_is within in
        let is = so_far.unrecorded_is in
        omega (arith, few, long, is)

    -- one call more
    pub HasMadeSoFar-push : (d : Call) (x : Standing FixedDesk Event) (recorded : Bool) (more : ℕ)
        → place < length script → MakesOne c w x (get_or script place d) recorded → IsCountedTo unrecorded recorded more
        → passes s.number place → HasMadeSoFar passes c s script (place + 1) x more
    HasMadeSoFar-push d x recorded more below one counted passed =
        let last : List MadeCall = one.made ∷ [] in
        record {
          made = so_far.made ++ last;
          makes = Makes-append c s w x so_far.made last so_far.makes one.makes;
          front =
              calls_made-append so_far.made last
              ∙ ap (λ (l : List Call). l ++ calls_made last) so_far.front
              ∙ ap (λ (call : Call). take place script ++ call ∷ []) one.call_is
              ∙ sym (take_more script place d below);
          unrecorded_is =
              counted
              ∙ ap (λ (n : ℕ). n + cond recorded 0 1) so_far.unrecorded_is
              ∙ ap (λ (n : ℕ). left_out_count so_far.made + n)
              (sym (ap (λ b. cond b 0 1) one.recorded_is) ∙ left_out_count-one one.made)
              ∙ sym (left_out_count-append so_far.made last);
          passed = below_more (passes s.number) place so_far.passed passed;
        }

    -- it ends at this place
    pub has_worked : (holds : ℕ → ℕ → Type 0) (lacks : Type 0) (ended : Ended) → place ≤ length script
        → EndsSo lacks (holds s.number place) place (length script) ended
        → HasWorked passes holds lacks c s script w unrecorded ended
    has_worked holds lacks ended within ends =
        let long = length_is within in
        record {
          made = so_far.made;
          makes = so_far.makes;
          front =
              (drop place script, ap (λ l. l ++ drop place script) so_far.front ∙ take-append-drop place script);
          unrecorded_is = so_far.unrecorded_is;
          passed = λ k below. so_far.passed k (subst (λ n. k < n) long below);
          ends = subst (λ n. EndsSo lacks (holds s.number n) n (length script) ended) (sym long) ends;
        }

-- a worker that was hindered before the end of its script
pub hindered : (lacks held : Type 0) (made calls : ℕ) (ended : Ended) → made < calls → Hinders lacks held ended
    → EndsSo lacks held made calls ended
hindered lacks held made calls Done below why = absurd why
hindered lacks held made calls Held below why = (below, why)
hindered lacks held made calls Stopped below why = why

-- a call that was not recorded is counted
pub counted-more : (n more : ℕ) (recorded : Bool) → recorded ≡ false → more ≡ n + 1 → IsCountedTo n recorded more
counted-more n more false e is = is
counted-more n more true e is = absurd (let contra : true ≡ false = e in cc)

-- and one that was is not
pub counted-same : (n more : ℕ) (recorded : Bool) → recorded ≡ true → more ≡ n → IsCountedTo n recorded more
counted-same n more true e is = omega (arith, is)
counted-same n more false e is = absurd (let contra : false ≡ true = e in cc)
