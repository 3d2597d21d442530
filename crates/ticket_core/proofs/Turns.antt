-- Whatever the schedule, seats enter by turns, one at a time.
use Rattle.std.proofs.Common.{◌≡◌, ℕ, zero, suc, ◌+◌, ◌<◌, ◌≤◌, List, [], ◌∷◌, ◌++◌}
use Rattle.std.proofs.Common.{Option, Some, None, length, get_or, set, ltb, eqb, refl}
use Rattle.std.proofs.Common.{sym, ◌∙◌, ap, subst, ⊎_elim, arith, length-append}
use Rattle.std.specs.List.{range_with_len}
use Rattle.std.proofs.lemmas.Bool.Decides.{Decides-eqb}
use Rattle.std.proofs.lemmas.List.{get_or-set_same}
use Rattle.std.proofs.lemmas.Option.{same_Some, none-some, cond_some}
use Rattle.ticket_core.specs.declared.SeatState.{SeatState}
use Rattle.ticket_core.specs.declared.SeatState.TheVariants.{Idle, Waiting, Holding}
use Rattle.ticket_core.specs.declared.Step.{Step}
use Rattle.ticket_core.specs.declared.Step.TheVariants.{Draw, Look, Enter, Leave}
use Rattle.ticket_core.specs.LockWorld.{LockWorld, state_of, world_from, world_after}
use Rattle.ticket_core.specs.LockWorld.{ticket_of, HasTicket, Holds, IsLawful}
use Rattle.ticket_core.specs.Schedule.{Move, Run, opened_run, entry_of}
use Rattle.ticket_core.specs.Schedule.{run_into, run_after, run_all, KeepsTurns}
use Rattle.ticket_core.proofs.Seats.{get_or-set_cases}
use Rattle.ticket_core.proofs.Lawful.{HasTicket-holder, IsLawful-world_from, IsLawful-opened_world}
use Rattle.ticket_core.proofs.Lawful.{state_of-opened_world, world_after-taken}

-- nothing at the end leaves a list as it is
append-nil : (xs : List ℕ) → xs ++ [] ≡ xs
append-nil [] = refl
append-nil (x ∷ xs) = ap (λ (ys : List ℕ). x ∷ ys) (append-nil xs)

-- one number more at the end
range_with_len-more : (a n : ℕ) → range_with_len a (n + 1) ≡ range_with_len a n ++ (a + n) ∷ []
range_with_len-more a zero = ap (λ (k : ℕ). k ∷ []) (omega arith)
range_with_len-more a (suc n) =
    let count : suc n + 1 ≡ suc (n + 1) = omega arith in
    let last : a + 1 + n ≡ a + suc n = omega arith in
    let rest = range_with_len-more (a + 1) n ∙ ap (λ (k : ℕ). range_with_len (a + 1) n ++ k ∷ []) last in
    rw count (ap (λ (ks : List ℕ). a ∷ ks) rest)

-- in a lawful world one seat at most holds
pub one_holder : (w : LockWorld) → IsLawful w → (a b s t : ℕ) → Holds w a s → Holds w b t → a ≡ b
one_holder w lawful a b s t holds_a holds_b =
    let e : t ≡ s = lawful.served_holds b t holds_b ∙ sym (lawful.served_holds a s holds_a) in
    lawful.apart a b s (HasTicket-holder w a s holds_a) (HasTicket-holder w b t holds_b ∙ ap Some e)

-- in a lawful world the holder has the least ticket in flight
pub holder_is_least : (w : LockWorld) → IsLawful w → (a b s t : ℕ) → Holds w a s → HasTicket w b t → s ≤ t
holder_is_least w lawful a b s t holds has =
    let e : s ≡ w.served = lawful.served_holds a s holds in
    let from : w.served ≤ t = lawful.from_served b t has in
    omega arith

-- in a lawful world nobody holds while a seat waits with the served ticket
pub none_holds : (w : LockWorld) → IsLawful w → (seat own : ℕ)
    → state_of w seat ≡ Waiting own → own ≡ w.served → (other ticket : ℕ) → Holds w other ticket → ⊥
none_holds w lawful seat own waits is_served other ticket holds =
    let t : ticket ≡ own = lawful.served_holds other ticket holds ∙ sym is_served in
    let has : HasTicket w other own = HasTicket-holder w other ticket holds ∙ ap Some t in
    let e : other ≡ seat = lawful.apart other seat own has (ap ticket_of waits) in
    let same : Waiting own ≡ Holding ticket = sym waits ∙ ap (λ (i : ℕ). state_of w i) (sym e) ∙ holds in
    cc

-- the part of the law that is about the entries
record CountsEntries (first : ℕ) (run : Run) : Type 0 where
  entered_in_turn : run.entered ≡ range_with_len first (length run.entered)
  all_left : ((seat ticket : ℕ) → Holds run.world seat ticket → ⊥)
      → first + length run.entered ≡ run.world.served
  all_but_holder : (seat ticket : ℕ) → Holds run.world seat ticket
      → first + length run.entered ≡ run.world.served + 1

-- the rest of the law follows from a lawful world
KeepsTurns-from : (first : ℕ) (run : Run) → IsLawful run.world → CountsEntries first run
    → KeepsTurns first run
KeepsTurns-from first run lawful counts = record {
  lawful = lawful;
  one_holder = one_holder run.world lawful;
  holder_is_least = holder_is_least run.world lawful;
  entered_in_turn = counts.entered_in_turn;
  all_left = counts.all_left;
  all_but_holder = counts.all_but_holder;
}

module _ (first : ℕ) (run : Run) (turns : KeepsTurns first run) (seat : ℕ)
    (exists : seat < length run.world.seats) where
  -- what one seat does changes no holder where it neither held nor holds
  CountsEntries-same : (old new : SeatState) (after : LockWorld) → state_of run.world seat ≡ old
      → ((ticket : ℕ) → old ≡ Holding ticket → ⊥) → ((ticket : ℕ) → new ≡ Holding ticket → ⊥)
      → after.served ≡ run.world.served → after.seats ≡ set run.world.seats seat new
      → CountsEntries first (record { world = after; entered = run.entered })
  CountsEntries-same old new after is free stays_free same seats =
      let cases = get_or-set_cases run.world.seats seat new exists in
      let at : (other : ℕ) → state_of after other ≡ get_or (set run.world.seats seat new) other Idle =
      λ other. ap (λ (xs : List SeatState). get_or xs other Idle) seats in
      let before : (other ticket : ℕ) → Holds after other ticket → Holds run.world other ticket =
      λ other ticket holds. ⊎_elim
      (λ h. absurd (stays_free ticket (sym h.1 ∙ sym (at other) ∙ holds)))
      (λ h. sym h.1 ∙ sym (at other) ∙ holds)
      (cases other) in
      let still : (other ticket : ℕ) → Holds run.world other ticket → Holds after other ticket =
      λ other ticket holds. ⊎_elim
      (λ h. absurd (free ticket (sym is ∙ ap (λ (i : ℕ). state_of run.world i) (sym h.0) ∙ holds)))
      (λ h. at other ∙ h.1 ∙ holds)
      (cases other) in
      record {
        entered_in_turn = turns.entered_in_turn;
        all_left = λ nobody.
            turns.all_left (λ other ticket holds. nobody other ticket (still other ticket holds)) ∙ sym same;
        all_but_holder = λ other ticket holds.
            turns.all_but_holder other ticket (before other ticket holds) ∙ ap (λ (n : ℕ). n + 1) (sym same);
      }

  -- an entry adds the ticket that is served
  CountsEntries-enter : (own : ℕ) → state_of run.world seat ≡ Waiting own → own ≡ run.world.served
      → CountsEntries first (record {
        world = record run.world { seats = set run.world.seats seat (Holding own) };
        entered = run.entered ++ own ∷ [];
      })
  CountsEntries-enter own waits is_served =
      let so_far = turns.all_left (none_holds run.world turns.lawful seat own waits is_served) in
      let more : length (run.entered ++ own ∷ []) ≡ length run.entered + 1 =
      length-append run.entered (own ∷ []) in
      let last : own ≡ first + length run.entered = is_served ∙ sym so_far in
      let holds = get_or-set_same run.world.seats seat (Holding own) Idle exists in
      record {
        entered_in_turn = ap (λ (xs : List ℕ). xs ++ own ∷ []) turns.entered_in_turn
            ∙ ap (λ (k : ℕ). range_with_len first (length run.entered) ++ k ∷ []) last
            ∙ sym (range_with_len-more first (length run.entered))
            ∙ ap (λ (k : ℕ). range_with_len first k) (sym more);
        all_left = λ left. absurd (left seat own holds);
        all_but_holder = λ other ticket held. omega arith;
      }

  -- after a leave nobody holds
  CountsEntries-leave : (own : ℕ) → state_of run.world seat ≡ Holding own
      → CountsEntries first (record {
        world = record run.world { served = run.world.served + 1; seats = set run.world.seats seat Idle };
        entered = run.entered;
      })
  CountsEntries-leave own holds = record {
    entered_in_turn = turns.entered_in_turn;
    all_left = λ nobody. turns.all_but_holder seat own holds;
    all_but_holder = λ other ticket held. ⊎_elim
        (λ h. let idle : Idle ≡ Holding ticket = sym h.1 ∙ held in absurd (cc))
        (λ h. absurd (h.0 (turns.one_holder other seat ticket own (sym h.1 ∙ held) holds)))
        (get_or-set_cases run.world.seats seat Idle exists other);
  }

  -- the counts go with the world, where it is another one's
  CountsEntries-at : (entered : List ℕ) (w after : LockWorld) → w ≡ after
      → CountsEntries first (record { world = w; entered = entered })
      → CountsEntries first (record { world = after; entered = entered })
  CountsEntries-at entered w after same counts =
      subst (λ (v : LockWorld). CountsEntries first (record { world = v; entered = entered })) same counts

  -- a step from the seat's state counts its entry
  CountsEntries-world_from : (state : SeatState) (step : Step) (after : LockWorld)
      → state_of run.world seat ≡ state → world_from run.world seat state step ≡ Some after
      → CountsEntries first (record { world = after; entered = run.entered ++ entry_of state step })
  CountsEntries-world_from Idle Draw after is taken =
      let e = sym (same_Some _ after taken) in
      let served = ap (λ (w : LockWorld). w.served) e in
      let seats = ap (λ (w : LockWorld). w.seats) e in
      let waits : SeatState = Waiting run.world.next in
      let same = CountsEntries-same Idle waits after is (λ ticket holds. cc) (λ ticket holds. cc) served seats in
      rw append-nil same
  CountsEntries-world_from Idle Look after is taken = absurd (none-some after taken)
  CountsEntries-world_from Idle Enter after is taken = absurd (none-some after taken)
  CountsEntries-world_from Idle Leave after is taken = absurd (none-some after taken)
  CountsEntries-world_from (Waiting own) Draw after is taken = absurd (none-some after taken)
  CountsEntries-world_from (Waiting own) Look after is taken =
      let e = (cond_some (ltb run.world.served own) run.world after taken).1 in
      let same : CountsEntries first run = record {
        entered_in_turn = turns.entered_in_turn;
        all_left = turns.all_left;
        all_but_holder = turns.all_but_holder;
      } in
      rw append-nil (CountsEntries-at run.entered _ after e same)
  CountsEntries-world_from (Waiting own) Enter after is taken =
      let inside : LockWorld = record run.world { seats = set run.world.seats seat (Holding own) } in
      let t = cond_some (eqb own run.world.served) inside after taken in
      let counts = CountsEntries-enter own is ((Decides-eqb own run.world.served).0 t.0) in
      CountsEntries-at (run.entered ++ own ∷ []) inside after t.1 counts
  CountsEntries-world_from (Waiting own) Leave after is taken = absurd (none-some after taken)
  CountsEntries-world_from (Holding own) Draw after is taken = absurd (none-some after taken)
  CountsEntries-world_from (Holding own) Look after is taken = absurd (none-some after taken)
  CountsEntries-world_from (Holding own) Enter after is taken = absurd (none-some after taken)
  CountsEntries-world_from (Holding own) Leave after is taken =
      let e = same_Some _ after taken in
      let counts = CountsEntries-leave own is in
      rw append-nil (CountsEntries-at run.entered _ after e counts)

-- a move, taken or passed over, keeps the law
KeepsTurns-run_into : (first : ℕ) (run : Run) (move : Move) (o : Option LockWorld)
    → world_after run.world move.seat move.step ≡ o → KeepsTurns first run
    → KeepsTurns first (run_into run move o)
KeepsTurns-run_into first run move None passed turns = turns
KeepsTurns-run_into first run move (Some after) taken turns =
    let t = world_after-taken run.world after move.seat move.step taken in
    let state = state_of run.world move.seat in
    KeepsTurns-from first _
    (IsLawful-world_from run.world move.seat turns.lawful t.0 state move.step after refl t.1)
    (CountsEntries-world_from first run turns move.seat t.0 state move.step after refl t.1)

-- a lock just opened keeps the law: nobody has entered
pub KeepsTurns-opened_run : (seats first : ℕ) → KeepsTurns first (opened_run seats first)
KeepsTurns-opened_run seats first =
    KeepsTurns-from first (opened_run seats first) (IsLawful-opened_world seats first) (record {
      entered_in_turn = refl;
      all_left = λ nobody. omega arith;
      all_but_holder = λ seat ticket holds.
          let same : Idle ≡ Holding ticket = sym (state_of-opened_world seats first seat) ∙ holds in
          absurd (cc);
    })

-- a whole schedule keeps the law
pub KeepsTurns-run_all : (first : ℕ) (run : Run) (moves : List Move) → KeepsTurns first run
    → KeepsTurns first (run_all run moves)
KeepsTurns-run_all first run [] turns = turns
KeepsTurns-run_all first run (move ∷ moves) turns =
    let one = KeepsTurns-run_into first run move (world_after run.world move.seat move.step) refl turns in
    KeepsTurns-run_all first (run_after run move) moves one
