-- The words follow the world that they stand for: a step does to the words what it does to the world.
use Rattle.std.proofs.Common.{◌≡◌, ℕ, ◌+◌, ◌%◌, ◌^◌, ◌<◌, ◌≤◌, Bool, true, false, not}
use Rattle.std.proofs.Common.{cond, IsTrue, Option, Some, None, option_map, map}
use Rattle.std.proofs.Common.{length, get_or, set, ltb, eqb, refl, sym, ◌∙◌, ap, arith}
use Rattle.std.proofs.Math.Nat.{mod-add-mod}
use Rattle.std.proofs.Math.ListN.{get_or-map}
use Rattle.std.proofs.lemmas.Bool.Decides.{nat_tests}
use Rattle.std.proofs.lemmas.List.{map-set, length-map}
use Rattle.std.proofs.lemmas.List.Sums.{count_by-le-length}
use Rattle.std.proofs.lemmas.Option.{same_Some, none-some}
use Rattle.ticket_core.specs.declared.SeatState.{SeatState}
use Rattle.ticket_core.specs.declared.SeatState.TheVariants.{Idle, Waiting, Holding}
use Rattle.ticket_core.specs.declared.Step.{Step}
use Rattle.ticket_core.specs.declared.Step.TheVariants.{Draw, Look, Enter, Leave}
use Rattle.ticket_core.specs.LockWorld.{LockWorld, state_of, world_from, world_after}
use Rattle.ticket_core.specs.LockWorld.{ticket_of, has_ticket, HasTicket, IsLawful}
use Rattle.ticket_core.specs.World.{Words, shown_state, words_of, StandForLawful}
use Rattle.ticket_core.proofs.Lawful.{IsLawful-world_after}

-- two numbers less than 2^64 apart, with one residue, are one number
one_turn : (a b : ℕ) → a ≤ b → b < a + 2 ^ 64 → b % 2 ^ 64 ≡ a % 2 ^ 64 → b ≡ a
one_turn a b from below same = omega arith

-- what a step of a seat that shows this state does to the words
abbrev pub words_from : Words → ℕ → SeatState → Step → Option Words
words_from v seat Idle Draw =
    Some (record v { next = (v.next + 1) % 2 ^ 64; shown = set v.shown seat (Waiting v.next) })
words_from v seat Idle Look = None
words_from v seat Idle Enter = None
words_from v seat Idle Leave = None
words_from v seat (Waiting ticket) Draw = None
words_from v seat (Waiting ticket) Look = cond (eqb ticket v.serving) None (Some v)
words_from v seat (Waiting ticket) Enter =
    cond (eqb ticket v.serving) (Some (record v { shown = set v.shown seat (Holding ticket) })) None
words_from v seat (Waiting ticket) Leave = None
words_from v seat (Holding ticket) Draw = None
words_from v seat (Holding ticket) Look = None
words_from v seat (Holding ticket) Enter = None
words_from v seat (Holding ticket) Leave =
    Some (record v { serving = (v.serving + 1) % 2 ^ 64; shown = set v.shown seat Idle })

-- what a step of a seat does to the words
abbrev pub words_after : Words → ℕ → Step → Option Words
words_after v seat step =
    cond (ltb seat (length v.shown)) (words_from v seat (get_or v.shown seat Idle) step) None

module _ (w : LockWorld) (seat : ℕ) (lawful : IsLawful w) (few : length w.seats ≤ 64) where
  -- a ticket in flight that has the residue of the served one is the served one
  pub served_by_residue : (ticket : ℕ) → HasTicket w seat ticket
      → ticket % 2 ^ 64 ≡ w.served % 2 ^ 64 → ticket ≡ w.served
  served_by_residue ticket has same =
      let from = lawful.from_served seat ticket has in
      let below = lawful.below_next seat ticket has in
      let near = count_by-le-length has_ticket w.seats in
      one_turn w.served ticket from (omega (arith, lawful.counted, near)) same

  -- the word served tells whether a ticket in flight is served
  same_test : (ticket : ℕ) → HasTicket w seat ticket
      → eqb (ticket % 2 ^ 64) (w.served % 2 ^ 64) ≡ eqb ticket w.served
  same_test ticket has = let one = served_by_residue ticket has in grind (arith, nat_tests, one)

  -- a ticket in flight is the served one or a later one
  later_test : (ticket : ℕ) → HasTicket w seat ticket → ltb w.served ticket ≡ not (eqb ticket w.served)
  later_test ticket has = let from = lawful.from_served seat ticket has in grind (arith, nat_tests)

  -- from each state, a step does to the words what it does to the world
  words_from-words_of : (state : SeatState) (step : Step) → state_of w seat ≡ state
      → words_from (words_of w) seat (shown_state state) step
      ≡ option_map words_of (world_from w seat state step)
  words_from-words_of Idle Draw is =
      let next = mod-add-mod w.next (2 ^ 64) 1 in
      let shown = map-set shown_state w.seats seat (Waiting w.next) in
      ap Some (cc)
  words_from-words_of Idle Look is = refl
  words_from-words_of Idle Enter is = refl
  words_from-words_of Idle Leave is = refl
  words_from-words_of (Waiting ticket) Draw is = refl
  words_from-words_of (Waiting ticket) Look is =
      let has : HasTicket w seat ticket = ap ticket_of is in
      let told : Bool → Type 0 =
      λ b. cond b None (Some (words_of w)) ≡ option_map words_of (cond (not b) (Some w) None) in
      let each = elim (eqb ticket w.served) as told [ true ↦ refl | false ↦ refl ] in
      rw (same_test ticket has, later_test ticket has) each
  words_from-words_of (Waiting ticket) Enter is =
      let has : HasTicket w seat ticket = ap ticket_of is in
      let inside : LockWorld = record w { seats = set w.seats seat (Holding ticket) } in
      let held = set (map shown_state w.seats) seat (Holding (ticket % 2 ^ 64)) in
      let shown : Words = record (words_of w) { shown = held } in
      let same : shown ≡ words_of inside = let e = map-set shown_state w.seats seat (Holding ticket) in cc in
      let told : Bool → Type 0 =
      λ b. cond b (Some shown) None ≡ option_map words_of (cond b (Some inside) None) in
      rw (same_test ticket has) (elim (eqb ticket w.served) as told [ true ↦ ap Some same | false ↦ refl ])
  words_from-words_of (Waiting ticket) Leave is = refl
  words_from-words_of (Holding ticket) Draw is = refl
  words_from-words_of (Holding ticket) Look is = refl
  words_from-words_of (Holding ticket) Enter is = refl
  words_from-words_of (Holding ticket) Leave is =
      let serving = mod-add-mod w.served (2 ^ 64) 1 in
      let shown = map-set shown_state w.seats seat Idle in
      ap Some (cc)

  -- a step does to the words what it does to the world
  words_after-words_of : (step : Step)
      → words_after (words_of w) seat step ≡ option_map words_of (world_after w seat step)
  words_after-words_of step =
      let count : length (map shown_state w.seats) ≡ length w.seats = simp length-map in
      let shown : get_or (map shown_state w.seats) seat Idle ≡ shown_state (state_of w seat) =
      get_or-map shown_state w.seats seat Idle in
      let inside = words_from (words_of w) seat (shown_state (state_of w seat)) step in
      let after = world_from w seat (state_of w seat) step in
      let told : Bool → Type 0 = λ b. cond b inside None ≡ option_map words_of (cond b after None) in
      let each = words_from-words_of (state_of w seat) step refl in
      rw (count, shown) (elim (ltb seat (length w.seats)) as told [ true ↦ each | false ↦ refl ])

module _ (old : Words) (seat : ℕ) (step : Step) (few : length old.shown ≤ 64) where
  -- the words after a step, by the world that they stand for
  words_after-stands : (w : LockWorld) → IsLawful w → old ≡ words_of w
      → words_after old seat step ≡ option_map words_of (world_after w seat step)
  words_after-stands w lawful stands =
      let count : length (map shown_state w.seats) ≡ length w.seats = simp length-map in
      let same : length old.shown ≡ length w.seats = ap (λ (v : Words). length v.shown) stands ∙ count in
      ap (λ (v : Words). words_after v seat step) stands
      ∙ words_after-words_of w seat lawful (omega arith) step

  -- where both take the step, the words after it stand for the world after it
  stands_after : (new : Words) (w after : LockWorld) → IsLawful w → old ≡ words_of w
      → words_after old seat step ≡ Some new → world_after w seat step ≡ Some after → new ≡ words_of after
  stands_after new w after lawful stands moved taken =
      same_Some new (words_of after)
      (sym moved ∙ words_after-stands w lawful stands ∙ ap (option_map words_of) taken)

  -- where the words take the step, so does the world
  only_taken : (new : Words) (w : LockWorld) → IsLawful w → old ≡ words_of w
      → words_after old seat step ≡ Some new → world_after w seat step ≡ None → ⊥
  only_taken new w lawful stands moved passed =
      none-some new (sym (ap (option_map words_of) passed) ∙ sym (words_after-stands w lawful stands) ∙ moved)

  -- where the words do not take the step, the world does not
  only_passed : (w after : LockWorld) → IsLawful w → old ≡ words_of w
      → words_after old seat step ≡ None → world_after w seat step ≡ Some after → ⊥
  only_passed w after lawful stands stayed taken =
      none-some (words_of after)
      (sym stayed ∙ words_after-stands w lawful stands ∙ ap (option_map words_of) taken)

-- the words after a step that is taken: they stand for the world after it, and there is one
pub record Moves (old new : Words) (seat : ℕ) (step : Step) : Type 0 where
  pub taken : (w after : LockWorld) → IsLawful w → old ≡ words_of w
      → world_after w seat step ≡ Some after → IsTrue true × (new ≡ words_of after)
  pub never_passed : (w : LockWorld) → IsLawful w → old ≡ words_of w → world_after w seat step ≡ None → ⊥
  pub lawful : StandForLawful new

-- where the words take the step, the world does
pub Moves-from : (old new : Words) (seat : ℕ) (step : Step) → length old.shown ≤ 64 → StandForLawful old
    → words_after old seat step ≡ Some new → Moves old new seat step
Moves-from old new seat step few before moved =
    let stood = before.world in
    let never : (w : LockWorld) → IsLawful w → old ≡ words_of w → world_after w seat step ≡ None → ⊥ =
    λ w lawful stands. only_taken old seat step few new w lawful stands moved in
    let told : Option LockWorld → Type 0 = λ o. world_after stood seat step ≡ o → StandForLawful new in
    let some : (after : LockWorld) → told (Some after) = λ after taken. record {
      world = after;
      lawful = IsLawful-world_after stood after seat step before.lawful taken;
      stands = stands_after old seat step few new stood after before.lawful before.stands moved taken;
    } in
    record {
      taken = λ w after lawful stands taken.
          (refl, stands_after old seat step few new w after lawful stands moved taken);
      never_passed = never;
      lawful = (elim (world_after stood seat step) as told [
        | None ↦ λ p. absurd (never stood before.lawful before.stands p)
        | Some after ↦ some after
      ]) refl;
    }

-- a look tells by the word served whether the world takes it, and changes nothing
pub record Looks (old : Words) (is_served : Bool) (seat : ℕ) (step : Step) : Type 0 where
  pub taken : (w after : LockWorld) → IsLawful w → old ≡ words_of w
      → world_after w seat step ≡ Some after → IsTrue (not is_served) × (old ≡ words_of after)
  pub passed : (w : LockWorld) → IsLawful w → old ≡ words_of w
      → world_after w seat step ≡ None → (not is_served ≡ false) × (old ≡ old)

-- where the words take the look by this test, the world does
pub Looks-from : (old : Words) (is_served : Bool) (seat : ℕ) (step : Step) → length old.shown ≤ 64
    → words_after old seat step ≡ cond is_served None (Some old) → Looks old is_served seat step
Looks-from old true seat step few told = record {
  taken = λ w after lawful stands taken.
      absurd (only_passed old seat step few w after lawful stands told taken);
  passed = λ w lawful stands passed. (refl, refl);
}
Looks-from old false seat step few told = record {
  taken = λ w after lawful stands taken.
      (refl, stands_after old seat step few old w after lawful stands told taken);
  passed = λ w lawful stands passed. absurd (only_taken old seat step few old w lawful stands told passed);
}
