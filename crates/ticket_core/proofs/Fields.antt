-- What the fields of a `World` make of its words, when it is opened and by each step.
use Rattle.std.proofs.Common.{◌≡◌, ℕ, zero, suc, ◌+◌, ◌%◌, ◌^◌, ◌<◌, ◌≤◌, true, cond, List}
use Rattle.std.proofs.Common.{◌∷◌, Some, None, map, length, get_or, set, take, replicate}
use Rattle.std.proofs.Common.{ltb, eqb, refl, sym, ◌∙◌, ap, subst, arith, length-take}
use Rattle.std.proofs.Math.Seq.{take-set-lt}
use Rattle.std.proofs.lemmas.Bool.Decides.{nat_tests}
use Rattle.std.proofs.lemmas.List.{get_or-take, take-replicate}
use Rattle.ticket_core.specs.declared.SeatState.{SeatState}
use Rattle.ticket_core.specs.declared.SeatState.TheVariants.{Idle, Waiting, Holding}
use Rattle.ticket_core.specs.declared.Step.{Step}
use Rattle.ticket_core.specs.declared.Step.TheVariants.{Draw, Look, Enter, Leave}
use Rattle.ticket_core.specs.LockWorld.{opened_world}
use Rattle.ticket_core.specs.World.{Words, words_with, shown_state, words_of, StandForLawful}
use Rattle.ticket_core.proofs.Words.{words_from, words_after, Moves, Moves-from, Looks, Looks-from}

-- idle seats are shown as idle
map-shown_state_idle : (n : ℕ) → map shown_state (replicate n Idle) ≡ replicate n Idle
map-shown_state_idle zero = refl
map-shown_state_idle (suc n) = ap (λ (s : List SeatState). Idle ∷ s) (map-shown_state_idle n)

-- the words of a lock just opened are those of the opened world
pub words_with-opened : (seats first : ℕ) → seats ≤ 64 → first < 2 ^ 64
    → words_with first first seats (replicate 64 Idle) ≡ words_of (opened_world seats first)
words_with-opened seats first within fits =
    let shown : take seats (replicate 64 Idle) ≡ map shown_state (replicate seats Idle) =
    take-replicate seats 64 Idle within ∙ sym (map-shown_state_idle seats) in
    let word : first ≡ first % 2 ^ 64 = omega arith in
    cc

module _ (old : Words) (serving next seats : ℕ) (states : List SeatState)
    (view_is : words_with serving next seats states ≡ old)
    (invariant : (seats ≤ 64) × StandForLawful (words_with serving next seats states))
    (sized : length states ≡ 64) (seat : ℕ) (exists : seat < seats) (step : Step) where
  -- as many seats are shown as there are
  length_shown : length (take seats states) ≡ seats
  length_shown = let within = invariant.0 in simp length-take (omega arith)

  -- at most 64 seats are shown
  few : length old.shown ≤ 64
  few = omega (arith, invariant.0, sym (ap (λ (v : Words). length v.shown) view_is) ∙ length_shown)

  -- a step of a seat is one from the state that is read
  read : (state : SeatState) → get_or states seat Idle ≡ state
      → words_after old seat step ≡ words_from (words_with serving next seats states) seat state step
  read state is =
      let test : ltb seat (length (take seats states)) ≡ true = grind (arith, nat_tests, length_shown) in
      let shown : get_or (take seats states) seat Idle ≡ state =
      get_or-take seats states seat Idle exists ∙ is in
      ap (λ (v : Words). words_after v seat step) (sym view_is) ∙ rw (test, shown)

  -- where the step writes these words and this state, it is taken
  moved : (serving' next' : ℕ) (state : SeatState)
      → words_after old seat step
      ≡ Some (record { serving = serving'; next = next'; shown = set (take seats states) seat state })
      → Moves old (words_with serving' next' seats (set states seat state)) seat step
  moved serving' next' state told =
      let written = sym (take-set-lt seats states seat state exists) in
      let words = λ (s : List SeatState). Some (record { serving = serving'; next = next'; shown = s }) in
      Moves-from old _ seat step few (subst StandForLawful view_is invariant.1) (told ∙ ap words written)

  -- an idle seat draws
  pub drawn : get_or states seat Idle ≡ Idle → step ≡ Draw
      → Moves old (words_with serving ((next + 1) % 2 ^ 64) seats (set states seat (Waiting next))) seat step
  drawn is draws = moved _ _ (Waiting next) (read Idle is ∙ rw draws)

  -- a waiting seat looks, unless its ticket is the word served
  pub looked : (ticket : ℕ) → get_or states seat Idle ≡ Waiting ticket → step ≡ Look
      → Looks old (eqb ticket serving) seat step
  looked ticket is looks =
      let told = ap (λ (v : Words). cond (eqb ticket serving) None (Some v)) view_is in
      Looks-from old (eqb ticket serving) seat step few (read (Waiting ticket) is ∙ rw looks told)

  -- a waiting seat enters, if its ticket is the word served
  pub entered : (ticket : ℕ) → get_or states seat Idle ≡ Waiting ticket → step ≡ Enter → ticket ≡ serving
      → Moves old (words_with serving next seats (set states seat (Holding ticket))) seat step
  entered ticket is enters same =
      let test : eqb ticket serving ≡ true = grind (arith, nat_tests) in
      moved _ _ (Holding ticket) (read (Waiting ticket) is ∙ rw (enters, test))

  -- the holder leaves
  pub left : (ticket : ℕ) → get_or states seat Idle ≡ Holding ticket → step ≡ Leave
      → Moves old (words_with ((serving + 1) % 2 ^ 64) next seats (set states seat Idle)) seat step
  left ticket is leaves = moved _ _ Idle (read (Holding ticket) is ∙ rw leaves)
