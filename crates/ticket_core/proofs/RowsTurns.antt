-- Worked rows of a lock with two seats: each step with the world after it, and the words of its row.
use Rattle.std.proofs.Common.{◌≡◌, ℕ, ◌+◌, ◌^◌, [], ◌∷◌, Some, None, refl}
use Rattle.ticket_core.specs.declared.SeatState.{SeatState}
use Rattle.ticket_core.specs.declared.SeatState.TheVariants.{Idle, Waiting, Holding}
use Rattle.ticket_core.specs.declared.Step.TheVariants.{Draw, Look, Enter, Leave}
use Rattle.ticket_core.specs.LockWorld.{LockWorld, opened_world, world_after}
use Rattle.ticket_core.specs.World.{words_of}
use Rattle.ticket_core.specs.Grants.{grant_of}

-- the world of two seats in these states, with the ticket that is served and the next one
abbrev world : ℕ → ℕ → SeatState → SeatState → LockWorld
world served next zero one = record { served = served; next = next; seats = zero ∷ one ∷ [] }

-- of two idle seats none can enter, there is no third, and each can draw the first ticket
pub an_idle_seat_draws : (opened_world 2 5 ≡ world 5 5 Idle Idle)
    × (world_after (world 5 5 Idle Idle) 1 Enter ≡ None)
    × (world_after (world 5 5 Idle Idle) 2 Draw ≡ None)
    × (world_after (world 5 5 Idle Idle) 0 Draw ≡ Some (world 5 6 (Waiting 5) Idle))
an_idle_seat_draws = (refl, refl, refl, refl)

-- the seat whose ticket is served can neither draw nor look; it enters
pub the_first_ticket_enters : (world_after (world 5 6 (Waiting 5) Idle) 0 Draw ≡ None)
    × (world_after (world 5 6 (Waiting 5) Idle) 0 Look ≡ None)
    × (world_after (world 5 6 (Waiting 5) Idle) 0 Enter ≡ Some (world 5 6 (Holding 5) Idle))
the_first_ticket_enters = (refl, refl, refl)

-- the second seat draws the next ticket, looks in vain, and can neither enter nor leave
pub the_second_ticket_waits : (world_after (world 5 6 (Holding 5) Idle) 1 Draw
    ≡ Some (world 5 7 (Holding 5) (Waiting 6)))
    × (world_after (world 5 7 (Holding 5) (Waiting 6)) 1 Look ≡ Some (world 5 7 (Holding 5) (Waiting 6)))
    × (world_after (world 5 7 (Holding 5) (Waiting 6)) 1 Enter ≡ None)
    × (world_after (world 5 7 (Holding 5) (Waiting 6)) 1 Leave ≡ None)
the_second_ticket_waits = (refl, refl, refl, refl)

-- once the first has left it enters, and looks no more
pub the_second_ticket_enters : (world_after (world 5 7 (Holding 5) (Waiting 6)) 0 Leave
    ≡ Some (world 6 7 Idle (Waiting 6)))
    × (world_after (world 6 7 Idle (Waiting 6)) 1 Look ≡ None)
    × (world_after (world 6 7 Idle (Waiting 6)) 1 Enter ≡ Some (world 6 7 Idle (Holding 6)))
the_second_ticket_enters = (refl, refl, refl)

-- the greatest number of a word
abbrev last : ℕ
last = 18446744073709551615

-- behind the greatest number of a word comes the ticket that is shown as 0: its seat looks, and enters in its turn
pub tickets_go_on_past_the_greatest_word : (world_after (world last last Idle Idle) 0 Draw
    ≡ Some (world last (2 ^ 64) (Waiting last) Idle))
    × (world_after (world last (2 ^ 64) (Waiting last) Idle) 1 Draw
    ≡ Some (world last (2 ^ 64 + 1) (Waiting last) (Waiting (2 ^ 64))))
    × ((words_of (world last (2 ^ 64 + 1) (Waiting last) (Waiting (2 ^ 64)))).shown ≡ Waiting last ∷ Waiting 0 ∷ [])
    × (world_after (world last (2 ^ 64 + 1) (Waiting last) (Waiting (2 ^ 64))) 1 Look
    ≡ Some (world last (2 ^ 64 + 1) (Waiting last) (Waiting (2 ^ 64))))
    × (world_after (world last (2 ^ 64 + 1) (Waiting last) (Waiting (2 ^ 64))) 1 Enter ≡ None)
    × (world_after (world (2 ^ 64) (2 ^ 64 + 1) Idle (Waiting (2 ^ 64))) 1 Enter
    ≡ Some (world (2 ^ 64) (2 ^ 64 + 1) Idle (Holding (2 ^ 64))))
tickets_go_on_past_the_greatest_word = (refl, refl, refl, refl, refl, refl)

-- the words of a row that serves ticket 0, and of index 1 once ticket 1 is served
pub words_from_0 : (grant_of 0 0 ≡ 0) × (grant_of 0 1 ≡ 18446744073709551553) × (grant_of 0 63 ≡ last)
    × (grant_of 1 0 ≡ 0) × (grant_of 1 1 ≡ 1)
words_from_0 = (refl, refl, refl, refl, refl)

-- the words of a row that serves the greatest number of a word, and of index 0 once the next is served
pub words_from_the_last : (grant_of last 63 ≡ last) × (grant_of last 0 ≡ 18446744073709551552)
    × (grant_of (2 ^ 64) 0 ≡ 0) × (grant_of (2 ^ 64) 63 ≡ last)
words_from_the_last = (refl, refl, refl, refl)
