-- What a waiting seat finds in its word of the row of grants.
use Rattle.std.proofs.Common.{◌≡◌, ◌≢◌, ℕ, ◌+◌, ◌%◌, ◌^◌, ◌<◌, ◌≤◌, length, map, arith, ap, ◌∙◌, sym}
use Rattle.std.proofs.lemmas.List.{length-map}
use Rattle.std.proofs.lemmas.List.Sums.{count_by-le-length}
use Rattle.ticket_core.specs.declared.SeatState.TheVariants.{Waiting}
use Rattle.ticket_core.specs.LockWorld.{LockWorld, state_of, ticket_of, has_ticket, HasTicket, IsLawful}
use Rattle.ticket_core.specs.World.{Words, shown_state, words_of}
use Rattle.ticket_core.specs.Grants.{grant_of, TellsTurns}

-- of two numbers fewer than 64 apart, the later one is in its word only if it is the earlier one
grant_of-own : (served t : ℕ) → served ≤ t → t < served + 64 → grant_of served (t % 64) ≡ t % 2 ^ 64 → t ≡ served
grant_of-own served t from near same = omega arith

-- the ticket served is in its word
pub grant_of-served : (served : ℕ) → grant_of served (served % 64) ≡ served % 2 ^ 64
grant_of-served served = omega arith

-- the words of other tickets stay when the next one is served
pub grant_of-other : (served i : ℕ) → i < 64 → i ≢ (served + 1) % 64 → grant_of (served + 1) i ≡ grant_of served i
grant_of-other served i below other = omega arith

-- a seat that waits finds its ticket in its word exactly where it is served
pub grant_of-tells : (w : LockWorld) → IsLawful w → length w.seats ≤ 64 → (seat ticket : ℕ)
    → state_of w seat ≡ Waiting ticket
    → (grant_of w.served (ticket % 64) ≡ ticket % 2 ^ 64 → ticket ≡ w.served)
    × (ticket ≡ w.served → grant_of w.served (ticket % 64) ≡ ticket % 2 ^ 64)
grant_of-tells w lawful few seat ticket waits =
    let has : HasTicket w seat ticket = ap ticket_of waits in
    let from : w.served ≤ ticket = lawful.from_served seat ticket has in
    let below : ticket < w.next = lawful.below_next seat ticket has in
    let near = count_by-le-length has_ticket w.seats in (
      grant_of-own w.served ticket from (omega (arith, lawful.counted, near)),
      (λ (e : ticket ≡ w.served). ap (λ (t : ℕ). grant_of w.served (t % 64)) e ∙ grant_of-served w.served
          ∙ ap (λ (t : ℕ). t % 2 ^ 64) (sym e)),
    )

-- the word that is the grant of each world that the words stand for tells turns
pub TellsTurns-grant : (words : Words) (index word : ℕ) → length words.shown ≤ 64
    → ((w : LockWorld) → words ≡ words_of w → word ≡ grant_of w.served index) → TellsTurns words index word
TellsTurns-grant words index word few is w seat ticket lawful stands waits own =
    let count : length (map shown_state w.seats) ≡ length w.seats = simp length-map in
    let same : length words.shown ≡ length w.seats = ap (λ (v : Words). length v.shown) stands ∙ count in
    let told = grant_of-tells w lawful (omega arith) seat ticket waits in
    let at : word ≡ grant_of w.served (ticket % 64) = is w stands ∙ ap (grant_of w.served) own in (
      (λ e. told.0 (sym at ∙ e)),
      (λ e. at ∙ told.1 e),
    )
