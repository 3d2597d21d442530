-- The room of flows for grants.
use Rattle.std.proofs.Common.{◌≡◌, ◌≢◌, refl, sym, ap, ◌∙◌, ℕ, zero, suc, ◌+◌, ◌<◌, ◌≤◌, Bool, true, false, cond}
use Rattle.std.proofs.Common.{◌==◌, List, [], ◌∷◌, map, find, length, get_or, set, Option, Some, None}
use Rattle.std.proofs.Common.{IsSome, option_map, Result, Ok, Err, OnOk, inl, inr, arith, get_or-set_other}
use Rattle.std.proofs.Common.{get_or-set_same}
use Rattle.std.specs.List.{AllByRecursion}
use Rattle.std.proofs.lemmas.Bool.{cases_eq}
use Rattle.std.proofs.lemmas.Bool.Decides.{nat_tests}
use Rattle.std.proofs.lemmas.List.Folds.{find-set, find_past}
use Rattle.flow_book.specs.declared.flow.Flow.{Flow}
use Rattle.flow_book.specs.Entry.{live, room_in}
use Rattle.flow_book.specs.Book.{IsLive, Room, KeepsRoom, room_of}
use Rattle.flow_book.proofs.Places.{StandsAt, find-map, flow_of-live, all-found}
use Rattle.flow_book.proofs.Admission.{room-found}

room-cond : (b : Bool) (r r' : Room) (o o' : Option Room) → r.grants ≤ r'.grants → room-found o ≤ room-found o'
    → room-found (cond b (Some r) o) ≤ room-found (cond b (Some r') o')
room-cond true r r' o o' here rest = here
room-cond false r r' o o' here rest = rest

-- no flow has less room where one has more
pub keeps-set : (flows : List Flow) (i : ℕ) (e d : Flow) → e.sid ≡ (get_or flows i d).sid
    → (room_in (get_or flows i d)).grants ≤ (room_in e).grants
    → KeepsRoom (map room_in flows) (map room_in (set flows i e))
keeps-set [] i e d same more sid = omega arith
keeps-set (f ∷ flows) zero e d same more sid =
    let here : e.sid ≡ f.sid = same in
    let rest : Option Room = find (λ r. r.sid == sid) (map room_in flows) in
    rw here (room-cond (f.sid == sid) (room_in f) (record { sid = f.sid; grants = (room_in e).grants }) rest rest more
    (omega arith))
keeps-set (f ∷ flows) (suc i) e d same more sid =
    room-cond (f.sid == sid) (room_in f) (room_in f) _ _ (omega arith) (keeps-set flows i e d same more sid)

-- the flows gone through have the room with one more
pub room-more : (flows : List Flow) (i n : ℕ) (e : Flow) → i < length flows
    → ((k : ℕ) (d : Flow) → k < i → n ≤ (room_in (get_or flows k d)).grants) → n ≤ (room_in e).grants
    → (k : ℕ) (d : Flow) → k < i + 1 → n ≤ (room_in (get_or (set flows i e) k d)).grants
room-more flows i n e within before here k d lt = elim (cases_eq k i) [
  | inl same ↦ rw (same, get_or-set_same) here
  | inr differ ↦ rw get_or-set_other (before k d (omega arith))
]

all-index : (flows : List Flow) (n : ℕ)
    → ((k : ℕ) (d : Flow) → k < length flows → n ≤ (room_in (get_or flows k d)).grants)
    → AllByRecursion (λ f. n ≤ (room_in f).grants) flows
all-index [] n all = tt
all-index (f ∷ flows) n all = (all 0 f (omega arith), all-index flows n (λ k d lt. all (suc k) d (omega arith)))

room-option : (n : ℕ) (o : Option Flow) → ((f : Flow) → o ≡ Some f → n ≤ (room_in f).grants)
    → IsSome (option_map live o) → n ≤ room-found (option_map room_in o)
room-option n None all found = absurd (cc)
room-option n (Some f) all found = all f refl

-- where each place has the room each live flow has it
pub room-live : (flows : List Flow) (n : ℕ)
    → ((k : ℕ) (d : Flow) → k < length flows → n ≤ (room_in (get_or flows k d)).grants) → (sid : ℕ)
    → IsLive sid (map live flows) → n ≤ room_of sid (map room_in flows)
room-live flows n all sid found =
    rw (find-map room_in (λ r. r.sid == sid) flows)
    (room-option n (find (λ f. f.sid == sid) flows) (λ f is. all-found (λ g. n ≤ (room_in g).grants)
    (λ g. g.sid == sid) flows f (all-index flows n all) is) (rw (flow_of-live sid flows) at found))

-- what follows from the answer in the case that all went well
pub on-ok : {T E P Q : Type 0} (r : Result T E) → (P → Q) → OnOk r P → OnOk r Q
on-ok (Ok x) step h = step h
on-ok (Err e) step h = tt

-- the room of the flow in its place
pub room-placed : (sid : ℕ) (items : List Flow) (i : ℕ) (f : Flow) → StandsAt sid items i f
    → room_of sid (map room_in items) ≡ (room_in f).grants
room-placed sid items i f is =
    ap room-found (find-map room_in (λ r. r.sid == sid) items ∙ ap (option_map room_in) is.fields)

-- and where another takes its place
pub room-replaced : (sid : ℕ) (items : List Flow) (i : ℕ) (e f : Flow) → StandsAt sid items i f → e.sid ≡ sid
    → room_of sid (map room_in (set items i e)) ≡ (room_in e).grants
room-replaced sid items i e f is same =
    let passes : (e.sid == sid) ≡ true = grind (arith, nat_tests) in
    ap room-found (find-map room_in (λ r. r.sid == sid) (set items i e)
    ∙ ap (option_map room_in) (find-set (λ (g : Flow). g.sid == sid) items i e is.first is.within passes))

-- the others have the room that they had
pub room-others : (sid : ℕ) (items : List Flow) (i : ℕ) (e f : Flow) → f ≡ get_or items i f → StandsAt sid items i f
    → e.sid ≡ sid → (other : ℕ) → other ≢ sid
    → room_of other (map room_in (set items i e)) ≡ room_of other (map room_in items)
room-others sid items i e f reads is same other differ =
    let fails : (e.sid == other) ≡ false = grind (arith, nat_tests) in
    let failed : (f.sid == other) ≡ false = let here : f.sid ≡ sid = is.here in grind (arith, nat_tests) in
    ap room-found (find-map room_in (λ r. r.sid == other) (set items i e)
    ∙ ap (option_map room_in)
    (find_past (λ (g : Flow). g.sid == other) items i e f (ap (λ (g : Flow). g.sid == other) (sym reads) ∙ failed)
    fails)
    ∙ sym (find-map room_in (λ r. r.sid == other) items))
