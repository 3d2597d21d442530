-- The first place that may be met: what is met, whatever the offsets, waits, is met once, and has room.
use Rattle.std.proofs.Common.{◌≡◌, ℕ, zero, suc, ◌+◌, ◌≤◌, Bool, true, false, not, ◌&&◌, nat_le, List}
use Rattle.std.proofs.Common.{[], ◌∷◌, ◌++◌, map, Option, None, Some, slice_get, refl, sym}
use Rattle.std.proofs.Common.{ap, ◌∙◌, subst, arith}
use Rattle.std.specs.Option.{option_to_list}
use Rattle.std.proofs.lemmas.Bool.{cond_both}
use Rattle.std.proofs.lemmas.Bool.Decides.{nat_tests}
use Rattle.std.proofs.lemmas.List.{append-nil}
use Rattle.minislots.specs.declared.config.Config.{Config}
use Rattle.periodic.specs.declared.placement.Spot.{Spot}
use Rattle.sched_calls.specs.declared.opportunity.Opportunity.{Opportunity}
use Rattle.map_build.specs.EachAfter.{EachAfter}
use Rattle.map_build.specs.Plan.{room_at}
use Rattle.map_build.specs.declared.met.Met.{Met}
use Rattle.map_build.specs.Reading.{met_from, meets_place, first_to_meet, met_at, met_over, IsMetBehind}
use Rattle.map_build.proofs.EachAfterLaws.{EachAfter-push}

may-be : (a b : Bool) → a ≡ true → b ≡ false → (a && not b) ≡ true
may-be true false fits unmet = refl
may-be true true fits unmet = absurd (cc)
may-be false b fits unmet = absurd (cc)

both-of : (a b : Bool) → (a && not b) ≡ true → (a ≡ true) × (b ≡ false)
both-of true false is = (refl, refl)
both-of true true is = absurd (cc)
both-of false b is = absurd (cc)

long-enough : (m n : ℕ) → m ≤ n → nat_le m n ≡ true
long-enough m n le = grind (arith, nat_tests)

within : (m n : ℕ) → nat_le m n ≡ true → m ≤ n
within m n is = grind (arith, nat_tests)

-- an opportunity that may be met in this room, at a place of a list whose first has another place
abbrev pub MayMeetAt : List Met → ℕ → ℕ → List Opportunity → ℕ → Opportunity → Type 0
MayMeetAt met room place waiting k o =
    (slice_get waiting k ≡ Some o) × (meets_place met (place + k) ≡ false) × (o.slots ≤ room)

module _ (met : List Met) (room : ℕ) where
  later-one : (place k : ℕ) (w : Opportunity) (waiting : List Opportunity) (o : Opportunity)
      → MayMeetAt met room (place + 1) waiting k o → MayMeetAt met room place (w ∷ waiting) (suc k) o
  later-one place k w waiting o may =
      let same : place + 1 + k ≡ place + suc k = omega arith in
      (may.0, ap (meets_place met) (sym same) ∙ may.1, may.2)

  earlier-one : (place k : ℕ) (w : Opportunity) (waiting : List Opportunity) (o : Opportunity)
      → MayMeetAt met room place (w ∷ waiting) (suc k) o → MayMeetAt met room (place + 1) waiting k o
  earlier-one place k w waiting o may =
      let same : place + 1 + k ≡ place + suc k = omega arith in
      (may.0, ap (meets_place met) same ∙ may.1, may.2)

  first-here : (place : ℕ) (w : Opportunity) (waiting : List Opportunity)
      → (nat_le w.slots room && not (meets_place met place)) ≡ true → MayMeetAt met room place (w ∷ waiting) 0 w
  first-here place w waiting is =
      let parts = both-of (nat_le w.slots room) (meets_place met place) is in
      let same : place + 0 ≡ place = omega arith in
      (refl, ap (meets_place met) same ∙ parts.1, within w.slots room parts.0)

  here-first : (place : ℕ) (w : Opportunity) (waiting : List Opportunity) (o : Opportunity)
      → MayMeetAt met room place (w ∷ waiting) 0 o → (nat_le w.slots room && not (meets_place met place)) ≡ true
  here-first place w waiting o may =
      let same : place ≡ place + 0 = omega arith in
      let it : w ≡ o = let is = may.0 in cc in
      may-be (nat_le w.slots room) (meets_place met place)
      (long-enough w.slots room (subst (λ (p : Opportunity). p.slots ≤ room) (sym it) may.2))
      (ap (meets_place met) same ∙ may.1)

  -- where one may be met and none before it, it is the first
  pub first_to_meet-found : (place : ℕ) (waiting : List Opportunity) (k : ℕ) (o : Opportunity)
      → MayMeetAt met room place waiting k o
      → ((j : ℕ) (p : Opportunity) → MayMeetAt met room place waiting j p → k ≤ j)
      → first_to_meet met room place waiting ≡ Some (place + k)
  first_to_meet-found place [] k o may first = absurd (let none = may.0 in cc)
  first_to_meet-found place (w ∷ waiting) zero o may first =
      let same : place ≡ place + 0 = omega arith in
      rw (here-first place w waiting o may) (ap Some same)
  first_to_meet-found place (w ∷ waiting) (suc k) o may first =
      let same : place + 1 + k ≡ place + suc k = omega arith in
      cond_both (nat_le w.slots room && not (meets_place met place)) (Some place)
      (first_to_meet met room (place + 1) waiting) (λ found. found ≡ Some (place + suc k))
      (λ is. absurd (omega (arith, first 0 w (first-here place w waiting is))))
      (λ isnt. first_to_meet-found (place + 1) waiting k o (earlier-one place k w waiting o may)
      (λ j p could. omega (arith, first (suc j) p (later-one place j w waiting p could))) ∙ ap Some same)

  -- where none may be met there is none
  pub first_to_meet-none : (place : ℕ) (waiting : List Opportunity)
      → ((j : ℕ) (p : Opportunity) → MayMeetAt met room place waiting j p → ⊥)
      → first_to_meet met room place waiting ≡ None
  first_to_meet-none place [] none = refl
  first_to_meet-none place (w ∷ waiting) none =
      cond_both (nat_le w.slots room && not (meets_place met place)) (Some place)
      (first_to_meet met room (place + 1) waiting) (λ found. found ≡ None)
      (λ is. absurd (none 0 w (first-here place w waiting is)))
      (λ isnt. first_to_meet-none (place + 1) waiting (λ j p could. none (suc j) p (later-one place j w waiting p could)))

  -- what is the first may be met
  abbrev MayBeMet : ℕ → List Opportunity → Option ℕ → Type 0
  MayBeMet place waiting None = Unit {0}
  MayBeMet place waiting (Some k) = (j : ℕ) × (o : Opportunity) × (place + j ≡ k) × MayMeetAt met room place waiting j o

  may-later : (place : ℕ) (w : Opportunity) (waiting : List Opportunity) (found : Option ℕ)
      → MayBeMet (place + 1) waiting found → MayBeMet place (w ∷ waiting) found
  may-later place w waiting None may = tt
  may-later place w waiting (Some k) (j, o, same, may) =
      (suc j, o, omega (arith, same), later-one place j w waiting o may)

  first_to_meet-may : (place : ℕ) (waiting : List Opportunity)
      → MayBeMet place waiting (first_to_meet met room place waiting)
  first_to_meet-may place [] = tt
  first_to_meet-may place (w ∷ waiting) =
      cond_both (nat_le w.slots room && not (meets_place met place)) (Some place)
      (first_to_meet met room (place + 1) waiting) (MayBeMet place (w ∷ waiting))
      (λ is. (0, w, omega arith, first-here place w waiting is))
      (λ isnt. may-later place w waiting (first_to_meet met room (place + 1) waiting)
      (first_to_meet-may (place + 1) waiting))

module _ (c : Config) (spots : List Spot) (waiting : List Opportunity) where
  behind-one : (met : List Met) (offset : ℕ) (found : Option ℕ)
      → MayBeMet met (room_at c spots offset) 0 waiting found → EachAfter (IsMetBehind c spots waiting) [] met
      → EachAfter (IsMetBehind c spots waiting) []
      (met ++ map (met_from offset) (option_to_list found))
  behind-one met offset None may each = rw append-nil each
  behind-one met offset (Some k) (j, o, same, may) each =
      let it : 0 + j ≡ j = omega arith in
      let is : j ≡ k = omega (arith, same) in
      EachAfter-push (IsMetBehind c spots waiting) [] met (met_from offset k) each (record {
        opportunity = o;
        waits = ap (slice_get waiting) (sym is) ∙ may.0;
        unmet = ap (meets_place met) (sym same) ∙ may.1;
        fits = may.2;
      })

  -- whatever the offsets, each that is met waits, is met once, and has room
  pub met_over-each : (met : List Met) (offsets : List ℕ) → EachAfter (IsMetBehind c spots waiting) [] met
      → EachAfter (IsMetBehind c spots waiting) [] (met_over c spots waiting met offsets)
  met_over-each met [] each = each
  met_over-each met (offset ∷ offsets) each =
      met_over-each (met ++ met_at c spots waiting met offset) offsets
      (behind-one met offset (first_to_meet met (room_at c spots offset) 0 waiting)
      (first_to_meet-may met (room_at c spots offset) 0 waiting) each)
