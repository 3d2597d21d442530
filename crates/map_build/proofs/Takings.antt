-- Steps of a draft: it knows of an allocation, whose element is to come; then it has its element.
use Rattle.std.proofs.Common.{◌≡◌, ℕ, zero, suc, ◌+◌, ◌<◌, Bool, true, List, [], ◌∷◌}
use Rattle.std.proofs.Common.{length, Option, None, Some, ◌⊎◌, set, unwrap_or, inl, inr}
use Rattle.std.proofs.Common.{refl, sym, ap, subst, ◌∙◌, arith}
use Rattle.std.specs.List.{slice_get}
use Rattle.std.proofs.lemmas.List.{length-set}
use Rattle.minislots.specs.Units.{slots_for}
use Rattle.flow_book.specs.Reserved.{with_grant}
use Rattle.flow_book.specs.Book.{changed}
use Rattle.periodic.specs.declared.placement.Spot.{Spot}
use Rattle.map_build.specs.declared.draft.Draft.{Draft}
use Rattle.sched_calls.specs.declared.opportunity.Opportunity.{Opportunity}
use Rattle.map_build.specs.declared.purpose.Allocation.{Allocation}
use Rattle.map_build.specs.declared.purpose.Purpose.TheVariants.{Poll, UnsolicitedGrant, DataGrant, Idle}
use Rattle.map_build.specs.Purpose.{place_of, allocation_of}
use Rattle.map_build.specs.Plan.{most_grants, grants_in, grants_to, IsMetIn}
use Rattle.map_build.specs.Draft.{PutsAllocation}
use Rattle.map_build.specs.Walk.{Knows, HasSame, Takes, offer_here, grant_here, IsNextAmount, Serves}
use Rattle.map_build.proofs.FlowsAfter.{flows_after-none, flows_after-grant}
use Rattle.map_build.proofs.Offers.{met-only}

-- of an allocation that grants nothing, and is no opportunity, there is nothing to know
Knows-nothing : (a : Allocation) (d : Draft) → grants_in (a ∷ []) ≡ 0 →
    ((sid : ℕ) → grants_to d.start sid (a ∷ []) ≡ []) → place_of a.purpose ≡ None → Knows a d d
Knows-nothing a d grants none nowhere = record {
  config = refl;
  before = refl;
  flows = sym (flows_after-none d.overlay.config d.start a d.overlay.flows none);
  grants = omega (arith, grants);
  marks = refl;
  met = λ place is. inl is;
  kept = λ place is. is;
  new_met = λ place is. let it = met-only a place is in absurd (cc);
  start = refl;
}

spot-known : (size : Option ℕ) (sid offset slots : ℕ) (d : Draft) →
    Knows (allocation_of (record { sid = sid; size = size; offset = offset; slots = slots })) d d
spot-known None sid offset slots d =
    Knows-nothing (record { offset = offset; slots = slots; purpose = Poll sid }) d refl (λ other. refl) refl
spot-known (Some size) sid offset slots d =
    Knows-nothing (record { offset = offset; slots = slots; purpose = UnsolicitedGrant sid size }) d refl (λ other. refl)
    refl

-- so it is of a spot
pub Knows-spot : (s : Spot) (d : Draft) → Knows (allocation_of s) d d
Knows-spot s d = spot-known s.size s.sid s.offset s.slots d

-- and of an idle
pub Knows-idle : (offset slots : ℕ) (d : Draft) →
    Knows (record { offset = offset; slots = slots; purpose = Idle }) d d
Knows-idle offset slots d =
    Knows-nothing (record { offset = offset; slots = slots; purpose = Idle }) d refl (λ other. refl) refl

set-here : (met : List Bool) (i : ℕ) → i < length met → slice_get (set met i true) i ≡ Some true
set-here [] i lt = absurd (omega arith)
set-here (b ∷ met) zero lt = refl
set-here (b ∷ met) (suc i) lt = set-here met i (omega arith)

set-kept : (met : List Bool) (i j : ℕ) → slice_get met j ≡ Some true → slice_get (set met i true) j ≡ Some true
set-kept [] i j is = is
set-kept (b ∷ met) zero zero is = refl
set-kept (b ∷ met) zero (suc j) is = is
set-kept (b ∷ met) (suc i) zero is = is
set-kept (b ∷ met) (suc i) (suc j) is = set-kept met i j is

set-old : (met : List Bool) (i j : ℕ) → slice_get (set met i true) j ≡ Some true →
    (slice_get met j ≡ Some true) ⊎ (i ≡ j)
set-old [] i j is = inl is
set-old (b ∷ met) zero zero is = inr refl
set-old (b ∷ met) zero (suc j) is = inl is
set-old (b ∷ met) (suc i) zero is = inl is
set-old (b ∷ met) (suc i) (suc j) is = elim (set-old met i j is) [
  | inl before ↦ inl before
  | inr here ↦ inr (ap suc here)
]

-- a draft with the mark of a place knows of the opportunity of that place
pub Knows-offer : (place : ℕ) (o : Opportunity) (old new : Draft) → place < length old.met →
    new.met ≡ set old.met place true → new.overlay ≡ old.overlay → new.grants ≡ old.grants → new.start ≡ old.start →
    Knows (offer_here old place o) old new
Knows-offer place o old new lt marks book grants start =
    let a : Allocation = offer_here old place o in
    let it : IsMetIn (a ∷ []) place = (a, (zero, omega arith, refl), refl) in
    record {
      config = ap (λ b. b.config) book;
      before = ap (λ b. b.before) book;
      flows = ap (λ b. b.flows) book ∙ sym (flows_after-none old.overlay.config old.start a old.overlay.flows (λ other. refl));
      grants = omega (arith, grants);
      marks = ap (λ (met : List Bool). length met) marks ∙ length-set old.met place true;
      met = λ other is. elim (set-old old.met place other (rw marks at is)) [
        | inl before ↦ inl before
        | inr here ↦ inr (subst (λ n. IsMetIn (a ∷ []) n) here it)
      ];
      kept = λ other is. rw marks (set-kept old.met place other is);
      new_met = λ other is.
          let here : place ≡ other = ap (λ (m : Option ℕ). unwrap_or m other) (met-only a other is) in
          subst (λ n. slice_get new.met n ≡ Some true) here (rw marks (set-here old.met place lt));
      start = start;
    }

-- a draft whose overlay has a data grant more knows of it
pub Knows-grant : (sid bytes : ℕ) (old new : Draft) → new.overlay.config ≡ old.overlay.config →
    new.overlay.before ≡ old.overlay.before →
    new.overlay.flows ≡ changed sid (with_grant old.overlay.config (record { start = old.start + old.offset; bytes = bytes })) old.overlay.flows →
    new.grants ≡ old.grants + 1 → new.met ≡ old.met → new.start ≡ old.start →
    Knows (grant_here old sid bytes) old new
Knows-grant sid bytes old new config before flows grants marks start =
    let a : Allocation = grant_here old sid bytes in
    let one : grants_in (a ∷ []) ≡ 1 = refl in
    record {
      config = config;
      before = before;
      flows = flows ∙ sym (flows_after-grant old.overlay.config old.start sid old.offset a.slots bytes old.overlay.flows);
      grants = omega (arith, grants, one);
      marks = ap (λ (met : List Bool). length met) marks;
      met = λ place is. inl (rw marks at is);
      kept = λ place is. rw marks is;
      new_met = λ place is. let it = met-only a place is in absurd (cc);
      start = start;
    }

-- so it has that of the flow that is next
pub Serves-known : (waiting : List Opportunity) (room sid bytes slots : ℕ) (old new : Draft) →
    old.grants < most_grants old.overlay.config waiting → IsNextAmount old room sid bytes → slots ≡ slots_for old.overlay.config bytes →
    Knows (grant_here old sid bytes) old new → HasSame old new →
    Serves waiting room (record { offset = old.offset; slots = slots; purpose = DataGrant sid bytes }) old new
Serves-known waiting room sid bytes slots old new few next long knows same = record {
  knows = rw long knows;
  same = same;
  few = few;
  sid = sid;
  bytes = bytes;
  next = next;
  is = rw long refl;
}

-- a draft that knows of an allocation, and then has its element
pub Takes-put : (a : Allocation) (old mid new : Draft) → Knows a old mid → HasSame old mid → a.offset ≡ old.offset →
    PutsAllocation a mid new → Takes a old new
Takes-put a old mid new knows same here puts = record {
  knows = record {
    config = ap (λ b. b.config) puts.overlay ∙ knows.config;
    before = ap (λ b. b.before) puts.overlay ∙ knows.before;
    flows = ap (λ b. b.flows) puts.overlay ∙ knows.flows;
    grants = puts.grants ∙ knows.grants;
    marks = ap (λ (met : List Bool). length met) puts.met ∙ knows.marks;
    met = λ place is. knows.met place (rw puts.met at is);
    kept = λ place is. rw puts.met (knows.kept place is);
    new_met = λ place is. rw puts.met (knows.new_met place is);
    start = puts.start ∙ knows.start;
  };
  elements = puts.elements ∙ rw (same.elements, knows.config, same.offset, here) refl;
  bytes_of = puts.bytes_of ∙ rw (same.bytes_of, knows.config) refl;
  offset = omega (arith, puts.offset, same.offset);
}
