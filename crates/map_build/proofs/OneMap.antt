-- The lawful MAP for what a frame has to serve is one: by class, and in each class there is one.
use Rattle.std.proofs.Common.{◌≡◌, ℕ, zero, suc, ◌+◌, ◌<◌, ◌≤◌, Bool, true, false, ◌&&◌, ◌||◌, List, [], ◌∷◌, ◌++◌}
use Rattle.std.proofs.Common.{length, Option, None, Some, refl, sym, ap, subst, ◌∙◌, inl, inr, append_assoc, arith}
use Rattle.std.specs.Prelude.{nat_lt, nat_le, ◌==◌, min, slice_index_or, Contains}
use Rattle.std.specs.List.{AllByRecursion, slice_get}
use Rattle.std.proofs.lemmas.Bool.{le-leb, cond_both}
use Rattle.std.proofs.lemmas.Bool.Decides.{nat_tests}
use Rattle.std.proofs.lemmas.List.Sums.{sum_by-append, sum_by-cons}
use Rattle.minislots.specs.declared.config.Config.{Config}
use Rattle.minislots.specs.Bursts.{HasBursts}
use Rattle.minislots.specs.Units.{slots_for}
use Rattle.flow_book.specs.Reserved.{rank_at}
use Rattle.flow_book.specs.Flows.{LiveFlow}
use Rattle.flow_book.specs.Choice.{IsAmount, IsNext, NoneEligible, last_start, is_earlier, is_as_early}
use Rattle.flow_book.proofs.Order.{all-contains}
use Rattle.periodic.specs.declared.placement.Spot.{Spot}
use Rattle.sched_calls.specs.declared.frame_map.FrameMap.{FrameMap}
use Rattle.sched_calls.specs.declared.opportunity.Header.{Header}
use Rattle.sched_calls.specs.declared.opportunity.Opportunity.{Opportunity}
use Rattle.map_build.specs.declared.purpose.Allocation.{Allocation}
use Rattle.map_build.specs.declared.purpose.Purpose.{Purpose}
use Rattle.map_build.specs.declared.purpose.Purpose.TheVariants.{Poll, UnsolicitedGrant, Offer, DataGrant, Idle}
use Rattle.map_build.specs.EachAfter.{EachAfter}
use Rattle.map_build.specs.Purpose.{Class, Placed, Reserved, Requested, Left, class_of, classes_before, allocation_of}
use Rattle.map_build.specs.FrameMap.{map_of, IsLawfulMap}
use Rattle.map_build.specs.Plan.{Demand, flows_after, next_stop, room_at, IsFirstToMeet, NoneOf, IsOfClass, end_of}
use Rattle.map_build.specs.Plan.{Stands, IsPlan}

-- of two flows at most one is before the other, by ranks, last starts and SIDs
one_way : (rf rg : ℕ) (lf lg : Option ℕ) (sf sg : ℕ) →
    (nat_lt rg rf || (rf == rg && (is_earlier lf lg || (is_as_early lf lg && nat_lt sf sg)))) ≡ true →
    (nat_lt rf rg || (rg == rf && (is_earlier lg lf || (is_as_early lg lf && nat_lt sg sf)))) ≡ true → ⊥
one_way rf rg None None sf sg p q = grind (arith, nat_tests)
one_way rf rg None (Some n) sf sg p q = grind (arith, nat_tests)
one_way rf rg (Some m) None sf sg p q = grind (arith, nat_tests)
one_way rf rg (Some m) (Some n) sf sg p q = grind (arith, nat_tests)

-- the flow that is next is one
pub one_next : (c : Config) (flows : List LiveFlow) (start room : ℕ) (f g : LiveFlow) → IsNext c flows start room f →
    IsNext c flows start room g → f ≡ g
one_next c flows start room f g nf ng = elim (all-contains _ flows g nf.first ng.live ng.eligible) [
  | inl e ↦ sym e
  | inr before ↦ elim (all-contains _ flows f ng.first nf.live nf.eligible) [
    | inl e ↦ e
    | inr after ↦ absurd (one_way (rank_at c start f) (rank_at c start g) (last_start f.grants)
        (last_start g.grants) f.sid g.sid before after)
  ]
]

-- the amount is one
pub one_amount : (c : Config) (f : LiveFlow) (start room n m : ℕ) → IsAmount c f start room n →
    IsAmount c f start room m → n ≡ m
one_amount c f start room n m an am = omega (arith, an.greatest m am.allowed, am.greatest n an.allowed)

-- where a flow is next some flow is eligible
next_is_eligible : (c : Config) (flows : List LiveFlow) (start room : ℕ) (f : LiveFlow) → IsNext c flows start room f →
    NoneEligible c flows start room → ⊥
next_is_eligible c flows start room f next none = all-contains _ flows f none next.live next.eligible

-- at a spot there is no room
no_room : (c : Config) (spots : List Spot) (k offset : ℕ) (d : Spot) → k < length spots →
    (slice_index_or spots k d).offset ≡ offset → next_stop c spots offset ≤ offset
no_room c [] k offset d h e = absurd (omega arith)
no_room c (s ∷ spots) zero offset d h e = rw (le-leb offset s.offset (omega arith)) (omega arith)
no_room c (s ∷ spots) (suc k) offset d h e =
    let rest = no_room c spots k offset d (omega arith) e in
    cond_both (nat_le offset s.offset) (min s.offset (next_stop c spots offset)) (next_stop c spots offset)
    (λ x. x ≤ offset) (λ t. omega arith) (λ t. rest)

-- spots that begin together are one
abbrev pub BeginApart : List Spot → Type 0
BeginApart spots = (s t : Spot) → Contains spots s → Contains spots t → s.offset ≡ t.offset → s ≡ t

-- allocations of the same minislots for the same purpose are one
same_allocation : (a b : Allocation) → a.offset ≡ b.offset → a.slots ≡ b.slots → a.purpose ≡ b.purpose → a ≡ b
same_allocation a b offset slots purpose = λ i. record { offset = offset i; slots = slots i; purpose = purpose i }

-- the opportunity of an option, or another
abbrev told : Opportunity → Option Opportunity → Opportunity
told o None = o
told o (Some p) = p

-- what may stand at an offset is of one class, where of each the classes before are empty
one_class : (N A : Class → Type 0) → ((r : Class) → A r → N r → ⊥) → (r s : Class) → A r → A s →
    AllByRecursion N (classes_before r) → AllByRecursion N (classes_before s) → r ≡ s
one_class N A apart Placed Placed a b before before' = refl
one_class N A apart Placed Reserved a b before before' = absurd (apart Placed a before'.0)
one_class N A apart Placed Requested a b before before' = absurd (apart Placed a before'.0)
one_class N A apart Placed Left a b before before' = absurd (apart Placed a before'.0)
one_class N A apart Reserved Placed a b before before' = absurd (apart Placed b before.0)
one_class N A apart Reserved Reserved a b before before' = refl
one_class N A apart Reserved Requested a b before before' = absurd (apart Reserved a before'.1.0)
one_class N A apart Reserved Left a b before before' = absurd (apart Reserved a before'.1.0)
one_class N A apart Requested Placed a b before before' = absurd (apart Placed b before.0)
one_class N A apart Requested Reserved a b before before' = absurd (apart Reserved b before.1.0)
one_class N A apart Requested Requested a b before before' = refl
one_class N A apart Requested Left a b before before' = absurd (apart Requested a before'.1.1.0)
one_class N A apart Left Placed a b before before' = absurd (apart Placed b before.0)
one_class N A apart Left Reserved a b before before' = absurd (apart Reserved b before.1.0)
one_class N A apart Left Requested a b before before' = absurd (apart Requested b before.1.1.0)
one_class N A apart Left Left a b before before' = refl

module _ (c : Config) (d : Demand) (bursts : HasBursts c.bursts) (apart : BeginApart d.spots) where
  -- a spot leaves no room
  spot_has_no_room : (s : Spot) (offset : ℕ) → Contains d.spots s → s.offset ≡ offset → room_at c d.spots offset ≡ 0
  spot_has_no_room s offset has here =
      let none = no_room c d.spots has.0 offset s has.1 (ap (λ t. t.offset) has.2 ∙ here) in omega arith

  -- the data grant of these bytes to this flow
  abbrev IsGrant : List Allocation → ℕ → ℕ → ℕ → ℕ → Type 0
  IsGrant before offset slots sid bytes = IsOfClass c d before offset slots (DataGrant sid bytes)

  -- what may stand of a class
  abbrev OfClass : List Allocation → ℕ → ℕ → Purpose → Class → Type 0
  OfClass before offset slots purpose Placed = (s : Spot) × Contains d.spots s × (s.offset ≡ offset) × (slots ≡ s.slots)
      × (purpose ≡ (allocation_of s).purpose)
  OfClass before offset slots purpose Reserved = (place : ℕ) × (o : Opportunity)
      × IsFirstToMeet d.waiting before (room_at c d.spots offset) place o × (slots ≡ o.slots)
      × (purpose ≡ Offer place o.usage)
  OfClass before offset slots purpose Requested = (sid : ℕ) × (bytes : ℕ) × IsGrant before offset slots sid bytes
      × (purpose ≡ DataGrant sid bytes)
  OfClass before offset slots purpose Left = (slots ≡ room_at c d.spots offset) × (purpose ≡ Idle)

  -- each kind is of its class
  of_class : (before : List Allocation) (offset slots : ℕ) (purpose : Purpose) →
      IsOfClass c d before offset slots purpose → OfClass before offset slots purpose (class_of purpose)
  of_class before offset slots (Poll sid) is =
      (record { sid = sid; size = None; offset = offset; slots = slots }, is, refl, refl, refl)
  of_class before offset slots (UnsolicitedGrant sid size) is =
      (record { sid = sid; size = Some size; offset = offset; slots = slots }, is, refl, refl, refl)
  of_class before offset slots (Offer place usage) is = (place, record { usage = usage; slots = slots }, is, refl, refl)
  of_class before offset slots (DataGrant sid bytes) is = (sid, bytes, is, refl)
  of_class before offset slots Idle is = (is, refl)

  -- where one may stand its class is not empty
  not_none : (before : List Allocation) (offset slots : ℕ) (purpose : Purpose) (r : Class) →
      OfClass before offset slots purpose r → NoneOf c d before offset r → ⊥
  not_none before offset slots purpose Placed (s, has, here, long, is) none =
      omega (arith, spot_has_no_room s offset has here, none)
  not_none before offset slots purpose Reserved (place, o, first, long, is) none = none place o first.may
  not_none before offset slots purpose Requested (sid, bytes, grant, is) none = elim none [
    | inl full ↦ omega (arith, full, grant.0)
    | inr nobody ↦ next_is_eligible c (flows_after c d.start before d.flows) (d.start + offset)
        (room_at c d.spots offset) grant.1 grant.3 nobody
  ]
  not_none before offset slots purpose Left is none = none

  -- two of a class are one
  one_of_class : (before : List Allocation) (offset slots slots' : ℕ) (purpose purpose' : Purpose) (r : Class) →
      OfClass before offset slots purpose r → OfClass before offset slots' purpose' r →
      (slots ≡ slots') × (purpose ≡ purpose')
  one_of_class before offset slots slots' purpose purpose' Placed (s, has, here, long, is)
      (t, has', here', long', is') =
      let one : s ≡ t = apart s t has has' (here ∙ sym here') in
      (long ∙ ap (λ u. u.slots) one ∙ sym long', is ∙ ap (λ u. (allocation_of u).purpose) one ∙ sym is')
  one_of_class before offset slots slots' purpose purpose' Reserved (place, o, first, long, is)
      (place', o', first', long', is') =
      let same : place ≡ place' = omega (arith, first.first place' o' first'.may, first'.first place o first.may) in
      let one : o ≡ o' = ap (told o) (sym first.may.waits ∙ ap (slice_get d.waiting) same ∙ first'.may.waits) in (
        long ∙ ap (λ p. p.slots) one ∙ sym long',
        is ∙ ap (λ n. Offer n o.usage) same ∙ ap (λ p. Offer place' p.usage) one ∙ sym is',
      )
  one_of_class before offset slots slots' purpose purpose' Requested (sid, bytes, g, is) (sid', bytes', h, is') =
      let one = one_next c (flows_after c d.start before d.flows) (d.start + offset) (room_at c d.spots offset) g.1 h.1
      g.3 h.3 in
      let amount = one_amount c h.1 (d.start + offset) (room_at c d.spots offset) bytes bytes' (rw one at g.4) h.4 in
      let same : sid ≡ sid' = sym g.2 ∙ ap (λ f. f.sid) one ∙ h.2 in
      (g.5 ∙ ap (slots_for c) amount ∙ sym h.5, is ∙ rw (same, amount) (sym is'))
  one_of_class before offset slots slots' purpose purpose' Left (long, is) (long', is') =
      (long ∙ sym long', is ∙ sym is')

  -- something of a class may stand
  abbrev SomeOf : List Allocation → ℕ → Class → Type 0
  SomeOf before offset r = (slots : ℕ) × (purpose : Purpose) × OfClass before offset slots purpose r

  -- after the same allocations the same one stands
  same_next : (before : List Allocation) (a b : Allocation) → Stands c d before a → Stands c d before b → b ≡ a
  same_next before a b sa sb =
      let begins : b.offset ≡ a.offset = sb.follows ∙ sym sa.follows in
      let is = of_class before a.offset a.slots a.purpose sa.purpose in
      let is' = of_class before a.offset b.slots b.purpose (rw begins at sb.purpose) in
      let same_class : class_of b.purpose ≡ class_of a.purpose =
      one_class (NoneOf c d before a.offset) (SomeOf before a.offset)
      (λ r some none. not_none before a.offset some.0 some.1 r some.2 none) (class_of b.purpose) (class_of a.purpose)
      (b.slots, b.purpose, is') (a.slots, a.purpose, is) (rw begins at sb.first) sa.first in
      let same = one_of_class before a.offset b.slots a.slots b.purpose a.purpose (class_of a.purpose)
      (subst (OfClass before a.offset b.slots b.purpose) same_class is') is in
      same_allocation b a begins same.0 same.1

  -- after the same allocations the same ones fill the frame
  same_rest : (before plan plan' : List Allocation) → EachAfter (Stands c d) before plan →
      EachAfter (Stands c d) before plan' →
      end_of c (before ++ plan) ≡ c.frame → end_of c (before ++ plan') ≡ c.frame → plan ≡ plan'
  same_rest before [] [] p q e e' = refl
  same_rest before [] (a ∷ plan) p q e e' =
      absurd (omega (
        arith,
        q.0.some_slots,
        sum_by-append (λ (a : Allocation). a.slots) before [],
        sum_by-append
            (λ (a : Allocation). a.slots) before (a ∷ plan),
        sum_by-cons (λ (a : Allocation). a.slots) a plan,
      ))
  same_rest before (a ∷ plan) [] p q e e' =
      absurd (omega (
        arith,
        p.0.some_slots,
        sum_by-append (λ (a : Allocation). a.slots) before [],
        sum_by-append
            (λ (a : Allocation). a.slots) before (a ∷ plan),
        sum_by-cons (λ (a : Allocation). a.slots) a plan,
      ))
  same_rest before (a ∷ plan) (b ∷ plan') p q e e' =
      let one : b ≡ a = same_next before a b p.0 q.0 in
      let rest = same_rest (before ++ a ∷ []) plan plan' p.1 (rw one at q.1) (rw append_assoc e)
      (rw append_assoc (rw one at e')) in
      cc

  plans-agree : (quiet : Bool) → d.settles ≡ quiet → (plan plan' : List Allocation) → IsPlan c d plan →
      IsPlan c d plan' → plan ≡ plan'
  plans-agree true on plan plan' p q = p.quiet on ∙ sym (q.quiet on)
  plans-agree false on plan plan' p q = same_rest [] plan plan' p.each q.each (p.whole on) (q.whole on)

  -- the plan of a frame is one
  pub one_plan : (plan plan' : List Allocation) → IsPlan c d plan → IsPlan c d plan' → plan ≡ plan'
  one_plan plan plan' p q = plans-agree d.settles refl plan plan' p q

  -- the lawful MAP is one
  pub one_map : (header : Header) (ack : ℕ) (m n : FrameMap) → IsLawfulMap c d header ack m →
      IsLawfulMap c d header ack n → m ≡ n
  one_map header ack m n lm ln = lm.2 ∙ ap (map_of c d header ack) (one_plan lm.0 ln.0 lm.1 ln.1) ∙ sym ln.2
