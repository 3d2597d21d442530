-- The first opportunity that waits is met exactly where the frame has a gap for it between its spots.
use Rattle.std.proofs.Common.{◌≡◌, ℕ, zero, suc, ◌+◌, ◌<◌, ◌≤◌, ◌⊎◌, Bool, true, false, List, [], ◌∷◌, ◌++◌}
use Rattle.std.proofs.Common.{Contains, Option, None, Some, slice_get, unwrap_or, inl, inr, refl, sym, ap, subst, ◌∙◌}
use Rattle.std.proofs.Common.{append_assoc, Result, arith}
use Rattle.std.specs.List.{AllByRecursion}
use Rattle.std.specs.Result.{IfOk}
use Rattle.std.proofs.lemmas.Result.{IfOk-weaker}
use Rattle.std.proofs.lemmas.Bool.{cases_lt, false≢true}
use Rattle.std.proofs.lemmas.List.{append-nil, length-append, get_or_append_left}
use Rattle.std.proofs.lemmas.List.Elements.{Contains-push}
use Rattle.minislots.specs.declared.config.Config.{Config}
use Rattle.periodic.specs.declared.placement.Spot.{Spot}
use Rattle.periodic.specs.Placement.{AreFree}
use Rattle.map_build.specs.declared.frame.PlannedFrame.{PlannedFrame}
use Rattle.sched_calls.specs.declared.opportunity.Header.{Header}
use Rattle.sched_calls.specs.declared.opportunity.Opportunity.{Opportunity}
use Rattle.map_build.specs.declared.purpose.Allocation.{Allocation}
use Rattle.map_build.specs.declared.purpose.Purpose.{Purpose}
use Rattle.map_build.specs.declared.purpose.Purpose.TheVariants.{Poll, UnsolicitedGrant, Offer, DataGrant, Idle}
use Rattle.map_build.specs.EachAfter.{EachAfter}
use Rattle.map_build.specs.Purpose.{class_of, classes_before, place_of, allocation_of}
use Rattle.map_build.specs.Opportunities.{MayWait, HasGap, MeetsFirst}
use Rattle.map_build.specs.Plan.{Demand, next_stop, room_at, end_of, IsMetIn, MayMeet, NoneOf}
use Rattle.map_build.specs.Plan.{IsOfClass, Stands, IsPlan}
use Rattle.map_build.specs.FrameMap.{AreMet, IsLawfulFrame}
use Rattle.map_build.proofs.Chosen.{waiting-some}
use Rattle.map_build.proofs.Clear.{contains-more, contains-later}
use Rattle.map_build.proofs.Counts.{end_of-push}
use Rattle.map_build.proofs.FlowsAfter.{allocation}
use Rattle.map_build.proofs.Offers.{is_met, is_met-met, met-is_met}
use Rattle.map_build.proofs.SameSpots.{all-members}
use Rattle.map_build.proofs.Standings.{member-at}
use Rattle.map_build.proofs.Stops.{next_stop-is, next_stop-most}

-- what a plan meets it meets with more behind
met-longer : (plan more : List Allocation) → IsMetIn plan 0 → IsMetIn (plan ++ more) 0
met-longer plan more (a, (k, lt, at), is) =
    (a, (k, omega (arith, length-append plan more), get_or_append_left plan more a k lt ∙ at), is)

-- of free minislots a spot has none
free-of : (spots : List Spot) (from slots : ℕ) (s : Spot) → AreFree spots from slots → Contains spots s →
    (from + slots ≤ s.offset) ⊎ (s.offset + s.slots ≤ from)
free-of spots from slots s free is =
    member-at (λ (t : Spot). (from + slots ≤ t.offset) ⊎ (t.offset + t.slots ≤ from)) spots s free is

-- from minislots before a gap up to which no spot begins there is room up to the end of the gap
room-to-gap : (c : Config) (spots : List Spot) (offset from slots : ℕ) → from + slots ≤ c.frame →
    AreFree spots from slots → from < next_stop c spots offset → from + slots ≤ next_stop c spots offset
room-to-gap c spots offset from slots within free far = elim (next_stop-is c spots offset) [
  | inl end ↦ omega (arith, end)
  | inr is ↦ elim (free-of spots from slots is.0 free is.1) [
    | inl behind ↦ omega (arith, behind, is.3)
    | inr before ↦ absurd (omega (arith, before, is.3))
  ]
]

-- an opportunity, or another
abbrev told : Opportunity → Option Opportunity → Opportunity
told o None = o
told o (Some p) = p

-- none of these allocations has a minislot of the other
abbrev ArePast : Allocation → Allocation → Type 0
ArePast a b = (a.offset + a.slots ≤ b.offset) ⊎ (b.offset + b.slots ≤ a.offset)

-- a poll or unsolicited grant is no opportunity
spot-no-place : (size : Option ℕ) (sid offset slots : ℕ) →
    place_of (allocation_of (record { sid = sid; size = size; offset = offset; slots = slots })).purpose ≡ None
spot-no-place None sid offset slots = refl
spot-no-place (Some size) sid offset slots = refl

module _ (c : Config) (d : Demand) where
  -- what is behind some allocations begins where they end, or later
  behind-all : (before plan : List Allocation) → EachAfter (Stands c d) before plan → (b : Allocation) →
      Contains plan b → end_of c before ≤ b.offset
  behind-all before [] each b (k, lt, at) = absurd (omega arith)
  behind-all before (a ∷ plan) each b (zero, lt, at) =
      omega (arith, each.0.follows, ap (λ (x : Allocation). x.offset) at)
  behind-all before (a ∷ plan) each b (suc k, lt, at) =
      omega (arith, behind-all (before ++ a ∷ []) plan each.1 b (k, omega arith, at), end_of-push c before a)

  -- two allocations of a plan are one, or have no minislot in common
  disjoint : (before plan : List Allocation) → EachAfter (Stands c d) before plan → (x y : Allocation) →
      Contains plan x → Contains plan y → (x ≡ y) ⊎ ArePast x y
  disjoint before [] each x y (k, lt, at) has = absurd (omega arith)
  disjoint before (a ∷ plan) each x y (zero, lt, at) (zero, lt', at') = inl (sym at ∙ at')
  disjoint before (a ∷ plan) each x y (zero, lt, at) (suc k, lt', at') =
      let past : end_of c (before ++ a ∷ []) ≤ y.offset =
      behind-all (before ++ a ∷ []) plan each.1 y (k, omega arith, at') in
      inr (inl (omega (
        arith,
        past,
        end_of-push c before a,
        each.0.follows,
        ap (λ (z : Allocation). z.offset) at,
        ap (λ (z : Allocation). z.slots) at,
      )))
  disjoint before (a ∷ plan) each x y (suc k, lt, at) (zero, lt', at') =
      let past : end_of c (before ++ a ∷ []) ≤ x.offset =
      behind-all (before ++ a ∷ []) plan each.1 x (k, omega arith, at) in
      inr (inr (omega (
        arith,
        past,
        end_of-push c before a,
        each.0.follows,
        ap (λ (z : Allocation). z.offset) at',
        ap (λ (z : Allocation). z.slots) at',
      )))
  disjoint before (a ∷ plan) each x y (suc k, lt, at) (suc n, lt', at') =
      disjoint (before ++ a ∷ []) plan each.1 x y (k, omega arith, at) (n, omega arith, at')

  module _ (o : Opportunity) (waits : slice_get d.waiting 0 ≡ Some o) (some : 0 < o.slots)
      (gap : HasGap c d.spots o.slots) where
    -- where the first is not met yet it may stand at an offset from which there is room up to the gap
    may-first : (before : List Allocation) (offset : ℕ) → (IsMetIn before 0 → ⊥) → offset ≤ gap.from →
        gap.from < next_stop c d.spots offset → MayMeet d.waiting before (room_at c d.spots offset) 0 o
    may-first before offset never le far = record {
      waits = waits;
      unmet = never;
      fits = omega (arith, room-to-gap c d.spots offset gap.from o.slots gap.within gap.free far);
    }

    -- of the gap's minislots no spot has one
    no-spot : (s : Spot) → Contains d.spots s → s.offset ≤ gap.from → gap.from < s.offset + s.slots → ⊥
    no-spot s is le lt = elim (free-of d.spots gap.from o.slots s gap.free is) [
      | inl behind ↦ omega (arith, behind)
      | inr before ↦ omega (arith, before)
    ]

    -- so where it is not met yet it is what has the gap's first minislot
    stands-at-gap : (before : List Allocation) (offset slots : ℕ) (purpose : Purpose) →
        IsOfClass c d before offset slots purpose →
        AllByRecursion (NoneOf c d before offset) (classes_before (class_of purpose)) →
        (IsMetIn before 0 → ⊥) → offset ≤ gap.from → gap.from < offset + slots →
        IsMetIn (before ++ allocation offset slots purpose ∷ []) 0
    stands-at-gap before offset slots (Poll sid) is first never le lt = absurd (no-spot _ is le lt)
    stands-at-gap before offset slots (UnsolicitedGrant sid size) is first never le lt = absurd (no-spot _ is le lt)
    stands-at-gap before offset slots (Offer place usage) is first never le lt =
        let zeroth : place ≡ 0 =
        omega (arith, is.first 0 o (may-first before offset never le (omega (arith, is.may.fits)))) in (
          allocation offset slots (Offer place usage),
          Contains-push before (allocation offset slots (Offer place usage)),
          ap (λ n. Some n) zeroth,
        )
    stands-at-gap before offset slots (DataGrant sid bytes) is first never le lt =
        absurd (first.1.0 0 o (may-first before offset never le (omega (arith, is.4.allowed.taken.fits, is.5))))
    stands-at-gap before offset slots Idle is first never le lt =
        absurd (first.1.0 0 o (may-first before offset never le (omega (arith, is))))

    met-or-gap : (b : Bool) (before : List Allocation) (a : Allocation) → is_met before 0 ≡ b → Stands c d before a →
        a.offset ≤ gap.from → gap.from < a.offset + a.slots → IsMetIn (before ++ a ∷ []) 0
    met-or-gap true before a test stands le lt =
        let found = is_met-met before 0 test in (found.0, contains-more before a found.0 found.1, found.2)
    met-or-gap false before a test stands le lt =
        stands-at-gap before a.offset a.slots a.purpose stands.purpose stands.first
        (λ is. absurd (false≢true (sym test ∙ met-is_met before 0 is))) le lt

    met-cases : (before plan : List Allocation) (a : Allocation) → Stands c d before a → end_of c before ≤ gap.from →
        (gap.from < a.offset + a.slots) ⊎ (a.offset + a.slots ≤ gap.from) →
        (end_of c (before ++ a ∷ []) ≤ gap.from → IsMetIn ((before ++ a ∷ []) ++ plan) 0) →
        IsMetIn ((before ++ a ∷ []) ++ plan) 0
    met-cases before plan a stands le (inl lt) rest =
        met-longer (before ++ a ∷ []) plan
        (met-or-gap (is_met before 0) before a refl stands (omega (arith, stands.follows)) lt)
    met-cases before plan a stands le (inr far) rest =
        rest (omega (arith, end_of-push c before a, stands.follows))

    -- some allocation has the gap's first minislot
    met-by-plan : (before plan : List Allocation) → EachAfter (Stands c d) before plan → end_of c before ≤ gap.from →
        gap.from < end_of c (before ++ plan) → IsMetIn (before ++ plan) 0
    met-by-plan before [] each le lt = absurd (omega (arith, ap (end_of c) (append-nil before)))
    met-by-plan before (a ∷ plan) each le lt =
        let same : (before ++ a ∷ []) ++ plan ≡ before ++ a ∷ plan = append_assoc before (a ∷ []) plan in
        subst (λ (all : List Allocation). IsMetIn all 0) same
        (met-cases before plan a each.0 le (cases_lt gap.from (a.offset + a.slots))
        (λ far. met-by-plan (before ++ a ∷ []) plan each.1 far (omega (arith, ap (end_of c) same))))

  module _ (sends : d.settles ≡ false) (plan : List Allocation) (is : IsPlan c d plan) where
    -- of the minislots of an opportunity no spot has one
    free-here : (a : Allocation) (place : ℕ) → Contains plan a → place_of a.purpose ≡ Some place → (s : Spot) →
        Contains d.spots s → (a.offset + a.slots ≤ s.offset) ⊎ (s.offset + s.slots ≤ a.offset)
    free-here a place has at s there =
        let due : Contains plan (allocation_of s) =
        member-at (λ (t : Spot). Contains plan (allocation_of t)) d.spots s (is.due sends) there in
        elim (disjoint [] plan is.each a (allocation_of s) has due) [
          | inl same ↦ absurd (none-some
              (sym (spot-no-place s.size s.sid s.offset s.slots)
              ∙ sym (ap (λ (b : Allocation). place_of b.purpose) same) ∙ at))
          | inr past ↦ past
        ]
      where
        none-some : None ≡ Some place → ⊥
        none-some e = absurd (cc)

    -- the opportunity that stands at a place is as long as the room
    offer-fits : (before : List Allocation) (offset slots place : ℕ) (purpose : Purpose) (o : Opportunity) →
        IsOfClass c d before offset slots purpose → place_of purpose ≡ Some place → slice_get d.waiting place ≡ Some o →
        (o.slots ≡ slots) × (slots ≤ room_at c d.spots offset)
    offer-fits before offset slots place (Poll sid) o stands at waits = absurd (cc)
    offer-fits before offset slots place (UnsolicitedGrant sid size) o stands at waits = absurd (cc)
    offer-fits before offset slots place (DataGrant sid bytes) o stands at waits = absurd (cc)
    offer-fits before offset slots place Idle o stands at waits = absurd (cc)
    offer-fits before offset slots place (Offer other usage) o stands at waits =
        let same : other ≡ place = ap (λ (m : Option ℕ). unwrap_or m place) at in
        let one : o ≡ record { usage = usage; slots = slots } =
        ap (told o) (sym waits ∙ ap (slice_get d.waiting) (sym same) ∙ stands.may.waits) in
        (ap (λ (p : Opportunity). p.slots) one, stands.may.fits)

    gap-here : (before : List Allocation) (a : Allocation) (place : ℕ) (o : Opportunity) →
        Stands c d before a → Contains plan a → place_of a.purpose ≡ Some place → slice_get d.waiting place ≡ Some o →
        HasGap c d.spots o.slots
    gap-here before a place o stands has at waits =
        let long = offer-fits before a.offset a.slots place a.purpose o stands.purpose at waits in
        record {
          from = a.offset;
          behind = omega (arith, stands.follows);
          within = omega (arith, long.0, long.1, stands.some_slots, next_stop-most c d.spots a.offset);
          free = rw long.0
              (all-members (λ (s : Spot). (a.offset + a.slots ≤ s.offset) ⊎ (s.offset + s.slots ≤ a.offset)) d.spots
              (free-here a place has at));
        }

    gap-by-plan : (before rest : List Allocation) → EachAfter (Stands c d) before rest →
        (place : ℕ) (o : Opportunity) → slice_get d.waiting place ≡ Some o → IsMetIn rest place →
        ((b : Allocation) → Contains rest b → Contains plan b) → HasGap c d.spots o.slots
    gap-by-plan before [] each place o waits (b, (k, lt, at), met) within = absurd (omega arith)
    gap-by-plan before (a ∷ rest) each place o waits (b, (zero, lt, at), met) within =
        gap-here before a place o each.0 (within a (zero, omega arith, refl))
        (ap (λ (x : Allocation). place_of x.purpose) at ∙ met) waits
    gap-by-plan before (a ∷ rest) each place o waits (b, (suc k, lt, at), met) within =
        gap-by-plan (before ++ a ∷ []) rest each.1 place o waits
        (b, (k, omega arith, at), met) (λ x has. within x (contains-later rest a x has))

    -- the first opportunity that waits is met where there is a gap for it
    pub first-met : (o : Opportunity) → slice_get d.waiting 0 ≡ Some o → 0 < o.slots → HasGap c d.spots o.slots →
        IsMetIn plan 0
    first-met o waits some gap =
        met-by-plan o waits some gap [] plan is.each (omega (arith, gap.behind))
        (omega (arith, is.whole sends, gap.within))

    -- one that is met has a gap
    pub met-gap : (place : ℕ) (o : Opportunity) → slice_get d.waiting place ≡ Some o → IsMetIn plan place →
        HasGap c d.spots o.slots
    met-gap place o waits met = gap-by-plan [] plan is.each place o waits met (λ b has. has)

-- of a lawful frame in which modems may send the first opportunity that waits is met exactly where there is a gap for
-- it
pub meets-first : (c : Config) (d : Demand) (plan : List Allocation) (met : List Bool) → d.settles ≡ false →
    MayWait d.waiting → IsPlan c d plan → AreMet plan met → MeetsFirst c d.spots d.waiting met
meets-first c d plan met sends may is marks = record {
  meets = λ o waits gap.
      marks.all 0 (first-met c d sends plan is o waits (waiting-some d.waiting 0 o may.some_slots waits) gap);
  only = λ o waits marked. met-gap c d sends plan is 0 o waits (marks.each 0 marked);
}

-- so where the making of a frame comes to an end
pub meets-first-ok : {E : Type 0} (c : Config) (d : Demand) (header : Header) (ack : ℕ) (r : Result PlannedFrame E) →
    d.settles ≡ false → MayWait d.waiting → IfOk r (IsLawfulFrame c d header ack) →
    IfOk r (λ p. MeetsFirst c d.spots d.waiting p.met)
meets-first-ok c d header ack r sends may lawful =
    IfOk-weaker r _ _ (λ p is. meets-first c d is.plan p.met sends may is.is_plan is.met) lawful
