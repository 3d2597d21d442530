-- What is read in the MAP of a plan is what the plan meets.
use Rattle.std.proofs.Common.{◌≡◌, ℕ, zero, suc, ◌+◌, ◌<◌, Bool, true, false, ◌||◌, ◌==◌, List}
use Rattle.std.proofs.Common.{[], ◌∷◌, ◌++◌, map, filter, Contains, Option, None, Some, if◌then◌else◌, refl, sym}
use Rattle.std.proofs.Common.{ap, ◌∙◌, subst, append_assoc, arith}
use Rattle.std.specs.List.{AllByRecursion, filter_map, cons_option}
use Rattle.std.specs.Option.{option_map, option_to_list}
use Rattle.std.proofs.lemmas.Bool.Decides.{nat_tests}
use Rattle.std.proofs.lemmas.List.{append-nil}
use Rattle.std.proofs.lemmas.List.Elements.{filter_map-append}
use Rattle.minislots.specs.declared.config.Config.{Config}
use Rattle.map_codec.specs.declared.element.Element.{Element}
use Rattle.flow_book.specs.Flows.{LiveFlow}
use Rattle.flow_book.specs.Shown.{is_shown}
use Rattle.periodic.specs.declared.placement.Spot.{Spot}
use Rattle.sched_calls.specs.declared.opportunity.Opportunity.{Opportunity}
use Rattle.map_build.specs.declared.purpose.Allocation.{Allocation}
use Rattle.map_build.specs.declared.purpose.Purpose.{Purpose}
use Rattle.map_build.specs.declared.purpose.Purpose.TheVariants.{Poll, UnsolicitedGrant, Offer, DataGrant, Idle}
use Rattle.map_build.specs.EachAfter.{EachAfter}
use Rattle.map_build.specs.Purpose.{class_of, classes_before, place_of, element_of}
use Rattle.map_build.specs.Plan.{Demand, room_at, IsMetIn, MayMeet, NoneToMeet, IsFirstToMeet, NoneOf, IsOfClass}
use Rattle.map_build.specs.Plan.{Stands, IsPlan, flows_after}
use Rattle.map_build.specs.FrameMap.{null_element, pending_of, pending, elements_of}
use Rattle.map_build.specs.declared.met.Met.{Met}
use Rattle.map_build.specs.Reading.{met_from, meets_place, meets_at, first_to_meet, met_at, met_over, met_in}
use Rattle.map_build.proofs.Chosen.{waiting-some}
use Rattle.map_build.proofs.FirstPlaces.{MayMeetAt, first_to_meet-found, first_to_meet-none}
use Rattle.map_build.proofs.Offers.{is_at, is_met, is_met-met, met-is_met, unmet-test}
use Rattle.map_build.proofs.Stops.{next_stop-most, next_stop-spot}

-- what an allocation meets, and where
abbrev pub met_of : Allocation → Option Met
met_of a = option_map (met_from a.offset) (place_of a.purpose)

-- what a plan meets
abbrev pub met_by_plan : List Allocation → List Met
met_by_plan plan = filter_map met_of plan

meets-one : (k offset : ℕ) (o : Option ℕ) (met : List Met) (b : Bool) → meets_place met k ≡ b
    → meets_place (cons_option (option_map (met_from offset) o) met) k
    ≡ (if is_at k o then true else b)
meets-one k offset None met b rest = rest
meets-one k offset (Some place) met b rest = either (k == place) (meets_place met k) b rest
  where
    either : (d a b : Bool) → a ≡ b → (d || a) ≡ (if d then true else b)
    either true a b same = refl
    either false a b same = same

-- the places that a plan meets are those of its opportunities
pub meets_place-plan : (plan : List Allocation) (k : ℕ) → meets_place (met_by_plan plan) k ≡ is_met plan k
meets_place-plan [] k = refl
meets_place-plan (a ∷ plan) k =
    meets-one k a.offset (place_of a.purpose) (met_by_plan plan) (is_met plan k) (meets_place-plan plan k)

met_by_plan-push : (before : List Allocation) (a : Allocation) (o : Option ℕ) → place_of a.purpose ≡ o
    → met_by_plan (before ++ a ∷ [])
    ≡ met_by_plan before ++ map (met_from a.offset) (option_to_list o)
met_by_plan-push before a o is =
    filter_map-append met_of before (a ∷ [])
    ∙ ap (λ (p : Option ℕ). met_by_plan before
    ++ cons_option (option_map (met_from a.offset) p) []) is
    ∙ ap (λ met. met_by_plan before ++ met) (alone a.offset o)
  where
    alone : (offset : ℕ) (o : Option ℕ)
        → cons_option (option_map (met_from offset) o) []
        ≡ map (met_from offset) (option_to_list o)
    alone offset None = refl
    alone offset (Some place) = refl

never-both : (b : Bool) → b ≡ true → b ≡ false → ⊥
never-both b is isnt = absurd (cc)

module _ (waiting : List Opportunity) (before : List Allocation) (room : ℕ) where
  may-meet : (k : ℕ) (o : Opportunity) → MayMeetAt (met_by_plan before) room 0 waiting k o
      → MayMeet waiting before room k o
  may-meet k o may =
      let same : 0 + k ≡ k = omega arith in
      record {
        waits = may.0;
        unmet = λ met. never-both (is_met before k) (met-is_met before k met)
            (sym (meets_place-plan before k) ∙ ap (meets_place (met_by_plan before)) (sym same) ∙ may.1);
        fits = may.2;
      }

  meet-may : (k : ℕ) (o : Opportunity) → MayMeet waiting before room k o
      → MayMeetAt (met_by_plan before) room 0 waiting k o
  meet-may k o may =
      let same : 0 + k ≡ k = omega arith in (
        may.waits,
        ap (meets_place (met_by_plan before)) same ∙ meets_place-plan before k ∙ unmet-test before k may.unmet,
        may.fits,
      )

  none-first : NoneToMeet waiting before room → first_to_meet (met_by_plan before) room 0 waiting ≡ None
  none-first none =
      first_to_meet-none (met_by_plan before) room 0 waiting (λ k o may. none k o (may-meet k o may))

  one-first : (place : ℕ) (o : Opportunity) → IsFirstToMeet waiting before room place o
      → first_to_meet (met_by_plan before) room 0 waiting ≡ Some place
  one-first place o first =
      let same : 0 + place ≡ place = omega arith in
      first_to_meet-found (met_by_plan before) room 0 waiting place o (meet-may place o first.may)
      (λ k p may. first.first k p (may-meet k p may)) ∙ ap Some same

  -- where there is no room nothing is met
  no-room : AllByRecursion (λ o. 0 < o.slots) waiting → room ≡ 0 → NoneToMeet waiting before room
  no-room some none k o may = omega (arith, none, may.fits, waiting-some waiting k o some may.waits)

module _ (c : Config) (d : Demand) (some : AllByRecursion (λ o. 0 < o.slots) d.waiting) where
  spot-first : (before : List Allocation) (offset : ℕ) (s : Spot) → Contains d.spots s → s.offset ≡ offset
      → first_to_meet (met_by_plan before) (room_at c d.spots offset) 0 d.waiting ≡ None
  spot-first before offset s has here =
      let full : room_at c d.spots offset ≡ 0 =
      omega (arith, next_stop-spot c d.spots offset s has (omega (arith, here))) in
      none-first d.waiting before (room_at c d.spots offset)
      (no-room d.waiting before (room_at c d.spots offset) some full)

  -- what is met at the offset of an allocation is what it meets
  purpose-first : (before : List Allocation) (offset slots : ℕ) (purpose : Purpose)
      → IsOfClass c d before offset slots purpose
      → AllByRecursion (NoneOf c d before offset) (classes_before (class_of purpose))
      → first_to_meet (met_by_plan before) (room_at c d.spots offset) 0 d.waiting ≡ place_of purpose
  purpose-first before offset slots (Poll sid) stands first = spot-first before offset _ stands refl
  purpose-first before offset slots (UnsolicitedGrant sid size) stands first =
      spot-first before offset _ stands refl
  purpose-first before offset slots (Offer place usage) stands first =
      one-first d.waiting before (room_at c d.spots offset) place _ stands
  purpose-first before offset slots (DataGrant sid bytes) stands first =
      none-first d.waiting before (room_at c d.spots offset) first.1.0
  purpose-first before offset slots Idle stands first =
      none-first d.waiting before (room_at c d.spots offset) first.1.0

  met_at-next : (before : List Allocation) (a : Allocation) → Stands c d before a
      → met_by_plan before ++ met_at c d.spots d.waiting (met_by_plan before) a.offset ≡ met_by_plan (before ++ a ∷ [])
  met_at-next before a stands =
      ap (λ (o : Option ℕ). met_by_plan before
      ++ map (met_from a.offset) (option_to_list o))
      (purpose-first before a.offset a.slots a.purpose stands.purpose stands.first)
      ∙ sym (met_by_plan-push before a (place_of a.purpose) refl)

  -- what is met at the offsets of a plan is what the plan meets, and then what is behind
  met_over-each_plan : (before plan : List Allocation) (es : List Element) → EachAfter (Stands c d) before plan
      → met_over c d.spots d.waiting (met_by_plan before) (map (λ e. e.offset) (map (element_of c) plan ++ es))
      ≡ met_over c d.spots d.waiting (met_by_plan (before ++ plan)) (map (λ e. e.offset) es)
  met_over-each_plan before [] es each =
      ap (λ all. met_over c d.spots d.waiting (met_by_plan all) (map (λ (e : Element). e.offset) es))
      (sym (append-nil before))
  met_over-each_plan before (a ∷ plan) es each =
      ap (λ met. met_over c d.spots d.waiting met (map (λ (e : Element). e.offset) (map (element_of c) plan ++ es)))
      (met_at-next before a each.0)
      ∙ met_over-each_plan (before ++ a ∷ []) plan es each.1
      ∙ ap (λ all. met_over c d.spots d.waiting (met_by_plan all) (map (λ (e : Element). e.offset) es))
      (append_assoc before (a ∷ []) plan)

  end-none : (plan : List Allocation) → met_by_plan plan ++ met_at c d.spots d.waiting (met_by_plan plan) c.frame
      ≡ met_by_plan plan
  end-none plan =
      let full : room_at c d.spots c.frame ≡ 0 = omega (arith, next_stop-most c d.spots c.frame) in
      ap (λ (o : Option ℕ). met_by_plan plan
      ++ map (met_from c.frame) (option_to_list o))
      (none-first d.waiting plan (room_at c d.spots c.frame)
      (no-room d.waiting plan (room_at c d.spots c.frame) some full))
      ∙ append-nil (met_by_plan plan)

  pending-none : (plan : List Allocation) (flows : List LiveFlow)
      → met_over c d.spots d.waiting (met_by_plan plan) (map (λ e. e.offset) (map (pending_of c) flows))
      ≡ met_by_plan plan
  pending-none plan [] = refl
  pending-none plan (f ∷ flows) =
      ap (λ met. met_over c d.spots d.waiting met (map (λ (e : Element). e.offset) (map (pending_of c) flows)))
      (end-none plan)
      ∙ pending-none plan flows

  -- what the MAP of a plan meets is what the plan meets
  pub met_in-plan : (plan : List Allocation) → IsPlan c d plan
      → met_in c d.spots d.waiting (elements_of c d plan) ≡ met_by_plan plan
  met_in-plan plan is =
      let flows : List LiveFlow = flows_after c d.start plan d.flows in
      met_over-each_plan [] plan (null_element c ∷ pending c flows) is.each
      ∙ ap (λ met. met_over c d.spots d.waiting met (map (λ (e : Element). e.offset) (pending c flows))) (end-none plan)
      ∙ pending-none plan (filter (is_shown c.pending flows) flows)

or-later : (a b : Bool) → b ≡ true → (a || b) ≡ true
or-later true b is = refl
or-later false b is = is

or-here : (m n : ℕ) (b : Bool) → n ≡ m → (m == n || b) ≡ true
or-here m n b same = let is : (m == n) ≡ true = grind (arith, nat_tests) in rw is refl

begins-later : (offset at : ℕ) (o : Option ℕ) (met : List Met) → meets_at met at ≡ true
    → meets_at (cons_option (option_map (met_from offset) o) met) at ≡ true
begins-later offset at None met is = is
begins-later offset at (Some place) met is = or-later (at == offset) (meets_at met at) is

begins-here : (offset : ℕ) (o : Option ℕ) (place : ℕ) (met : List Met) → o ≡ Some place
    → meets_at (cons_option (option_map (met_from offset) o) met) offset ≡ true
begins-here offset None place met is = absurd (cc)
begins-here offset (Some other) place met is = or-here offset offset (meets_at met offset) refl

-- where an allocation of a plan begins that is an opportunity, one is met
pub meets_at-member : (plan : List Allocation) (a : Allocation) (place : ℕ) → Contains plan a
    → place_of a.purpose ≡ Some place → meets_at (met_by_plan plan) a.offset ≡ true
meets_at-member [] a place (k, lt, at) is = absurd (omega arith)
meets_at-member (b ∷ plan) a place (zero, lt, at) is =
    subst (λ (x : Allocation). meets_at (met_by_plan (b ∷ plan)) x.offset ≡ true) at
    (begins-here b.offset (place_of b.purpose) place (met_by_plan plan)
    (ap (λ (x : Allocation). place_of x.purpose) at ∙ is))
meets_at-member (b ∷ plan) a place (suc k, lt, at) is =
    begins-later b.offset a.offset (place_of b.purpose) (met_by_plan plan)
    (meets_at-member plan a place (k, omega arith, at) is)

-- what is met is met at its place
pub meets_place-member : (met : List Met) (x : Met) → Contains met x → meets_place met x.place ≡ true
meets_place-member [] x (k, lt, at) = absurd (omega arith)
meets_place-member (y ∷ met) x (zero, lt, at) =
    or-here x.place y.place (meets_place met x.place) (ap (λ (z : Met). z.place) at)
meets_place-member (y ∷ met) x (suc k, lt, at) =
    or-later (x.place == y.place) (meets_place met x.place) (meets_place-member met x (k, omega arith, at))

-- and by a plan it is one of its opportunities
pub met-member : (plan : List Allocation) (x : Met) → Contains (met_by_plan plan) x → IsMetIn plan x.place
met-member plan x has =
    is_met-met plan x.place
    (sym (meets_place-plan plan x.place) ∙ meets_place-member (met_by_plan plan) x has)
