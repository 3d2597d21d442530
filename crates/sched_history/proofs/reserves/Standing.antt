-- What the MAP of a plan has of the opportunities that it meets, and that it has no other.
use Rattle.std.proofs.Common.{◌≡◌, ℕ, suc, ◌+◌, Bool, true, false, ◌||◌, ◌==◌, if◌then◌else◌, List, [], ◌∷◌, ◌++◌}
use Rattle.std.proofs.Common.{map, filter, zip, Option, None, Some, IsSomeAnd, Contains, slice_get, refl, sym, ap, ◌∙◌}
use Rattle.std.proofs.Common.{subst, append_assoc, arith}
use Rattle.std.specs.List.{AllByRecursion, cons_option}
use Rattle.std.specs.Option.{option_map}
use Rattle.std.proofs.lemmas.List.{append-nil}
use Rattle.minislots.specs.declared.config.Config.{Config}
use Rattle.minislots.specs.Units.{is_short}
use Rattle.map_codec.specs.declared.element.Element.{Element}
use Rattle.map_codec.specs.declared.element.iuc.TheConstants.{REQUEST, INITIAL_MAINTENANCE, STATION_MAINTENANCE}
use Rattle.map_codec.specs.declared.element.iuc.TheConstants.{SHORT_DATA_GRANT, LONG_DATA_GRANT}
use Rattle.map_codec.specs.declared.element.iuc.TheConstants.{ADVANCED_SHORT_DATA_GRANT, ADVANCED_LONG_DATA_GRANT}
use Rattle.map_codec.specs.declared.element.iuc.TheConstants.{ADVANCED_UNSOLICITED_GRANT}
use Rattle.flow_book.specs.Flows.{LiveFlow}
use Rattle.flow_book.specs.Shown.{is_shown}
use Rattle.sched_calls.specs.declared.opportunity.Opportunity.{Opportunity}
use Rattle.map_build.specs.declared.purpose.Allocation.{Allocation}
use Rattle.map_build.specs.declared.purpose.Purpose.{Purpose}
use Rattle.map_build.specs.declared.purpose.Purpose.TheVariants.{Poll, UnsolicitedGrant, Offer, DataGrant, Idle}
use Rattle.map_build.specs.EachAfter.{EachAfter}
use Rattle.map_build.specs.UsageCodes.{short_iuc, long_iuc, data_iuc, unsolicited_iuc}
use Rattle.map_build.specs.Purpose.{is_open, place_of, element_of, bytes_in}
use Rattle.map_build.specs.Plan.{Demand, end_of, flows_after, IsOfClass, Stands, IsPlan}
use Rattle.map_build.specs.FrameMap.{request_region, quiet_element, head_of, null_element, pending_of, pending, elements_of, bytes_of_plan}
use Rattle.map_build.specs.declared.met.Met.{Met}
use Rattle.map_build.specs.Reading.{met_from, meets_at}
use Rattle.map_build.proofs.Counts.{end_of-push}
use Rattle.map_build.proofs.FlowsAfter.{allocation}
use Rattle.map_build.proofs.Reading.{met_by_plan, meets_at-member}
use Rattle.sched_history.specs.Ranging.{StandsIn, is_ranging, IsMetThere}
use Rattle.sched_history.proofs.lists.Members.{Contains-first, Contains-later}

module _ (c : Config) where
  stands-later : (e : Element) (b : ℕ) (es : List Element) (bs : List ℕ) (x : Met) (o : Opportunity)
      → StandsIn c es bs x o → StandsIn c (e ∷ es) (b ∷ bs) x o
  stands-later e b es bs x o is =
      let next : suc is.index + 1 ≡ suc (is.index + 1) = omega arith in
      record {
        index = suc is.index;
        element = is.element;
        long = ap (λ k. option_map (λ (e : Element). e.offset) (slice_get (e ∷ es) k)) next ∙ is.long;
        unasked = is.unasked;
      }

  -- an opportunity that is met stands among elements, where it waits at its place
  abbrev IsThere : List Opportunity → List Element → List ℕ → Met → Type 0
  IsThere waiting es bs x = IsSomeAnd (slice_get waiting x.place) (StandsIn c es bs x)

  there-later : (e : Element) (b : ℕ) (es : List Element) (bs : List ℕ) (x : Met) (o : Option Opportunity)
      → IsSomeAnd o (StandsIn c es bs x) → IsSomeAnd o (StandsIn c (e ∷ es) (b ∷ bs) x)
  there-later e b es bs x None is = is
  there-later e b es bs x (Some o) is = stands-later e b es bs x o is

  -- what stands among elements does among more
  pub all-later : (waiting : List Opportunity) (e : Element) (b : ℕ) (es : List Element) (bs : List ℕ) (met : List Met)
      → AllByRecursion (IsThere waiting es bs) met → AllByRecursion (IsThere waiting (e ∷ es) (b ∷ bs)) met
  all-later waiting e b es bs [] all = tt
  all-later waiting e b es bs (x ∷ met) all = (
    there-later e b es bs x (slice_get waiting x.place) all.0,
    all-later waiting e b es bs met all.1,
  )

module _ (c : Config) (d : Demand) where
  -- the first of these elements begins there
  abbrev BeginsAt : ℕ → List Element → Type 0
  BeginsAt offset es = option_map (λ e. e.offset) (slice_get es 0) ≡ Some offset

  -- the elements of a plan begin where what is before them ends
  begins-plan : (before plan : List Allocation) (es : List Element) → EachAfter (Stands c d) before plan
      → end_of c (before ++ plan) ≡ c.frame
      → BeginsAt (end_of c before) (map (element_of c) plan ++ null_element c ∷ es)
  begins-plan before [] es each whole = ap Some (sym whole ∙ ap (end_of c) (append-nil before))
  begins-plan before (a ∷ plan) es each whole = ap Some each.0.follows

  -- the element of an opportunity that an allocation is, in front of others
  there-first : (offset slots : ℕ) (purpose : Purpose) (before : List Allocation) (es : List Element) (bs : List ℕ)
      (rest : List Met) → IsOfClass c d before offset slots purpose → BeginsAt (offset + slots) es
      → AllByRecursion (IsThere c d.waiting
      (element_of c (allocation offset slots purpose) ∷ es)
      (bytes_in c (allocation offset slots purpose) ∷ bs)) rest
      → AllByRecursion (IsThere c d.waiting
      (element_of c (allocation offset slots purpose) ∷ es)
      (bytes_in c (allocation offset slots purpose) ∷ bs))
      (cons_option (option_map (met_from offset) (place_of purpose)) rest)
  there-first offset slots (Poll sid) before es bs rest stands next all = all
  there-first offset slots (UnsolicitedGrant sid size) before es bs rest stands next all = all
  there-first offset slots (DataGrant sid bytes) before es bs rest stands next all = all
  there-first offset slots Idle before es bs rest stands next all = all
  there-first offset slots (Offer place usage) before es bs rest stands next all =
      let a : Allocation = allocation offset slots (Offer place usage) in (
        subst (λ (o : Option Opportunity). IsSomeAnd o
            (StandsIn c (element_of c a ∷ es) (bytes_in c a ∷ bs) (met_from offset place))) (sym stands.may.waits)
            (record { index = 0; element = refl; long = next; unasked = refl }),
        all,
      )

  there-each : (before plan : List Allocation) (es : List Element) (bs : List ℕ) → EachAfter (Stands c d) before plan
      → end_of c (before ++ plan) ≡ c.frame
      → AllByRecursion (IsThere c d.waiting (map (element_of c) plan ++ null_element c ∷ es) (map (bytes_in c) plan ++ bs))
      (met_by_plan plan)
  there-each before [] es bs each whole = tt
  there-each before (a ∷ plan) es bs each whole =
      let all : end_of c ((before ++ a ∷ []) ++ plan) ≡ c.frame = rw append_assoc whole in
      let ends : end_of c (before ++ a ∷ []) ≡ a.offset + a.slots =
      omega (arith, each.0.follows, end_of-push c before a) in
      let behind : List Element = map (element_of c) plan ++ null_element c ∷ es in
      there-first a.offset a.slots a.purpose before behind (map (bytes_in c) plan ++ bs) (met_by_plan plan) each.0.purpose
      (subst (λ n. BeginsAt n behind) ends (begins-plan (before ++ a ∷ []) plan es each.1 all))
      (all-later c d.waiting (element_of c a) (bytes_in c a) behind (map (bytes_in c) plan ++ bs) (met_by_plan plan)
      (there-each (before ++ a ∷ []) plan es bs each.1 all))

  there-filled : (settles : Bool) → d.settles ≡ settles → (plan : List Allocation) (es : List Element) (bs : List ℕ)
      → IsPlan c d plan
      → AllByRecursion (IsThere c d.waiting (map (element_of c) plan ++ null_element c ∷ es) (map (bytes_in c) plan ++ bs))
      (met_by_plan plan)
  there-filled true settles plan es bs is = rw (is.quiet settles) tt
  there-filled false sends plan es bs is = there-each [] plan es bs is.each (is.whole sends)

  -- each opportunity that a plan meets stands in its MAP
  pub there-plan : (plan : List Allocation) → IsPlan c d plan
      → AllByRecursion (IsThere c d.waiting (elements_of c d plan) (bytes_of_plan c d plan)) (met_by_plan plan)
  there-plan plan is =
      let tail : List Element = pending c (flows_after c d.start plan d.flows) in
      all-later c d.waiting (head_of c d) 0 (map (element_of c) plan ++ null_element c ∷ tail)
      (map (bytes_in c) plan ++ 0 ∷ map (λ e. 0) tail) (met_by_plan plan)
      (there-filled d.settles refl plan tail (0 ∷ map (λ e. 0) tail) is)

-- a usage code that is not for maintenance
abbrev IsOther : ℕ → Type 0
IsOther iuc = (iuc == INITIAL_MAINTENANCE || iuc == STATION_MAINTENANCE) ≡ false

either : (b : Bool) (x y : ℕ) → IsOther x → IsOther y → IsOther (if b then x else y)
either true x y one two = one
either false x y one two = two

short-other : (c : Config) → IsOther (short_iuc c)
short-other c = either (c.phy == 1) ADVANCED_SHORT_DATA_GRANT SHORT_DATA_GRANT refl refl

long-other : (c : Config) → IsOther (long_iuc c)
long-other c = either (c.phy == 1) ADVANCED_LONG_DATA_GRANT LONG_DATA_GRANT refl refl

data-other : (c : Config) (bytes : ℕ) → IsOther (data_iuc c bytes)
data-other c bytes =
    either (is_short c bytes) (short_iuc c) (long_iuc c) (short-other c) (long-other c)

unsolicited-other : (c : Config) (bytes : ℕ) → IsOther (unsolicited_iuc c bytes)
unsolicited-other c bytes =
    either (c.phy == 1) ADVANCED_UNSOLICITED_GRANT (data_iuc c bytes) refl (data-other c bytes)

-- an element that is not for maintenance
other-there : (met : List Met) (e : Element) (bytes : ℕ) → is_ranging e ≡ false → IsMetThere met e bytes
other-there met e bytes other = λ is. absurd (cc)

module _ (c : Config) (met : List Met) where
  met-there : (offset slots : ℕ) (purpose : Purpose)
      → ((place : ℕ) → place_of purpose ≡ Some place → meets_at met offset ≡ true)
      → IsMetThere met (element_of c (allocation offset slots purpose))
      (bytes_in c (allocation offset slots purpose))
  met-there offset slots (Poll sid) there = λ is. absurd (cc)
  met-there offset slots (UnsolicitedGrant sid size) there = λ is. absurd (let isnt = unsolicited-other c size in cc)
  met-there offset slots (Offer place usage) there = λ is. (refl, there place refl)
  met-there offset slots (DataGrant sid bytes) there = λ is. absurd (let isnt = data-other c bytes in cc)
  met-there offset slots Idle there =
      λ is. absurd (let isnt = either (is_open c slots) REQUEST (long_iuc c) refl (long-other c) in cc)

  met-pending : (flows : List LiveFlow)
      → AllByRecursion (λ e. IsMetThere met e.0 e.1) (zip (map (pending_of c) flows) (map (λ e. 0) (map (pending_of c) flows)))
  met-pending [] = tt
  met-pending (f ∷ flows) = ((λ is. absurd (let isnt = long-other c in cc)), met-pending flows)

  met-plan : (plan : List Allocation) (es : List Element) (bs : List ℕ)
      → ((a : Allocation) (place : ℕ) → Contains plan a → place_of a.purpose ≡ Some place → meets_at met a.offset ≡ true)
      → AllByRecursion (λ e. IsMetThere met e.0 e.1) (zip es bs)
      → AllByRecursion (λ e. IsMetThere met e.0 e.1) (zip (map (element_of c) plan ++ es) (map (bytes_in c) plan ++ bs))
  met-plan [] es bs there rest = rest
  met-plan (a ∷ plan) es bs there rest = (
    met-there a.offset a.slots a.purpose (λ place is. there a place (Contains-first a plan) is),
    met-plan plan es bs (λ b place has is. there b place (Contains-later a plan b has) is) rest,
  )

head-other : (c : Config) (settles : Bool) → is_ranging (if settles then quiet_element c else request_region) ≡ false
head-other c true = long-other c
head-other c false = refl

-- the MAP of a plan has no other maintenance than the plan meets
pub no-other-plan : (c : Config) (d : Demand) (plan : List Allocation)
    → AllByRecursion (λ e. IsMetThere (met_by_plan plan) e.0 e.1)
    (zip (elements_of c d plan) (bytes_of_plan c d plan))
no-other-plan c d plan =
    let flows : List LiveFlow = flows_after c d.start plan d.flows in
    let tail : List Element = pending c flows in (
      other-there (met_by_plan plan) (head_of c d) 0 (head-other c d.settles),
      met-plan c (met_by_plan plan) plan (null_element c ∷ tail) (0 ∷ map (λ e. 0) tail)
          (λ a place has is. meets_at-member plan a place has is)
          ((λ is. absurd (cc)), met-pending c (met_by_plan plan) (filter (is_shown c.pending flows) flows)),
    )
