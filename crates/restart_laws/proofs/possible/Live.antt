-- A live flow by itself: its parameters, grants and requests, and that each change keeps what is so of them.
use Rattle.std.proofs.Common.{◌≡◌, refl, ℕ, ◌+◌, ◌<◌, ◌≤◌, ◌↔◌, ◌==◌, Bool, true, false, cond, List, [], ◌∷◌}
use Rattle.std.proofs.Common.{Option, None, Some, unwrap_or, min, if◌then◌else◌, arith}
use Rattle.std.specs.Prelude.{IfSome, IsNone}
use Rattle.std.specs.List.{AllByRecursion, cons_option}
use Rattle.std.proofs.lemmas.Bool.Decides.{nat_tests}
use Rattle.std.proofs.lemmas.List.Sums.{sum_by-append}
use Rattle.minislots.specs.declared.config.Config.{Config}
use Rattle.sched_calls.specs.declared.spec.FlowSpec.{FlowSpec}
use Rattle.sched_calls.specs.FlowSpec.{first_fault}
use Rattle.flow_book.specs.Batches.{is_over, with_request}
use Rattle.flow_book.specs.Book.{new_flow, with_asked, with_replaced, with_spec}
use Rattle.flow_book.specs.declared.batches.Batches.{Batches}
use Rattle.flow_book.specs.declared.flow.Grant.{Grant}
use Rattle.flow_book.specs.Flows.{LiveFlow, granted}
use Rattle.flow_book.proofs.Order.{all-implied}
use Rattle.periodic.proofs.Joined.{all-append}
use Rattle.map_build.specs.declared.purpose.Allocation.{Allocation}
use Rattle.map_build.specs.declared.purpose.Purpose.{Purpose}
use Rattle.map_build.specs.declared.purpose.Purpose.TheVariants.{DataGrant}
use Rattle.map_build.specs.Purpose.{grant_to}
use Rattle.map_build.specs.Plan.{grants_to, with_grants}
use Rattle.map_build.proofs.FlowsAfter.{with_grants-is}
use Rattle.channel_states.specs.PossibleFlow.{IsDescribed}
use Rattle.sched_history.proofs.flows.MapGrants.{HasBytes}

-- A data grant of some bytes, in a frame that a MAP described
pub record IsPossibleGrant (c : Config) (next : ℕ) (g : Grant) : Type 0 where
  pub some : 0 < g.bytes
  pub described : IsDescribed c next g.start

-- The requests of a flow that asked for so much, and waits: the second batch is there where the first does not end with
-- all that was asked, and both were heard in described frames
pub record AreRequests (c : Config) (next asked : ℕ) (b : Batches) : Type 0 where
  pub end_most : b.end ≤ asked
  pub second : IsNone b.second ↔ (b.end ≡ asked)
  pub first_heard : IsDescribed c next b.first
  pub second_heard : IfSome b.second (IsDescribed c next)

-- A live flow that may be one where the next frame starts there
pub record IsPossibleLive (c : Config) (next : ℕ) (f : LiveFlow) : Type 0 where
  pub parameters : first_fault c f.spec ≡ None
  pub grants : AllByRecursion (IsPossibleGrant c next) f.grants
  pub requests : granted f < f.asked → AreRequests c next f.asked f.batches

-- the first request of batches that are not over
pub first-described : (c : Config) (next asked : ℕ) (b : Batches) → AreRequests c next asked b
    → IsDescribed c next (unwrap_or b.second b.first)
first-described c next asked b are = by-second b.second are.second_heard
  where
    by-second : (o : Option ℕ) → IfSome o (IsDescribed c next) → IsDescribed c next (unwrap_or o b.first)
    by-second None heard = are.first_heard
    by-second (Some slot) heard = heard

module _ (c : Config) (next : ℕ) where
  -- as the next frame goes on
  module _ (later : ℕ) (le : next ≤ later) where
    described-later : (slot : ℕ) → IsDescribed c next slot → IsDescribed c later slot
    described-later slot is = (is.0, omega (arith, is.1, le))

    second-later : (o : Option ℕ) → IfSome o (IsDescribed c next) → IfSome o (IsDescribed c later)
    second-later None is = tt
    second-later (Some slot) is = described-later slot is

    grants-later : (grants : List Grant) → AllByRecursion (IsPossibleGrant c next) grants
        → AllByRecursion (IsPossibleGrant c later) grants
    grants-later grants =
        all-implied (IsPossibleGrant c next) (IsPossibleGrant c later) grants
        (λ g is. record { some = is.some; described = described-later g.start is.described })

    requests-later : (asked : ℕ) (b : Batches) → AreRequests c next asked b → AreRequests c later asked b
    requests-later asked b are = record {
      end_most = are.end_most;
      second = are.second;
      first_heard = described-later b.first are.first_heard;
      second_heard = second-later b.second are.second_heard;
    }

    pub live-later : (f : LiveFlow) → IsPossibleLive c next f → IsPossibleLive c later f
    live-later f is = record {
      parameters = is.parameters;
      grants = grants-later f.grants is.grants;
      requests = λ waits. requests-later f.asked f.batches (is.requests waits);
    }

    -- with grants more that start before then
    pub live-granted : (gs : List Grant) (f : LiveFlow) → AllByRecursion (IsPossibleGrant c later) gs
        → IsPossibleLive c next f → IsPossibleLive c later (with_grants c gs f)
    live-granted gs f more is =
        rw (with_grants-is c gs f)
        (record {
          parameters = is.parameters;
          grants = all-append (IsPossibleGrant c later) f.grants gs (grants-later f.grants is.grants) more;
          requests = λ waits.
              (let all = sum_by-append (λ (g : Grant). g.bytes) f.grants gs in
              requests-later f.asked f.batches (is.requests (omega (arith, waits, all))));
        })

  -- a flow just admitted
  pub live-new : (sid : ℕ) (spec : FlowSpec) → first_fault c spec ≡ None → IsPossibleLive c next (new_flow sid spec)
  live-new sid spec none = record { parameters = none; grants = tt; requests = λ waits. absurd (omega (arith, waits)) }

  -- with other parameters
  pub live-spec : (spec : FlowSpec) (f : LiveFlow) → first_fault c spec ≡ None → IsPossibleLive c next f
      → IsPossibleLive c next (with_spec spec f)
  live-spec spec f none is = record { parameters = none; grants = is.grants; requests = is.requests }

  module _ (bytes heard : ℕ) (described : IsDescribed c next heard) where
    alone : (asked : ℕ) → AreRequests c next asked (record { end = asked; first = heard; second = None })
    alone asked = record {
      end_most = omega arith;
      second = ((λ none. refl), (λ same. refl));
      first_heard = described;
      second_heard = tt;
    }

    later-second : (first second end asked : ℕ) → end < asked → IsDescribed c next first → IsDescribed c next second
        → AreRequests c next asked (record { end = end; first = first; second = Some second })
    later-second first second end asked lt one two = record {
      end_most = omega arith;
      second = ((λ none. absurd cc), (λ same. absurd (omega (arith, same, lt))));
      first_heard = one;
      second_heard = two;
    }

    joined : (o : Option ℕ) → IfSome o (IsDescribed c next) → IsDescribed c next (min (unwrap_or o heard) heard)
    joined None is = (omega (arith, described.0), omega (arith, described.1))
    joined (Some slot) is = (omega (arith, described.0, is.0), omega (arith, described.1, is.1))

    -- the batches with a request more
    requests-more : (asked given : ℕ) (b : Batches) → 0 < bytes → given ≤ asked
        → (given < asked → AreRequests c next asked b)
        → AreRequests c next (asked + bytes) (with_request b asked given bytes heard)
    requests-more asked given b some within are = by-tests (asked == given) (is_over b given) refl
      where
        by-tests : (same over : Bool) → (asked == given) ≡ same → AreRequests c next (asked + bytes)
            (cond same (record { end = asked + bytes; first = heard; second = None })
            (cond over (record { end = asked; first = unwrap_or b.second b.first; second = Some heard })
            (record { end = b.end; first = b.first; second = Some (min (unwrap_or b.second heard) heard) })))
        by-tests true over test = alone (asked + bytes)
        by-tests false true test =
            let waits : given < asked = grind (arith, nat_tests) in
            later-second (unwrap_or b.second b.first) heard asked (asked + bytes) (omega (arith, some))
            (first-described c next asked b (are waits)) described
        by-tests false false test =
            let waits : given < asked = grind (arith, nat_tests) in
            later-second b.first (min (unwrap_or b.second heard) heard) b.end (asked + bytes)
            (omega (arith, some, (are waits).end_most)) (are waits).first_heard
            (joined b.second (are waits).second_heard)

    -- with a request more
    pub live-asked : (f : LiveFlow) → 0 < bytes → granted f ≤ f.asked → IsPossibleLive c next f
        → IsPossibleLive c next (with_asked bytes heard f)
    live-asked f some within is = record {
      parameters = is.parameters;
      grants = is.grants;
      requests = λ waits. requests-more f.asked (granted f) f.batches some within is.requests;
    }

    requests-anew : (given : ℕ) (b : Batches)
        → AreRequests c next (given + bytes) (with_request b given given bytes heard)
    requests-anew given b =
        let same : (given == given) ≡ true = grind (arith, nat_tests) in rw same (alone (given + bytes))

    -- with one in the place of others
    pub live-replaced : (f : LiveFlow) → IsPossibleLive c next f → IsPossibleLive c next (with_replaced bytes heard f)
    live-replaced f is = record {
      parameters = is.parameters;
      grants = is.grants;
      requests = λ waits. requests-anew (granted f) f.batches;
    }

module _ (c : Config) (frame start sid : ℕ) (from : c.start ≤ start) where
  chosen : (b : Bool) (g : Grant) (grants : List Grant) → IsPossibleGrant c (start + frame) g
      → AllByRecursion (IsPossibleGrant c (start + frame)) grants
      → AllByRecursion (IsPossibleGrant c (start + frame)) (cons_option (if b then Some g else None) grants)
  chosen true g grants here all = (here, all)
  chosen false g grants here all = all

  one-grant : (purpose : Purpose) (offset : ℕ) (grants : List Grant) → offset < frame → HasBytes purpose
      → AllByRecursion (IsPossibleGrant c (start + frame)) grants
      → AllByRecursion (IsPossibleGrant c (start + frame)) (cons_option (grant_to start sid purpose offset) grants)
  one-grant (DataGrant other bytes) offset grants lt has all =
      chosen (other == sid) (record { start = start + offset; bytes = bytes }) grants
      (record { some = has; described = (omega (arith, from), omega (arith, lt)) }) all
  one-grant purpose offset grants lt has all = all

  -- the data grants of a plan
  pub grants-possible : (plan : List Allocation) → AllByRecursion (λ a. a.offset < frame) plan
      → AllByRecursion (λ a. HasBytes a.purpose) plan
      → AllByRecursion (IsPossibleGrant c (start + frame)) (grants_to start sid plan)
  grants-possible [] offsets has = tt
  grants-possible (a ∷ plan) offsets has =
      one-grant a.purpose a.offset (grants_to start sid plan) offsets.0 has.0
      (grants-possible plan offsets.1 has.1)
