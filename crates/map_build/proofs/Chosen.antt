-- What stands at the offset that a draft has reached: the first of the first class that is not empty.
use Rattle.std.proofs.Common.{◌≡◌, ℕ, zero, suc, ◌+◌, ◌<◌, ◌≤◌, ◌⊎◌, Bool, true, false, List, [], ◌∷◌, length}
use Rattle.std.proofs.Common.{Contains}
use Rattle.std.proofs.Common.{◌==◌, Option, None, Some, inl, inr, refl, ap, ◌∙◌, subst, arith}
use Rattle.std.specs.Option.{IsSomeAnd}
use Rattle.std.specs.List.{AllByRecursion, slice_get}
use Rattle.minislots.specs.declared.config.Config.{Config}
use Rattle.minislots.specs.Bursts.{HasBursts}
use Rattle.minislots.proofs.UnitLaws.{slots_for-positive}
use Rattle.flow_book.specs.Flows.{LiveFlow, flow_of}
use Rattle.flow_book.specs.Choice.{IsNext, IsAmount, NoneEligible}
use Rattle.periodic.specs.declared.placement.Spot.{Spot}
use Rattle.map_build.specs.declared.draft.Draft.{Draft}
use Rattle.sched_calls.specs.declared.opportunity.Opportunity.{Opportunity}
use Rattle.map_build.specs.declared.purpose.Allocation.{Allocation}
use Rattle.map_build.specs.declared.purpose.Purpose.TheVariants.{Offer, Idle}
use Rattle.map_build.specs.Purpose.{allocation_of}
use Rattle.map_build.specs.Opportunities.{MayWait, IsUnmet, IsFirstUnmet, NoneUnmet}
use Rattle.map_build.specs.Plan.{Demand, demand_at, room_at, end_of, most_grants, MayMeet, IsFirstToMeet}
use Rattle.map_build.specs.Plan.{NoneToMeet, Stands}
use Rattle.map_build.specs.FrameMap.{AreMet}
use Rattle.map_build.specs.Spots.{AreInFrame}
use Rattle.map_build.specs.Walk.{HasSame, IsAfter, IsNextAmount, NoneServed, grant_here, Meets, Serves, Chooses}
use Rattle.map_build.proofs.Offers.{place-below}
use Rattle.map_build.proofs.Standings.{spot-within, found-in, equal}
use Rattle.map_build.proofs.Takings.{Knows-spot, Knows-idle}

spot-cond : (c : Config) (d : Demand) (plan : List Allocation) (size : Option ℕ) (sid offset slots : ℕ) →
    0 < slots → offset ≡ end_of c plan →
    Contains d.spots (record { sid = sid; size = size; offset = offset; slots = slots }) →
    Stands c d plan (allocation_of (record { sid = sid; size = size; offset = offset; slots = slots }))
spot-cond c d plan None sid offset slots some here is =
    record { some_slots = some; follows = here; purpose = is; first = tt }
spot-cond c d plan (Some size) sid offset slots some here is =
    record { some_slots = some; follows = here; purpose = is; first = tt }

-- a spot stands where it begins
pub spot-stands : (c : Config) (d : Demand) (plan : List Allocation) (s : Spot) → AreInFrame c d.spots →
    Contains d.spots s → s.offset ≡ end_of c plan → Stands c d plan (allocation_of s)
spot-stands c d plan s are is here =
    spot-cond c d plan s.size s.sid s.offset s.slots (spot-within c d.spots s are is).some_slots here is

mark-cond : (o : Option Bool) (b : Bool) → (o ≡ Some true → ⊥) → o ≡ Some b → o ≡ Some false
mark-cond o true never is = absurd (never is)
mark-cond o false never is = is

mark-at : (met : List Bool) (place : ℕ) → place < length met → (b : Bool) × (slice_get met place ≡ Some b)
mark-at [] place lt = absurd (omega arith)
mark-at (b ∷ met) zero lt = (b, refl)
mark-at (b ∷ met) (suc place) lt = mark-at met place (omega arith)

apart-marks : (o : Option Bool) → o ≡ Some true → o ≡ Some false → ⊥
apart-marks o is other = absurd (cc)

module _ (waiting : List Opportunity) (met : List Bool) (plan : List Allocation) (room : ℕ) (may : MayWait waiting)
    (long : length met ≡ 16) (are : AreMet plan met) where
  -- what no mark stands at the plan does not meet
  unmet-may : (place : ℕ) (is : IsUnmet waiting met room place) → MayMeet waiting plan room place is.opportunity
  unmet-may place is = record {
    waits = is.waits;
    unmet = λ meets. apart-marks (slice_get met place) (are.all place meets) is.unmet;
    fits = is.fits;
  }

  -- and the other way round
  may-unmet : (place : ℕ) (o : Opportunity) → MayMeet waiting plan room place o → IsUnmet waiting met room place
  may-unmet place o is =
      let mark = mark-at met place (omega (arith, place-below waiting place o is.waits, may.few, long)) in
      record {
        opportunity = o;
        waits = is.waits;
        unmet = mark-cond (slice_get met place) mark.0 (λ marked. is.unmet (are.each place marked)) mark.1;
        fits = is.fits;
      }

  -- the first that is not marked is the first to meet
  pub first-to-meet : (place : ℕ) (is : IsFirstUnmet waiting met room place) →
      IsFirstToMeet waiting plan room place is.is.opportunity
  first-to-meet place is = record {
    may = unmet-may place is.is;
    first = λ other o more. is.first other (may-unmet other o more);
  }

  -- where all are marked or too long there is none
  pub none-to-meet : NoneUnmet waiting met room → NoneToMeet waiting plan room
  none-to-meet none = λ place o is. none place (may-unmet place o is)

-- what waits has some minislots
pub waiting-some : (waiting : List Opportunity) (place : ℕ) (o : Opportunity) →
    AllByRecursion (λ o. 0 < o.slots) waiting → slice_get waiting place ≡ Some o → 0 < o.slots
waiting-some [] place o all is = absurd (cc)
waiting-some (w ∷ waiting) zero o all is = let same : w ≡ o = cc in subst (λ p. 0 < p.slots) same all.0
waiting-some (w ∷ waiting) (suc place) o all is = waiting-some waiting place o all.1 is

module _ (flows : List LiveFlow) (spots : List Spot) (waiting : List Opportunity) (plan : List Allocation) (d : Draft)
    (after : IsAfter flows plan d) (behind : 0 < room_at d.overlay.config spots d.offset) where
  -- the first opportunity that waits and fits
  pub offer-stands : (place : ℕ) (o : Opportunity) → 0 < o.slots →
      IsFirstToMeet waiting plan (room_at d.overlay.config spots d.offset) place o →
      Stands d.overlay.config (demand_at flows spots waiting d.start) plan
      (record { offset = d.offset; slots = o.slots; purpose = Offer place o.usage })
  offer-stands place o some first =
      record { some_slots = some; follows = after.ends; purpose = first; first = (behind, tt) }

  grant-cond : (sid bytes : ℕ) (o : Option LiveFlow) → HasBursts d.overlay.config.bursts → d.grants < most_grants d.overlay.config waiting →
      NoneToMeet waiting plan (room_at d.overlay.config spots d.offset) →
      ((f : LiveFlow) → o ≡ Some f → f.sid ≡ sid) →
      IsSomeAnd o (λ f. IsNext d.overlay.config d.overlay.flows (d.start + d.offset) (room_at d.overlay.config spots d.offset) f
      × IsAmount d.overlay.config f (d.start + d.offset) (room_at d.overlay.config spots d.offset) bytes) →
      Stands d.overlay.config (demand_at flows spots waiting d.start) plan (grant_here d sid bytes)
  grant-cond sid bytes None bursts few none named is = absurd is
  grant-cond sid bytes (Some f) bursts few none named is = record {
    some_slots = slots_for-positive d.overlay.config bursts bytes is.1.allowed.positive;
    follows = after.ends;
    purpose = (
      omega (arith, few, after.grants),
      f,
      named f refl,
      subst (λ fs. IsNext d.overlay.config fs (d.start + d.offset) (room_at d.overlay.config spots d.offset) f)
          after.flows_now is.0,
      is.1,
      refl,
    );
    first = (behind, (none, tt));
  }

  -- a data grant of its amount to the flow that is next, where no opportunity waits that fits
  pub grant-stands : (sid bytes : ℕ) → HasBursts d.overlay.config.bursts → d.grants < most_grants d.overlay.config waiting →
      NoneToMeet waiting plan (room_at d.overlay.config spots d.offset) →
      IsNextAmount d (room_at d.overlay.config spots d.offset) sid bytes →
      Stands d.overlay.config (demand_at flows spots waiting d.start) plan (grant_here d sid bytes)
  grant-stands sid bytes bursts few none is = grant-cond sid bytes (flow_of sid d.overlay.flows) bursts few none
      (λ f found. equal f.sid sid (found-in (λ (g : LiveFlow). g.sid == sid) d.overlay.flows f found).1) is

  -- an idle up to the next stop, where nothing else may stand
  pub idle-stands : NoneToMeet waiting plan (room_at d.overlay.config spots d.offset) → (most_grants d.overlay.config waiting ≤ d.grants)
      ⊎ NoneEligible d.overlay.config d.overlay.flows (d.start + d.offset) (room_at d.overlay.config spots d.offset) →
      Stands d.overlay.config (demand_at flows spots waiting d.start) plan
      (record { offset = d.offset; slots = room_at d.overlay.config spots d.offset; purpose = Idle })
  idle-stands none served = record {
    some_slots = behind;
    follows = after.ends;
    purpose = refl;
    first = (
      behind,
      (
        none,
        (
          elim served [
            | inl full ↦ inl (omega (arith, full, after.grants))
            | inr nobody ↦ inr (subst (λ fs. NoneEligible d.overlay.config fs (d.start + d.offset)
                (room_at d.overlay.config spots d.offset)) after.flows_now nobody)
          ],
          tt,
        ),
      ),
    );
  }

same-draft : (d : Draft) → HasSame d d
same-draft d = record { elements = refl; bytes_of = refl; offset = refl }

-- the spot that begins here stands next
pub Chooses-spot : (spots : List Spot) (waiting : List Opportunity) (s : Spot) (d : Draft) →
    AreInFrame d.overlay.config spots → Contains spots s → s.offset ≡ d.offset →
    Chooses spots waiting (allocation_of s) d d
Chooses-spot spots waiting s d are is here = record {
  knows = Knows-spot s d;
  same = same-draft d;
  here = here;
  stands = λ flows plan after.
      spot-stands d.overlay.config (demand_at flows spots waiting d.start) plan s are is (here ∙ after.ends);
}

module _ (spots : List Spot) (waiting : List Opportunity) (room : ℕ) (old : Draft)
    (room_is : room ≡ room_at old.overlay.config spots old.offset) (some : 0 < room) (may : MayWait waiting)
    (long : length old.met ≡ 16) where
  behind : 0 < room_at old.overlay.config spots old.offset
  behind = omega (arith, room_is)

  -- where no spot does, the first opportunity that waits and fits
  pub Chooses-offer : (a : Allocation) (new : Draft) → Meets waiting room a old new → Chooses spots waiting a old new
  Chooses-offer a new meets = record {
    knows = meets.knows;
    same = meets.same;
    here = ap (λ (b : Allocation). b.offset) meets.is;
    stands = λ flows plan after.
        let first = first-to-meet waiting old.met plan room may long after.met meets.place meets.first in
        rw meets.is
        (offer-stands flows spots waiting plan old after behind meets.place meets.first.is.opportunity
        (waiting-some waiting meets.place meets.first.is.opportunity may.some_slots meets.first.is.waits)
        (subst (λ r. IsFirstToMeet waiting plan r meets.place meets.first.is.opportunity) room_is first));
  }

  none-fits : NoneUnmet waiting old.met room → (flows : List LiveFlow) (plan : List Allocation) →
      IsAfter flows plan old → NoneToMeet waiting plan (room_at old.overlay.config spots old.offset)
  none-fits none flows plan after =
      subst (NoneToMeet waiting plan) room_is (none-to-meet waiting old.met plan room may long after.met none)

  -- where there is none, a data grant of its amount to the flow that is next
  pub Chooses-grant : (a : Allocation) (new : Draft) → NoneUnmet waiting old.met room → HasBursts old.overlay.config.bursts →
      Serves waiting room a old new → Chooses spots waiting a old new
  Chooses-grant a new none bursts serves = record {
    knows = serves.knows;
    same = serves.same;
    here = ap (λ (b : Allocation). b.offset) serves.is;
    stands = λ flows plan after.
        rw serves.is
        (grant-stands flows spots waiting plan old after behind serves.sid serves.bytes bursts serves.few
        (none-fits none flows plan after)
        (subst (λ r. IsNextAmount old r serves.sid serves.bytes) room_is serves.next));
  }

  -- and where none may stand either, an idle
  pub Chooses-idle : NoneUnmet waiting old.met room → NoneServed waiting old room →
      Chooses spots waiting (record { offset = old.offset; slots = room; purpose = Idle }) old old
  Chooses-idle none served = record {
    knows = Knows-idle old.offset room old;
    same = same-draft old;
    here = refl;
    stands = λ flows plan after.
        rw room_is
        (idle-stands flows spots waiting plan old after behind (none-fits none flows plan after)
        (subst (NoneServed waiting old) room_is served));
  }
