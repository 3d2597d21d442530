-- A flow's minislots and starts are taken out of the rows and the counts, and put in.
use Rattle.std.proofs.Common.{◌≡◌, ap, ℕ, ◌+◌, ◌<◌, ◌≤◌, Bool, true, false, not, ◌==◌, List, length, get_or, None}
use Rattle.std.proofs.Common.{arith}
use Rattle.minislots.specs.declared.config.Config.{Config}
use Rattle.periodic.specs.declared.bits.Bits.{Bits}
use Rattle.periodic.specs.declared.group.Group.{Group}
use Rattle.periodic.specs.declared.spots.PlacedFlow.{PlacedFlow}
use Rattle.sched_calls.specs.FlowSpec.{is_periodic, grants_of, first_fault}
use Rattle.periodic.specs.Placement.{Placed, spots_of, IsPlacement}
use Rattle.periodic.specs.Table.{placed_grants, placed_at, IsNotPlaced, with_placed, without, AreSound}
use Rattle.periodic.specs.Rows.{row_at, AreMarked, AreRowsOf, AreBounds}
use Rattle.periodic.specs.Counts.{AreCounts, AreCounted, MayCount}
use Rattle.periodic.specs.Fields.{placed_of, KeepsTimes, IsSoundFlow}
use Rattle.periodic.specs.Groups.{placed_in, AreSoundFields}
use Rattle.periodic.proofs.Adding.{new-sound, sound-with}
use Rattle.periodic.proofs.Among.{StandsAmong}
use Rattle.periodic.proofs.Counting.{counts-with}
use Rattle.periodic.proofs.Occupied.{tells-with}
use Rattle.periodic.proofs.Removing.{sound-filter}
use Rattle.periodic.proofs.Summed.{spots-without, may-uncount, counts-without}
use Rattle.periodic.proofs.Vacated.{tells-without}

-- They were taken out, or put in
pub record IsLifted (c : Config) (f : Placed) (bit : ℕ) (taken : Bool) (rows new : List Bits) (bound : List ℕ)
    (counts tally : List ℕ) : Type 0 where
  pub long : length new ≡ c.cycle
  pub bounded : AreBounds c new bound
  pub marked : (k : ℕ) → AreMarked (spots_of c k f) bit (row_at c rows k) (row_at c new k)
  pub counted : (place : ℕ) → place < c.cycle
      → AreCounted taken (get_or counts place 0) (length (spots_of c place f)) (get_or tally place 0)

-- The rows and the counts are those of placed flows, which are sound
pub record AreThoseOf (c : Config) (placed : List Placed) (rows : List Bits) (counts : List ℕ) : Type 0 where
  pub sound : AreSound c placed
  pub told : AreRowsOf c placed rows
  pub counted : AreCounts c placed counts

module _ (c : Config) (sid : ℕ) (f : Placed) (placed : List Placed) (rows : List Bits) (counts : List ℕ)
    (stands : StandsAmong sid f placed) (are : AreThoseOf c placed rows counts) where
  -- the starts of a flow that stands may be taken out
  pub lift-may : MayCount c f false counts
  lift-may = may-uncount c sid f placed counts are.counted stands.found are.sound.ascending

  module _ (out : List Bits) (bound fewer : List ℕ)
      (lifted : IsLifted c f 0 false rows out bound counts fewer) where
    -- without it they are those of the others
    pub lift-others : AreThoseOf c (without sid placed) out fewer
    lift-others = record {
      sound = sound-filter c (λ g. not (g.sid == sid)) placed are.sound;
      told = record {
        long = lifted.long;
        each = λ k. tells-without c k sid f placed (row_at c rows k) (row_at c out k) stands.found are.sound.ascending
            (are.sound.apart k) (are.told.each k) (lifted.marked k);
      };
      counted = counts-without c sid f placed counts are.counted stands.found are.sound.ascending fewer lifted.counted;
    }

    -- its starts may be put in again
    pub back-may : MayCount c f true fewer
    back-may place low =
        omega (
          arith,
          lift-others.counted place low,
          spots-without c place sid f placed stands.found are.sound.ascending,
          are.sound.few place,
        )

    -- those of another that is lawful beside the others may be put in, and are then among them
    pub lift-put : (g : Placed) (back : List Bits) (bounds tally : List ℕ)
        → AreSound c (with_placed g (without sid placed))
        → IsLifted c g 1 true out back bounds fewer tally → AreThoseOf c (with_placed g (without sid placed)) back tally
    lift-put g back bounds tally sound put = record {
      sound = sound;
      told = record {
        long = put.long;
        each = λ k. tells-with c k g (without sid placed) (row_at c out k) (row_at c back k) (lift-others.told.each k)
            (put.marked k);
      };
      counted = counts-with c g (without sid placed) fewer lift-others.counted tally put.counted;
    }

    -- with it put in again they are those of all
    pub lift-back : (back : List Bits) (bounds tally : List ℕ) → IsLifted c f 1 true out back bounds fewer tally
        → AreThoseOf c placed back tally
    lift-back back bounds tally put =
        rw (← stands.back) at (lift-put f back bounds tally (rw (← stands.back) are.sound) put)

-- those of a table's fields are so
pub fields-those : (c : Config) (groups : List Group) (rows : List Bits) (most counts : List ℕ) (grants len : ℕ)
    → AreSoundFields c groups rows most counts grants len → AreThoseOf c (placed_in groups) rows counts
fields-those c groups rows most counts grants len are =
    record { sound = are.sound; told = are.told; counted = are.counted }

-- and the fields are sound with others that are so
pub fields-again : (c : Config) (groups : List Group) (rows back : List Bits) (most bounds counts tally : List ℕ)
    (grants len : ℕ) → AreSoundFields c groups rows most counts grants len
    → AreThoseOf c (placed_in groups) back tally → AreBounds c back bounds
    → AreSoundFields c groups back bounds tally grants len
fields-again c groups rows back most bounds counts tally grants len are those bounded = record {
  sound = those.sound;
  each = are.each;
  filled = are.filled;
  told = those.told;
  bounded = bounded;
  counted = those.counted;
  summed = are.summed;
  long = are.long;
}

module _ (c : Config) (others : List Placed) (old g : PlacedFlow) (next : ℕ) (before : IsSoundFlow c old)
    (own : old.sid ≡ g.sid) (awake : g.rests ≡ false) (times : KeepsTimes c g) (periodic : is_periodic g.spec ≡ true)
    (none : first_fault c g.spec ≡ None) (lawful : IsPlacement c others g.spec next g.placement) where
  as-new : placed_of g ≡ placed_at g.sid g.spec g.placement
  as-new = ap (λ r. record { sid = g.sid; spec = g.spec; placement = g.placement; rests = r }) awake

  low : 0 < g.sid
  low = omega (arith, own, before.sound.sid_positive)

  high : g.sid ≤ 8191
  high = omega (arith, own, before.sound.sid_most)

  -- a flow that has the SID of a sound one, and is lawfully placed beside the others, is sound
  pub put-sound : IsSoundFlow c g
  put-sound = record {
    sound = rw as-new (new-sound c others g.sid g.spec next g.placement low high periodic none lawful);
    times = times;
  }

  -- and so are all with it
  pub put-placed : placed_grants others + grants_of g.spec ≤ c.periodic → IsNotPlaced g.sid others → AreSound c others
      → AreSound c (with_placed (placed_of g) others)
  put-placed room absent are =
      rw as-new
      (sound-with c others g.sid g.spec next g.placement times.lawful low high periodic none room absent lawful are)
