-- The fields of a table with one flow more, and without one.
use Rattle.std.proofs.Common.{◌≡◌, sym, ap, subst, ℕ, ◌+◌, not, ◌==◌, List, length, map, find, Some, arith}
use Rattle.sched_calls.proofs.Insertion.{length-put_in}
use Rattle.minislots.specs.declared.config.Config.{Config}
use Rattle.periodic.specs.declared.bits.Bits.{Bits}
use Rattle.periodic.specs.declared.group.Group.{Group}
use Rattle.periodic.specs.declared.spots.PlacedFlow.{PlacedFlow}
use Rattle.periodic.specs.Placement.{Placed, spots_of}
use Rattle.periodic.specs.Table.{placed_grants, with_placed, without, IsSoundPlaced, AreSound}
use Rattle.periodic.specs.Rows.{row_at, AreMarked, AreBounds}
use Rattle.periodic.specs.Counts.{AreCounts}
use Rattle.periodic.specs.Fields.{placed_of, KeepsTimes, IsSoundFlow}
use Rattle.periodic.specs.Groups.{flows_in, in_order, placed_in, AreSoundGroups, HaveFlows, AreSoundFields}
use Rattle.periodic.proofs.Occupied.{tells-with}
use Rattle.periodic.proofs.Vacated.{tells-without}
use Rattle.periodic.proofs.Removing.{sound-filter}

-- a flow's fields are sound where it is soundly placed
pub fields-of : (c : Config) (g : PlacedFlow) (f : Placed) → placed_of g ≡ f → IsSoundPlaced c f → KeepsTimes c g
    → IsSoundFlow c g
fields-of c g f is sound times = record { sound = subst (IsSoundPlaced c) (sym is) sound; times = times }

-- the fields are sound with the same flows in other groups
pub fields-same : (c : Config) (groups new : List Group) (rows : List Bits) (most counts : List ℕ) (grants len : ℕ)
    → flows_in new ≡ flows_in groups → AreSoundGroups c new → HaveFlows new
    → AreSoundFields c groups rows most counts grants len → AreSoundFields c new rows most counts grants len
fields-same c groups new rows most counts grants len is each filled are =
    let same : placed_in new ≡ placed_in groups = ap (λ fs. in_order (map placed_of fs)) is in
    record {
      sound = rw same are.sound;
      each = each;
      filled = filled;
      told = rw same are.told;
      bounded = are.bounded;
      counted = rw same are.counted;
      summed = rw same are.summed;
      long = rw same are.long;
    }

-- what is marked for a flow's fields is marked for the flow
pub marked-for : (c : Config) (k bit : ℕ) (g : PlacedFlow) (f : Placed) (given rows new : List Bits) → placed_of g ≡ f
    → given ≡ rows → AreMarked (spots_of c k (placed_of g)) bit (row_at c given k) (row_at c new k)
    → AreMarked (spots_of c k f) bit (row_at c rows k) (row_at c new k)
marked-for c k bit g f given rows new is same marked =
    subst (λ h. AreMarked (spots_of c k h) bit (row_at c rows k) (row_at c new k)) is
    (subst (λ bs. AreMarked (spots_of c k (placed_of g)) bit (row_at c bs k) (row_at c new k)) same marked)

module _ (c : Config) (groups new : List Group) (rows marked : List Bits) (f : Placed)
    (most bounds counts tally : List ℕ) (before grants many len : ℕ)
    (are : AreSoundFields c groups rows most counts before many)
    (long : length marked ≡ c.cycle) (bounded : AreBounds c marked bounds) (each : AreSoundGroups c new) (filled : HaveFlows new)
  where
    -- with one flow more, whose minislots are marked as taken, the fields are sound
    pub fields-with : placed_in new ≡ with_placed f (placed_in groups)
        → AreSound c (with_placed f (placed_in groups))
        → ((k : ℕ) → AreMarked (spots_of c k f) 1 (row_at c rows k) (row_at c marked k))
        → AreCounts c (with_placed f (placed_in groups)) tally
        → grants ≡ placed_grants (with_placed f (placed_in groups)) → len ≡ many + 1
        → AreSoundFields c new marked bounds tally grants len
    fields-with is sound marks counted sum one = record {
      sound = rw is sound;
      each = each;
      filled = filled;
      told = record {
        long = long;
        each = λ k. rw is (tells-with c k f (placed_in groups) (row_at c rows k) (row_at c marked k) (are.told.each k)
            (marks k));
      };
      bounded = bounded;
      counted = rw is counted;
      summed = rw is sum;
      long = omega (arith, one, are.long, ap length is, length-put_in (λ g. g.sid) f (placed_in groups));
    }

    -- without one flow, whose minislots are marked as free, too
    pub fields-without : (sid : ℕ) → placed_in new ≡ without sid (placed_in groups)
        → find (λ g. g.sid == sid) (placed_in groups) ≡ Some f
        → ((k : ℕ) → AreMarked (spots_of c k f) 0 (row_at c rows k) (row_at c marked k))
        → AreCounts c (without sid (placed_in groups)) tally
        → grants ≡ placed_grants (without sid (placed_in groups)) → len ≡ length (placed_in new)
        → AreSoundFields c new marked bounds tally grants len
    fields-without sid is found marks counted sum many = record {
      sound = rw is (sound-filter c (λ g. not (g.sid == sid)) (placed_in groups) are.sound);
      each = each;
      filled = filled;
      told = record {
        long = long;
        each = λ k. rw is (tells-without c k sid f (placed_in groups) (row_at c rows k) (row_at c marked k) found
            are.sound.ascending (are.sound.apart k) (are.told.each k) (marks k));
      };
      bounded = bounded;
      counted = rw is counted;
      summed = rw is sum;
      long = many;
    }
