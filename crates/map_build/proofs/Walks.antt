-- One step of the walk along a frame: what is chosen among the spots that are left is one more of the plan.
use Rattle.std.proofs.Common.{◌≡◌, ◌+◌, ◌≤◌, false, List, [], ◌∷◌, ◌++◌, sym, ap, subst, arith}
use Rattle.minislots.specs.declared.config.Config.{Config}
use Rattle.periodic.specs.declared.placement.Spot.{Spot}
use Rattle.map_build.specs.declared.draft.Draft.{Draft}
use Rattle.map_build.specs.declared.purpose.Allocation.{Allocation}
use Rattle.map_build.specs.Plan.{Demand, Stands}
use Rattle.map_build.specs.Spots.{AreInFrame}
use Rattle.map_build.specs.Left.{left_at, AreLeft}
use Rattle.map_build.specs.Draft.{PutsAllocation}
use Rattle.map_build.specs.Walk.{HasPlan, Chooses, Takes}
use Rattle.map_build.proofs.Clear.{IsClear}
use Rattle.map_build.proofs.Left.{with_spots, stands-whole, left-clear, left-next}
use Rattle.map_build.proofs.Plans.{HasPlan-push}
use Rattle.map_build.proofs.Takings.{Takes-put}

module _ (c : Config) (d : Demand) (left : List Spot) (plan : List Allocation) (a : Allocation) (old mid : Draft)
    (sends : d.settles ≡ false) (are : AreInFrame c d.spots) (has : HasPlan c d plan old)
    (ahead : AreLeft c d.spots left old.offset) (chosen : Chooses left d.waiting a old mid) where
  there : AreLeft c d.spots left a.offset
  there = rw chosen.here ahead

  stands : Stands c (with_spots left d) plan a
  stands = subst (λ b. Stands c (with_spots left (record d { settles = b })) plan a) (sym sends)
      (rw (has.config, has.starts) at (chosen.stands d.flows plan has.after))

  clear : IsClear c left a
  clear = left-clear c (with_spots left d) plan a there.placed
      (omega (arith, chosen.here, has.ready.inside, ap (λ k. k.frame) has.config)) stands

  -- it ends within the frame
  pub chosen-fits : mid.offset + a.slots ≤ c.frame
  chosen-fits = omega (arith, clear.0, chosen.here, chosen.same.offset)

  module _ (new : Draft) (puts : PutsAllocation a mid new) where
    takes : Takes a old new
    takes = Takes-put a old mid new chosen.knows chosen.same chosen.here puts

    -- with its element the draft has the plan with it
    pub chosen-plan : HasPlan c d (plan ++ a ∷ []) new
    chosen-plan = HasPlan-push c d plan old new a are has takes (stands-whole c d left plan a there stands)

    -- and the spots behind it are left
    pub chosen-left : AreLeft c d.spots (left_at new.offset left) new.offset
    chosen-left = rw (takes.offset, ← chosen.here) (left-next c d.spots left a there clear)
