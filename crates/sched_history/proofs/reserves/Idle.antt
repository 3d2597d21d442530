-- The Reserves of histories in which nothing was reserved, or nothing has its place in the frames.
use Rattle.std.proofs.Common.{◌≡◌, ℕ, Bool, true, false, if◌then◌else◌, List, [], ◌∷◌, ◌++◌, Option, None, Some, refl}
use Rattle.std.proofs.Common.{ap, ◌∙◌}
use Rattle.std.specs.List.{AllByRecursion, cons_option}
use Rattle.minislots.specs.declared.config.Config.{Config}
use Rattle.map_codec.specs.declared.element.Element.{Element}
use Rattle.sched_calls.specs.declared.opportunity.Opportunity.{Opportunity}
use Rattle.sched_calls.specs.declared.reply.Reply.{Reply}
use Rattle.sched_calls.specs.declared.reply.Reply.TheVariants as replies
use Rattle.sched_calls.specs.declared.reply.Entry.{Entry}
use Rattle.periodic.specs.declared.placement.Spot.{Spot}
use Rattle.map_build.specs.EachAfter.{EachAfter}
use Rattle.map_build.specs.declared.met.Met.{Met}
use Rattle.map_build.specs.Reading.{meets_place, met_in, IsMetBehind}
use Rattle.sched_history.specs.declared.scheduler.reserves.Reserve.{Reserve}
use Rattle.sched_history.specs.Life.{turn_by, change_by, rest_by, table_of}
use Rattle.sched_history.specs.Settling.{settles_after}
use Rattle.sched_history.specs.Reserves.{reserve_by, aged, left_by, waiting_in, met_by, reserves_by, reserves_with}
use Rattle.sched_history.specs.Reserves.{reserves_behind, reserves_after, reserves_of, spots_after}
use Rattle.sched_history.specs.Ranging.{reserved_in}
use Rattle.sched_history.proofs.lives.FlowsAfter.{table_of-stays}
use Rattle.sched_history.proofs.reserves.Sums.{met_by-each}

none-behind : (settles : Bool) (test : ℕ → Bool) → (if settles then [] else aged (left_by test [])) ≡ []
none-behind true test = refl
none-behind false test = refl

none-by : (c : Config) (h : List Entry) (reply : Reply) → reserves_by c h reply [] ≡ []
none-by c h (replies.Built m) = none-behind (settles_after c h) (meets_place (met_by c h [] m.wire.elements))
none-by c h reply = refl

unasked : (o : Option Opportunity) (os : List Opportunity) → cons_option o os ≡ [] → (o ≡ None) × (os ≡ [])
unasked None os none = (refl, none)
unasked (Some o) os none = absurd (cc)

reserves_after-none : (c : Config) (before es : List Entry) → reserved_in es ≡ [] → reserves_after c before [] es ≡ []
reserves_after-none c before [] none = refl
reserves_after-none c before (e ∷ es) none =
    let both = unasked (reserve_by e.call e.reply) (reserved_in es) none in
    rw (both.0, none-by c before e.reply) (reserves_after-none c (before ++ e ∷ []) es both.1)

-- where nothing was reserved there are none
pub reserves_of-none : (c : Config) (h : List Entry) → reserved_in h ≡ [] → reserves_of c h ≡ []
reserves_of-none c h none = reserves_after-none c [] h none

-- an entry that places no flow
pub record LeavesPlaces (e : Entry) : Type 0 where
  pub turns : (sid : ℕ) → turn_by sid e.call e.reply ≡ None
  pub changes : (sid : ℕ) → change_by sid e.call e.reply ≡ None
  pub rests : (sid : ℕ) → rest_by sid e.call e.reply ≡ None

-- the Reserves after a reply, where nothing has its place in the frame
abbrev pub unplaced_by : Config → Reply → List Reserve → List Reserve
unplaced_by c (replies.Built m) rs =
    aged (left_by (meets_place (met_in c [] (waiting_in rs) m.wire.elements)) rs)
unplaced_by c reply rs = rs

-- the Reserves after entries in whose frames nothing has its place
abbrev pub unplaced_after : Config → List Reserve → List Entry → List Reserve
unplaced_after c rs [] = rs
unplaced_after c rs (e ∷ es) =
    unplaced_after c (reserves_with (reserve_by e.call e.reply) (unplaced_by c e.reply rs)) es

module _ (c : Config) (never : (h : List Entry) → settles_after c h ≡ false) where
  behind-unplaced : (h : List Entry) (es : List Element) (rs : List Reserve) → table_of h ≡ []
      → reserves_behind c h es rs ≡ aged (left_by (meets_place (met_in c [] (waiting_in rs) es)) rs)
  behind-unplaced h es rs none = rw (never h, none) refl

  by-unplaced : (h : List Entry) (reply : Reply) (rs : List Reserve) → table_of h ≡ []
      → reserves_by c h reply rs ≡ unplaced_by c reply rs
  by-unplaced h (replies.Built m) rs none = behind-unplaced h m.wire.elements rs none
  by-unplaced h reply rs none = refl

  -- so they are read without places
  pub reserves_after-unplaced : (before es : List Entry) (rs : List Reserve) → table_of before ≡ []
      → AllByRecursion LeavesPlaces es → reserves_after c before rs es ≡ unplaced_after c rs es
  reserves_after-unplaced before [] rs none all = refl
  reserves_after-unplaced before (e ∷ es) rs none all =
      reserves_after-unplaced (before ++ e ∷ []) es _
      (table_of-stays before e all.0.turns all.0.changes all.0.rests ∙ none) all.1
      ∙ ap (λ rs. unplaced_after c (reserves_with (reserve_by e.call e.reply) rs) es)
      (by-unplaced before e.reply rs none)

-- a MAP that settles leaves all
pub reserves_behind-settled : (c : Config) (h : List Entry) (es : List Element) (rs : List Reserve)
    → settles_after c h ≡ true → reserves_behind c h es rs ≡ rs
reserves_behind-settled c h es rs settles = rw settles refl

nothing-met : (c : Config) (spots : List Spot) (met : List Met) → EachAfter (IsMetBehind c spots []) [] met → met ≡ []
nothing-met c spots [] each = refl
nothing-met c spots (x ∷ met) each = absurd (let none = each.0.waits in cc)

-- where none waits nothing is met
pub met_by-none : (c : Config) (h : List Entry) (es : List Element) → met_by c h [] es ≡ []
met_by-none c h es = nothing-met c (spots_after c h) (met_by c h [] es) (met_by-each c h [] es)
