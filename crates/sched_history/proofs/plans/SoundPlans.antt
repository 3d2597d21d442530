-- A plan's data grants keep each flow within what it asked and within its ceilings.
use Rattle.std.proofs.Common.{◌≡◌, ℕ, ◌+◌, Bool, true, false, ◌==◌, List, [], ◌∷◌, ◌++◌, None}
use Rattle.std.proofs.Common.{Some, refl, sym, ap, ◌∙◌, subst, Contains, append_assoc}
use Rattle.std.proofs.lemmas.Bool.{eqb-true}
use Rattle.std.proofs.lemmas.List.{append-nil}
use Rattle.std.proofs.lemmas.List.Elements.{filter_map-append}
use Rattle.minislots.specs.declared.config.Config.{Config}
use Rattle.flow_book.specs.declared.flow.Grant.{Grant}
use Rattle.flow_book.specs.Flows.{LiveFlow}
use Rattle.flow_book.specs.Reserved.{with_grant}
use Rattle.flow_book.specs.Choice.{IsAmount}
use Rattle.flow_book.specs.Entry.{IsSoundFlow}
use Rattle.flow_book.proofs.Changes.{granted-sound}
use Rattle.map_build.specs.declared.purpose.Allocation.{Allocation}
use Rattle.map_build.specs.declared.purpose.Purpose.{Purpose}
use Rattle.map_build.specs.declared.purpose.Purpose.TheVariants.{DataGrant}
use Rattle.map_build.specs.EachAfter.{EachAfter}
use Rattle.map_build.specs.Purpose.{grant_to}
use Rattle.map_build.specs.Plan.{Demand, grants_to, flow_after, flows_after, room_at, IsOfClass, Stands}
use Rattle.map_build.proofs.FlowsAfter.{with_grants-more, with_grants-sid}
use Rattle.sched_history.proofs.lists.Members.{IsImage, Contains-map}

-- a flow after one allocation more, that grants it nothing, or a grant
after_other : (c : Config) (start : ℕ) (before : List Allocation) (a : Allocation) (f : LiveFlow)
    → grant_to start f.sid a.purpose a.offset ≡ None
    → flow_after c start (before ++ a ∷ []) f ≡ flow_after c start before f
after_other c start before a f none =
    rw (
      filter_map-append (λ (a : Allocation). grant_to start f.sid a.purpose a.offset) before (a ∷ []),
      none,
      append-nil,
    ) refl

after_grant : (c : Config) (start : ℕ) (before : List Allocation) (a : Allocation) (f : LiveFlow) (g : Grant)
    → grant_to start f.sid a.purpose a.offset ≡ Some g
    → flow_after c start (before ++ a ∷ []) f ≡ with_grant c g (flow_after c start before f)
after_grant c start before a f g some =
    rw (
      filter_map-append (λ (a : Allocation). grant_to start f.sid a.purpose a.offset) before (a ∷ []),
      some,
    ) (with_grants-more c (grants_to start f.sid before) (g ∷ []) f)

module _ (c : Config) (d : Demand) (f : LiveFlow)
    (alone : (g : LiveFlow) → Contains d.flows g → g.sid ≡ f.sid → g ≡ f) where
  -- the minislot at which the frame starts
  abbrev start : ℕ
  start = d.start

  -- the flow after these is the only one of its SID
  only_after : (before : List Allocation) (g : LiveFlow) → Contains (flows_after c d.start before d.flows) g
      → g.sid ≡ f.sid
      → flow_after c start before f ≡ g
  only_after before g live same =
      let image : IsImage (flow_after c d.start before) d.flows g =
      Contains-map (flow_after c d.start before) d.flows g live in
      ap (flow_after c start before)
      (sym (alone image.origin image.member
      (sym (with_grants-sid c (grants_to d.start image.origin.sid before) image.origin)
      ∙ ap (λ (g : LiveFlow). g.sid) image.same ∙ same))) ∙ image.same

  sound_grant : (before : List Allocation) (a : Allocation) (other bytes : ℕ) (same : Bool) → other == f.sid ≡ same
      → a.purpose ≡ DataGrant other bytes
      → IsOfClass c d before a.offset a.slots (DataGrant other bytes)
      → IsSoundFlow c (flow_after c start before f)
      → IsSoundFlow c (flow_after c start (before ++ a ∷ []) f)
  sound_grant before a other bytes false test is stands sound =
      let none : grant_to start f.sid (DataGrant other bytes) a.offset ≡ None = rw test refl in
      rw (after_other c start before a f (ap (λ p. grant_to start f.sid p a.offset) is ∙ none)) sound
  sound_grant before a other bytes true test is stands sound =
      let g : LiveFlow = stands.1 in
      let some : grant_to start f.sid (DataGrant other bytes) a.offset
      ≡ Some (record { start = start + a.offset; bytes = bytes }) =
      rw test refl in
      let them : flow_after c start before f ≡ g =
      only_after before g stands.3.live (stands.2 ∙ eqb-true other f.sid test) in
      rw (after_grant c start before a f (record { start = start + a.offset; bytes = bytes })
      (ap (λ p. grant_to start f.sid p a.offset) is ∙ some))
      (granted-sound c (start + a.offset) bytes (room_at c d.spots a.offset) (flow_after c start before f) sound
      (subst (λ g. IsAmount c g (start + a.offset) (room_at c d.spots a.offset) bytes) (sym them) stands.4).allowed)

  sound_more : (before : List Allocation) (a : Allocation) (purpose : Purpose) → a.purpose ≡ purpose
      → IsOfClass c d before a.offset a.slots purpose → IsSoundFlow c (flow_after c start before f)
      → IsSoundFlow c (flow_after c start (before ++ a ∷ []) f)
  sound_more before a (DataGrant sid bytes) is stands sound =
      sound_grant before a sid bytes (sid == f.sid) refl is stands sound
  sound_more before a purpose is stands sound =
      rw (after_other c start before a f (ap (λ p. grant_to start f.sid p a.offset) is)) sound

  -- a flow that is sound before some allocations is sound after them
  pub sound_plan : (before plan : List Allocation) → EachAfter (Stands c d) before plan
      → IsSoundFlow c (flow_after c start before f) → IsSoundFlow c (flow_after c start (before ++ plan) f)
  sound_plan before [] each sound = rw append-nil sound
  sound_plan before (a ∷ plan) each sound = rw append_assoc at
      (sound_plan (before ++ a ∷ []) plan each.1 (sound_more before a a.purpose refl each.0.purpose sound))
