-- The new flow stands in order of SID, its minislots are taken, and the table is sound.
use Rattle.std.proofs.Common.{◌≡◌, refl, ◌∙◌, sym, ap, subst, ◌+◌, true, map, length, get_or, arith}
use Rattle.std.proofs.lemmas.List.{take_at}
use Rattle.sched_calls.specs.FlowSpec.{grants_of}
use Rattle.periodic.specs.Placement.{Placed, spots_of}
use Rattle.periodic.specs.Counts.{AreCounted, MayCount}
use Rattle.periodic.specs.Table.{IsNotPlaced, placed_at, with_placed}
use Rattle.periodic.specs.Fields.{placed_of, placement_at, IsSoundFlow}
use Rattle.periodic.specs.Groups.{flows_in, in_order, placed_in}
use Rattle.periodic.proofs.Adding.{grants-with, new-sound, sound-with}
use Rattle.periodic.proofs.Among.{order-with}
use Rattle.periodic.proofs.Counting.{may-count, counts-with}
use Rattle.periodic.proofs.InOrder.{flows-most}
use Rattle.periodic.proofs.Parameters.{places_of}
use Rattle.periodic.proofs.Standing.{fields-of, fields-same, marked-for, fields-with}
use Rattle.periodic.proofs.table.Table.add.Goals as goal

pub invariant_of-self : goal.invariant_of-self
invariant_of-self c =
    let inside = c.self.inside in
    fields-same inside.config inside.groups.items c.room_for.new.groups.items inside.rows.items inside.widest.most
    inside.counts.starts inside.grants inside.len c.room_for.ensures.same
    (c.room_for.ensures.sound inside.config c.self.invariant.each) (c.in_err-place.ensures.err c.self.invariant.filled)
    c.self.invariant

pub mark-requires-clause-bounded : goal.mark-requires-clause-bounded
mark-requires-clause-bounded c = rw c.deref_mut.ensures.value c.self.invariant.bounded

pub mark-requires-clause-sound : goal.mark-requires-clause-sound
mark-requires-clause-sound c =
    let a = c.args in
    let config = c.self.inside.config in
    let placement = placement_at a.reference a.starts.now in
    let here = c.at-flow.ensures.placed ∙ ap (λ ss. placed_at a.sid a.spec (placement_at a.reference ss))
    (c.from_vec.ensures ∙ c.in_ok-kept.ensures.items) in
    let lawful = rw (← c.self.view_is) at c.requires.lawful in
    fields-of config c.at-flow.result (placed_at a.sid a.spec placement) here
    (new-sound config (placed_in c.self.inside.groups.items) a.sid a.spec lawful.0 placement c.requires.sid_positive
    c.requires.sid_most c.requires.periodic (rw (← c.self.view_is) at c.requires.no_fault) lawful.1)
    c.at-flow.ensures.times

pub count-requires-clause-sound : goal.count-requires-clause-sound
count-requires-clause-sound c =
    let a = c.args in
    let config = c.self.inside.config in
    let placement = placement_at a.reference a.starts.now in
    let here = c.at-flow.ensures.placed ∙ ap (λ ss. placed_at a.sid a.spec (placement_at a.reference ss))
    (c.from_vec.ensures ∙ c.in_ok-kept.ensures.items) in
    let lawful = rw (← c.self.view_is) at c.requires.lawful in
    fields-of config c.at-flow.result (placed_at a.sid a.spec placement) here
    (new-sound config (placed_in c.self.inside.groups.items) a.sid a.spec lawful.0 placement c.requires.sid_positive
    c.requires.sid_most c.requires.periodic (rw (← c.self.view_is) at c.requires.no_fault) lawful.1)
    c.at-flow.ensures.times

pub count-requires-clause-may : goal.count-requires-clause-may
count-requires-clause-may c =
    let a = c.args in
    let inside = c.self.inside in
    let here = c.at-flow.ensures.placed ∙ ap (λ ss. placed_at a.sid a.spec (placement_at a.reference ss))
    (c.from_vec.ensures ∙ c.in_ok-kept.ensures.items) in
    let lawful = rw (← c.self.view_is) at c.requires.lawful in
    subst (λ f. MayCount inside.config f true inside.counts.starts) (sym here)
    (may-count inside.config (placed_at a.sid a.spec (placement_at a.reference a.starts.now))
    (placed_in inside.groups.items) inside.counts.starts c.self.invariant.counted lawful.1.few)

pub overflow_add-self-2 : goal.overflow_add-self-2
overflow_add-self-2 c =
    let config = c.self.inside.config in
    let lawful = c.at-flow.ensures.times.lawful in
    let some = (places_of config c.args.spec lawful c.requires.periodic
    (rw (← c.self.view_is) at c.requires.no_fault)).grants_positive in
    let most = flows-most config (placed_in c.self.inside.groups.items) lawful c.self.invariant.sound.each in
    let room = rw (← c.self.view_is) at c.requires.room in
    omega (arith, some, most, room, c.self.invariant.long)

-- the flow is the one that was asked for
made : (c : goal.After-from_vec-2) → placed_of c.at-flow.result
    ≡ placed_at c.args.sid c.args.spec (placement_at c.args.reference c.args.starts.now)
made c =
    c.at-flow.ensures.placed ∙ ap (λ ss. placed_at c.args.sid c.args.spec (placement_at c.args.reference ss))
    (c.from_vec.ensures ∙ c.in_ok-kept.ensures.items)

inserted : (c : goal.After-from_vec-2) → placed_in c.put_in.new.groups.items
    ≡ with_placed (placed_at c.args.sid c.args.spec (placement_at c.args.reference c.args.starts.now))
    (placed_in c.self.inside.groups.items)
inserted c =
    let others = flows_in c.room_for.new.groups.items in
    let same : in_order (map placed_of others) ≡ placed_in c.self.inside.groups.items =
    ap (λ fs. in_order (map placed_of fs)) c.room_for.ensures.same in
    let sid : c.at-flow.result.sid ≡ c.args.sid = ap (λ (f : Placed). f.sid) (made c) in
    let new : IsNotPlaced c.at-flow.result.sid (in_order (map placed_of others)) =
    rw (sid, same) (rw (← c.self.view_is) at c.requires.is_new) in
    order-with c.at-flow.result others (flows_in c.put_in.new.groups.items) c.put_in.ensures.added new
    ∙ ap (with_placed (placed_of c.at-flow.result)) same
    ∙ ap (λ f. with_placed f (placed_in c.self.inside.groups.items)) (made c)

pub returns-clause-placed : goal.returns-clause-placed
returns-clause-placed c =
    let answered : c.from_vec-2.result ≡ c.args.starts.now = c.from_vec-2.ensures ∙ c.in_ok-answered.ensures.items in
    rw (← c.self.view_is, answered) (inserted c)

own : (c : goal.After-from_vec-2) → c.at-flow.result.grants ≡ grants_of c.args.spec
own c = c.at-flow.ensures.times.grants ∙ ap (λ (f : Placed). grants_of f.spec) c.at-flow.ensures.placed

pub invariant_of-self-2 : goal.invariant_of-self-2
invariant_of-self-2 c =
    let a = c.args in
    let inside = c.self.inside in
    let config = inside.config in
    let groups = inside.groups.items in
    let placed = placed_in groups in
    let placement = placement_at a.reference a.starts.now in
    let added = placed_at a.sid a.spec placement in
    let lawful = rw (← c.self.view_is) at c.requires.lawful in
    let no_fault = rw (← c.self.view_is) at c.requires.no_fault in
    let sound : IsSoundFlow config c.at-flow.result = fields-of config c.at-flow.result added (made c)
    (new-sound config placed a.sid a.spec lawful.0 placement c.requires.sid_positive c.requires.sid_most
    c.requires.periodic no_fault lawful.1) c.at-flow.ensures.times in
    let long : length c.mark.new.rows ≡ inside.rows.len =
    omega (arith, c.mark.ensures.long, c.self.invariant.told.long, inside.rows.ok.0) in
    rw (take_at c.mark.new.rows _ inside.rows.len long)
    (fields-with config groups c.put_in.new.groups.items inside.rows.items c.mark.new.rows added
    inside.widest.most c.mark.new.widest.most inside.counts.starts c.count.new.self.starts inside.grants
    (inside.grants + c.at-flow.result.grants) inside.len (inside.len + 1) c.self.invariant
    c.mark.ensures.long c.mark.ensures.bounded
    (c.put_in.ensures.sound config (c.room_for.ensures.sound config c.self.invariant.each) sound)
    (c.put_in.ensures.filled (c.in_ok-place.ensures.filled c.self.invariant.filled))
    (inserted c)
    (sound-with config placed a.sid a.spec lawful.0 placement
    c.at-flow.ensures.times.lawful c.requires.sid_positive c.requires.sid_most c.requires.periodic no_fault
    (rw (← c.self.view_is) at c.requires.room) (rw (← c.self.view_is) at c.requires.is_new) lawful.1
    c.self.invariant.sound)
    (λ k. marked-for config k 1 c.at-flow.result added c.deref_mut.result.now inside.rows.items c.mark.new.rows
    (made c) c.deref_mut.ensures.value (c.mark.ensures.marked k))
    (counts-with config added placed inside.counts.starts c.self.invariant.counted c.count.new.self.starts
    (λ k within. subst (λ f. AreCounted true (get_or inside.counts.starts k 0) (length (spots_of config k f))
    (get_or c.count.new.self.starts k 0)) (made c) (c.count.ensures k within)))
    (omega (arith, c.self.invariant.summed, own c, grants-with added placed)) refl)
