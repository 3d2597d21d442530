-- The flows of other SIDs are left, and the minislots of this one are free.
use Rattle.std.proofs.Common.{◌≡◌, ◌-◌, refl, ◌==◌, find, length, Some, arith}
use Rattle.std.proofs.lemmas.List.{take_at}
use Rattle.periodic.specs.Table.{without}
use Rattle.periodic.specs.Fields.{placed_of}
use Rattle.periodic.specs.Groups.{flows_in, placed_in}
use Rattle.periodic.proofs.Among.{order-found, order-length, order-without, none-placed}
use Rattle.periodic.proofs.Standing.{marked-for, fields-without}
use Rattle.periodic.proofs.Summed.{grants-without, may-uncount, counts-without}
use Rattle.periodic.proofs.table.Table.remove.Goals as goal

pub invariant_of-self : goal.invariant_of-self
invariant_of-self c =
    absurd (none-placed c.args.sid (flows_in c.self.inside.groups.items) c.in_default.ensures.absent
    (rw (← c.self.view_is) at c.requires))

pub returns-in_default : goal.returns-in_default
returns-in_default c =
    absurd (none-placed c.args.sid (flows_in c.self.inside.groups.items) c.in_default.ensures.absent
    (rw (← c.self.view_is) at c.requires))

pub mark-requires-clause-bounded : goal.mark-requires-clause-bounded
mark-requires-clause-bounded c = rw c.deref_mut.ensures.value c.self.invariant.bounded

pub count-requires-clause-may : goal.count-requires-clause-may
count-requires-clause-may c =
    let inside = c.self.inside in
    let placed = placed_in inside.groups.items in
    let flow = c.in-Some.flow in
    let found = order-found flow (flows_in c.take_out.new.groups.items) (flows_in inside.groups.items)
    c.in-Some.ensures.taken c.args.sid c.in-Some.ensures.sid c.self.invariant.sound.ascending in
    may-uncount inside.config c.args.sid (placed_of flow) placed inside.counts.starts c.self.invariant.counted found
    c.self.invariant.sound.ascending

pub overflow_sub-self : goal.overflow_sub-self
overflow_sub-self c =
    let inside = c.self.inside in
    let placed = placed_in inside.groups.items in
    let flow = c.in-Some.flow in
    let found = order-found flow (flows_in c.take_out.new.groups.items) (flows_in inside.groups.items)
    c.in-Some.ensures.taken c.args.sid c.in-Some.ensures.sid c.self.invariant.sound.ascending in
    let own = (c.in-Some.ensures.flow inside.config c.self.invariant.each).times.grants in
    let sum = grants-without c.args.sid (placed_of flow) placed found c.self.invariant.sound.ascending in
    omega (arith, own, sum, c.self.invariant.summed)

found : (c : goal.After-drop-flow) → find (λ g. g.sid == c.args.sid) (placed_in c.self.inside.groups.items)
    ≡ Some (placed_of c.in-Some.flow)
found c =
    order-found c.in-Some.flow (flows_in c.take_out.new.groups.items) (flows_in c.self.inside.groups.items)
    c.in-Some.ensures.taken c.args.sid c.in-Some.ensures.sid c.self.invariant.sound.ascending

left : (c : goal.After-drop-flow) → placed_in c.take_out.new.groups.items
    ≡ without c.args.sid (placed_in c.self.inside.groups.items)
left c =
    order-without c.in-Some.flow (flows_in c.take_out.new.groups.items) (flows_in c.self.inside.groups.items)
    c.in-Some.ensures.taken c.args.sid c.in-Some.ensures.sid c.self.invariant.sound.ascending

pub invariant_of-self-2 : goal.invariant_of-self-2
invariant_of-self-2 c =
    let inside = c.self.inside in
    let config = inside.config in
    let groups = inside.groups.items in
    let placed = placed_in groups in
    let flow = c.in-Some.flow in
    let up = c.self.invariant.sound.ascending in
    let own = (c.in-Some.ensures.flow config c.self.invariant.each).times.grants in
    let sum = grants-without c.args.sid (placed_of flow) placed (found c) up in
    let less = order-length flow (flows_in c.take_out.new.groups.items) (flows_in groups) c.in-Some.ensures.taken up in
    let long : length c.mark.new.rows ≡ inside.rows.len =
    omega (arith, c.mark.ensures.long, c.self.invariant.told.long, inside.rows.ok.0) in
    rw (take_at c.mark.new.rows _ inside.rows.len long)
    (fields-without config groups c.take_out.new.groups.items inside.rows.items c.mark.new.rows
    (placed_of flow) inside.widest.most c.mark.new.widest.most inside.counts.starts c.count.new.self.starts
    inside.grants (inside.grants - flow.grants) inside.len (inside.len - 1) c.self.invariant c.mark.ensures.long
    c.mark.ensures.bounded (c.take_out.ensures.sound config c.self.invariant.each)
    (c.take_out.ensures.filled c.self.invariant.filled) c.args.sid (left c) (found c)
    (λ k. marked-for config k 0 flow (placed_of flow) c.deref_mut.result.now inside.rows.items c.mark.new.rows
    refl c.deref_mut.ensures.value (c.mark.ensures.marked k))
    (counts-without config c.args.sid (placed_of flow) placed inside.counts.starts c.self.invariant.counted (found c) up
    c.count.new.self.starts c.count.ensures)
    (omega (arith, own, sum, c.self.invariant.summed))
    (omega (arith, less, c.self.invariant.long)))

pub returns : goal.returns
returns c = rw (← c.self.view_is, left c) refl
