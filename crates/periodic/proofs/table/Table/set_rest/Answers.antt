-- The flow in its place rests, or wakes, and takes what it took.
use Rattle.std.proofs.Common.{◌≡◌, refl}
use Rattle.periodic.specs.declared.spots.PlacedFlow.{PlacedFlow}
use Rattle.periodic.specs.Table.{with_placed, without}
use Rattle.periodic.specs.Fields.{placed_of, IsSoundFlow}
use Rattle.periodic.specs.Groups.{flows_in, placed_in}
use Rattle.periodic.proofs.Among.{StandsAmong, order-stands, order-instead, none-placed}
use Rattle.periodic.proofs.Kept.{fields-kept}
use Rattle.periodic.proofs.Rests.{rest-placed, rest-alike, rest-sound}
use Rattle.periodic.proofs.table.Table.set_rest.Goals as goal

pub put_in-requires : goal.put_in-requires
put_in-requires c = c.in-Some.ensures.place c.self.inside.config c.self.invariant.each

stands : (c : goal.After-put_in)
    → StandsAmong c.args.sid (placed_of c.in-Some.flow) (placed_in c.self.inside.groups.items)
stands c =
    order-stands c.in-Some.flow (flows_in c.lift_out.new.groups.items) (flows_in c.self.inside.groups.items)
    c.in-Some.ensures.taken c.args.sid c.in-Some.ensures.sid c.self.invariant.sound.ascending

abbrev resting-one : goal.After-put_in → PlacedFlow
resting-one c = record c.in-Some.flow { rests = c.args.rests }

placed : (c : goal.After-put_in) → placed_in c.put_in.new.groups.items
    ≡ with_placed (placed_of (resting-one c)) (without c.args.sid (placed_in c.self.inside.groups.items))
placed c =
    order-instead c.args.sid c.in-Some.flow (resting-one c) (flows_in c.lift_out.new.groups.items)
    (flows_in c.self.inside.groups.items) (flows_in c.put_in.new.groups.items) c.in-Some.ensures.taken
    c.put_in.ensures.added c.in-Some.ensures.sid c.in-Some.ensures.sid c.self.invariant.sound.ascending

pub invariant_of-self : goal.invariant_of-self
invariant_of-self c =
    let a = c.self.inside in
    let flow = c.in-Some.flow in
    let room = rw (← c.self.view_is) at c.requires.room in
    let sound : IsSoundFlow a.config (resting-one c) =
    rest-sound a.config c.args.rests flow (resting-one c) refl (λ rests. rw (stands c).found at (room rests))
    (c.in-Some.ensures.flow a.config c.self.invariant.each) in
    fields-kept a.config c.args.sid (placed_of flow) (placed_of (resting-one c)) a.groups.items
    c.put_in.new.groups.items a.rows.items a.widest.most a.counts.starts a.grants a.len
    (rest-alike a.config c.args.rests (placed_of flow)) (stands c) sound.sound (placed c)
    (c.put_in.ensures.sound a.config (c.lift_out.ensures.sound a.config c.self.invariant.each) sound)
    (c.put_in.ensures.filled (c.in-Some.ensures.filled c.self.invariant.filled)) c.self.invariant

pub returns-in-Some : goal.returns-in-Some
returns-in-Some c =
    rw (
      ← c.self.view_is,
      rest-placed c.args.sid c.args.rests (placed_of c.in-Some.flow) (placed_in c.self.inside.groups.items) (stands c),
      placed c,
    ) refl

pub invariant_of-self-in_default : goal.invariant_of-self-in_default
invariant_of-self-in_default c =
    absurd (none-placed c.args.sid (flows_in c.self.inside.groups.items) c.in_default.ensures.absent
    (rw (← c.self.view_is) at c.requires.placed))

pub returns-in_default : goal.returns-in_default
returns-in_default c =
    absurd (none-placed c.args.sid (flows_in c.self.inside.groups.items) c.in_default.ensures.absent
    (rw (← c.self.view_is) at c.requires.placed))
