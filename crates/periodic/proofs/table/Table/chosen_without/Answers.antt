-- The flow is taken out of the rows and the counts while the others are looked at, and put in again.
use Rattle.std.proofs.Common.{◌≡◌, true, false, length, arith}
use Rattle.std.proofs.lemmas.List.{take_at}
use Rattle.periodic.specs.Table.{without}
use Rattle.periodic.specs.Fields.{placed_of}
use Rattle.periodic.specs.Groups.{flows_in, placed_in}
use Rattle.periodic.proofs.Among.{StandsAmong, order-stands, none-placed}
use Rattle.periodic.proofs.Moved.{IsLifted, AreThoseOf, lift-may, lift-others, lift-back, fields-those, fields-again}
use Rattle.periodic.proofs.table.Table.chosen_without.Goals as goal

pub returns-in_default-clause-absent : goal.returns-in_default-clause-absent
returns-in_default-clause-absent c =
    absurd (none-placed c.args.sid (flows_in c.self.inside.groups.items)
    (rw c.deref.ensures.value at c.in_default.ensures.absent) (rw (← c.self.view_is) at c.requires.placed))

pub lift-requires-clause-bounded : goal.lift-requires-clause-bounded
lift-requires-clause-bounded c = rw c.deref_mut.ensures.value c.self.invariant.bounded

pub lift-requires-clause-may : goal.lift-requires-clause-may
lift-requires-clause-may c =
    let a = c.self.inside in
    let flow = c.in-Some.flow.now in
    let among = rw c.deref.ensures.value at c.in-Some.ensures.among in
    lift-may a.config c.args.sid (placed_of flow) (placed_in a.groups.items) a.rows.items a.counts.starts
    (order-stands flow among.0 (flows_in a.groups.items) among.1 c.args.sid c.in-Some.ensures.sid
    c.self.invariant.sound.ascending)
    (fields-those a.config a.groups.items a.rows.items a.widest.most a.counts.starts a.grants a.len c.self.invariant)

pub choose-chosen-requires-clause-bounded : goal.choose-chosen-requires-clause-bounded
choose-chosen-requires-clause-bounded c =
    let a = c.self.inside in
    let long : length c.lift.new.rows ≡ a.rows.len =
    omega (arith, c.lift.ensures.long, c.self.invariant.told.long, a.rows.ok.0) in
    rw (c.deref-2.ensures.value, take_at c.lift.new.rows _ a.rows.len long) c.lift.ensures.bounded

pub lift-requires-2-clause-bounded : goal.lift-requires-2-clause-bounded
lift-requires-2-clause-bounded c =
    rw c.deref_mut-2.ensures.value (rw c.deref-2.ensures.value at c.choose-chosen.ensures.bounded)

stands : (c : goal.After-self-2-1)
    → StandsAmong c.args.sid (placed_of c.in-Some.flow.now) (placed_in c.self.inside.groups.items)
stands c =
    let among = rw c.deref.ensures.value at c.in-Some.ensures.among in
    order-stands c.in-Some.flow.now among.0 (flows_in c.self.inside.groups.items) among.1 c.args.sid
    c.in-Some.ensures.sid c.self.invariant.sound.ascending

all-told : (c : goal.After-self-2-1) → AreThoseOf c.self.inside.config (placed_in c.self.inside.groups.items)
    c.self.inside.rows.items c.self.inside.counts.starts
all-told c =
    let a = c.self.inside in
    fields-those a.config a.groups.items a.rows.items a.widest.most a.counts.starts a.grants a.len c.self.invariant

out : (c : goal.After-self-2-1) → IsLifted c.self.inside.config (placed_of c.in-Some.flow.now) 0 false
    c.self.inside.rows.items c.lift.new.rows c.lift.new.widest.most c.self.inside.counts.starts
    c.lift.new.counts.starts
out c = record {
  long = c.lift.ensures.long;
  bounded = c.lift.ensures.bounded;
  marked = rw c.deref_mut.ensures.value at c.lift.ensures.marked;
  counted = c.lift.ensures.counted;
}

long-out : (c : goal.After-self-2-1) → length c.lift.new.rows ≡ c.self.inside.rows.len
long-out c = omega (arith, c.lift.ensures.long, c.self.invariant.told.long, c.self.inside.rows.ok.0)

others : (c : goal.After-self-2-1) → AreThoseOf c.self.inside.config
    (without c.args.sid (placed_in c.self.inside.groups.items)) c.lift.new.rows c.lift.new.counts.starts
others c =
    let a = c.self.inside in
    lift-others a.config c.args.sid (placed_of c.in-Some.flow.now) (placed_in a.groups.items) a.rows.items
    a.counts.starts (stands c) (all-told c) c.lift.new.rows c.lift.new.widest.most c.lift.new.counts.starts (out c)

pub invariant_of-self : goal.invariant_of-self
invariant_of-self c =
    let a = c.self.inside in
    let flow = placed_of c.in-Some.flow.now in
    let back : IsLifted a.config flow 1 true c.lift.new.rows c.lift-2.new.rows c.lift-2.new.widest.most
    c.lift.new.counts.starts c.lift-2.new.counts.starts = record {
      long = c.lift-2.ensures.long;
      bounded = c.lift-2.ensures.bounded;
      marked = rw (c.deref_mut-2.ensures.value, take_at c.lift.new.rows _ a.rows.len (long-out c))
          at c.lift-2.ensures.marked;
      counted = c.lift-2.ensures.counted;
    } in
    let long : length c.lift-2.new.rows ≡ a.rows.len =
    omega (arith, c.lift-2.ensures.long, c.self.invariant.told.long, a.rows.ok.0) in
    rw (take_at c.lift-2.new.rows _ a.rows.len long)
    (fields-again a.config a.groups.items a.rows.items c.lift-2.new.rows a.widest.most c.lift-2.new.widest.most
    a.counts.starts c.lift-2.new.counts.starts a.grants a.len c.self.invariant
    (lift-back a.config c.args.sid flow (placed_in a.groups.items) a.rows.items a.counts.starts (stands c) (all-told c)
    c.lift.new.rows c.lift.new.widest.most c.lift.new.counts.starts (out c) c.lift-2.new.rows c.lift-2.new.widest.most
    c.lift-2.new.counts.starts back)
    c.lift-2.ensures.bounded)

pub returns-clause-chosen : goal.returns-clause-chosen
returns-clause-chosen c =
    let a = c.self.inside in
    let told = (others c).told in
    let left = without c.args.sid (placed_in a.groups.items) in
    rw (← c.self.view_is) (c.choose-chosen.ensures.chosen left (others c).sound
    (rw (c.deref-2.ensures.value, take_at c.lift.new.rows _ a.rows.len (long-out c)) told) (others c).counted)

pub returns-clause-absent : goal.returns-clause-absent
returns-clause-absent c =
    let a = c.self.inside in
    let told = (others c).told in
    let left = without c.args.sid (placed_in a.groups.items) in
    rw (← c.self.view_is) (c.choose-chosen.ensures.absent left (others c).sound
    (rw (c.deref-2.ensures.value, take_at c.lift.new.rows _ a.rows.len (long-out c)) told) (others c).counted)
