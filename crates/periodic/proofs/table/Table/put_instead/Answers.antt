-- The old flow is taken out of the rows and the counts, and the new one put in.
use Rattle.std.proofs.Common.{◌≡◌, refl, sym, ap, ◌∙◌, true, false, length, arith}
use Rattle.std.proofs.lemmas.List.{take_at}
use Rattle.sched_calls.proofs.Insertion.{length-put_in}
use Rattle.periodic.specs.Placement.{Placed}
use Rattle.periodic.specs.Table.{with_placed, without}
use Rattle.periodic.specs.Fields.{placed_of, IsSoundFlow}
use Rattle.periodic.specs.Groups.{flows_in, placed_in, HasOneMore}
use Rattle.periodic.proofs.Adding.{grants-with}
use Rattle.periodic.proofs.Among.{StandsAmong, gone, order-stands, order-instead, none-placed}
use Rattle.periodic.proofs.Counting.{may-count}
use Rattle.periodic.proofs.Moved.{IsLifted, AreThoseOf, lift-may, lift-others, lift-put, fields-those}
use Rattle.periodic.proofs.Moved.{put-sound, put-placed}
use Rattle.periodic.proofs.Standing.{fields-same}
use Rattle.periodic.proofs.Summed.{grants-without, counts-without}
use Rattle.periodic.proofs.table.Table.put_instead.Goals as goal

pub invariant_of-self : goal.invariant_of-self
invariant_of-self c =
    let a = c.self.inside in
    fields-same a.config a.groups.items c.room_for.new.groups.items a.rows.items a.widest.most a.counts.starts a.grants
    a.len c.room_for.ensures.same (c.room_for.ensures.sound a.config c.self.invariant.each)
    (c.in_err-place.ensures.err c.self.invariant.filled) c.self.invariant

pub invariant_of-self-in_default : goal.invariant_of-self-in_default
invariant_of-self-in_default c =
    absurd (none-placed c.args.flow.sid (flows_in c.self.inside.groups.items)
    (rw c.room_for.ensures.same at c.in_default.ensures.absent) (rw (← c.self.view_is) at c.requires.placed))

pub returns-in_default-clause-moved : goal.returns-in_default-clause-moved
returns-in_default-clause-moved c =
    absurd (none-placed c.args.flow.sid (flows_in c.self.inside.groups.items)
    (rw c.room_for.ensures.same at c.in_default.ensures.absent) (rw (← c.self.view_is) at c.requires.placed))

pub lift-requires-clause-sound : goal.lift-requires-clause-sound
lift-requires-clause-sound c =
    c.in-Some.ensures.flow c.self.inside.config (c.room_for.ensures.sound c.self.inside.config c.self.invariant.each)

pub lift-requires-clause-bounded : goal.lift-requires-clause-bounded
lift-requires-clause-bounded c = rw c.deref_mut.ensures.value c.self.invariant.bounded

pub lift-requires-clause-may : goal.lift-requires-clause-may
lift-requires-clause-may c =
    let a = c.self.inside in
    let sid = c.args.flow.sid in
    let one = rw c.room_for.ensures.same at c.in-Some.ensures.taken in
    lift-may a.config sid (placed_of c.in-Some.old) (placed_in a.groups.items) a.rows.items a.counts.starts
    (order-stands c.in-Some.old (flows_in c.lift_out.new.groups.items) (flows_in a.groups.items) one sid
    c.in-Some.ensures.sid c.self.invariant.sound.ascending)
    (fields-those a.config a.groups.items a.rows.items a.widest.most a.counts.starts a.grants a.len c.self.invariant)

pub lift-requires-2-clause-sound : goal.lift-requires-2-clause-sound
lift-requires-2-clause-sound c =
    let a = c.self.inside in
    let flow = c.args.flow in
    let before = c.in-Some.ensures.flow a.config (c.room_for.ensures.sound a.config c.self.invariant.each) in
    let lawful = rw (← c.self.view_is) at c.requires.lawful in
    put-sound a.config (without flow.sid (placed_in a.groups.items)) c.in-Some.old flow lawful.0 before
    c.in-Some.ensures.sid c.requires.awake (rw (← c.self.view_is) at c.requires.times) c.requires.periodic
    (rw (← c.self.view_is) at c.requires.no_fault) lawful.1

pub lift-requires-2-clause-bounded : goal.lift-requires-2-clause-bounded
lift-requires-2-clause-bounded c =
    let a = c.self.inside in
    let long : length c.lift.new.rows ≡ a.rows.len =
    omega (arith, c.lift.ensures.long, c.self.invariant.told.long, a.rows.ok.0) in
    rw (c.deref_mut-2.ensures.value, take_at c.lift.new.rows _ a.rows.len long) c.lift.ensures.bounded

pub lift-requires-2-clause-may : goal.lift-requires-2-clause-may
lift-requires-2-clause-may c =
    let a = c.self.inside in
    let sid = c.args.flow.sid in
    let old = c.in-Some.old in
    let placed = placed_in a.groups.items in
    let one = rw c.room_for.ensures.same at c.in-Some.ensures.taken in
    let stands = order-stands old (flows_in c.lift_out.new.groups.items) (flows_in a.groups.items) one sid
    c.in-Some.ensures.sid c.self.invariant.sound.ascending in
    let fewer = counts-without a.config sid (placed_of old) placed a.counts.starts c.self.invariant.counted stands.found
    c.self.invariant.sound.ascending c.lift.new.counts.starts c.lift.ensures.counted in
    let lawful = rw (← c.self.view_is) at c.requires.lawful in
    may-count a.config (placed_of c.args.flow) (without sid placed) c.lift.new.counts.starts fewer lawful.1.few

pub overflow_sub-self : goal.overflow_sub-self
overflow_sub-self c =
    let a = c.self.inside in
    let sid = c.args.flow.sid in
    let old = c.in-Some.old in
    let one = rw c.room_for.ensures.same at c.in-Some.ensures.taken in
    let stands = order-stands old (flows_in c.lift_out.new.groups.items) (flows_in a.groups.items) one sid
    c.in-Some.ensures.sid c.self.invariant.sound.ascending in
    let sound = c.in-Some.ensures.flow a.config (c.room_for.ensures.sound a.config c.self.invariant.each) in
    let sum = grants-without sid (placed_of old) (placed_in a.groups.items) stands.found
    c.self.invariant.sound.ascending in
    omega (arith, sound.times.grants, sum, c.self.invariant.summed)

pub put_in-requires : goal.put_in-requires
put_in-requires c = c.lift_out.ensures.room _ _ _ c.in_ok-place.ensures.place

taken : (c : goal.After-drop-old) → HasOneMore c.in-Some.old (flows_in c.lift_out.new.groups.items)
    (flows_in c.self.inside.groups.items)
taken c = rw c.room_for.ensures.same at c.in-Some.ensures.taken

placed : (c : goal.After-drop-old) → placed_in c.close_all.new.groups.items
    ≡ with_placed (placed_of c.args.flow) (without c.args.flow.sid (placed_in c.self.inside.groups.items))
placed c =
    order-instead c.args.flow.sid c.in-Some.old c.args.flow (flows_in c.lift_out.new.groups.items)
    (flows_in c.self.inside.groups.items) (flows_in c.close_all.new.groups.items) (taken c)
    (rw c.close_all.ensures.same c.put_in.ensures.added) c.in-Some.ensures.sid refl c.self.invariant.sound.ascending

stands : (c : goal.After-drop-old)
    → StandsAmong c.args.flow.sid (placed_of c.in-Some.old) (placed_in c.self.inside.groups.items)
stands c =
    order-stands c.in-Some.old (flows_in c.lift_out.new.groups.items) (flows_in c.self.inside.groups.items)
    (taken c) c.args.flow.sid c.in-Some.ensures.sid c.self.invariant.sound.ascending

before : (c : goal.After-drop-old) → IsSoundFlow c.self.inside.config c.in-Some.old
before c =
    c.in-Some.ensures.flow c.self.inside.config (c.room_for.ensures.sound c.self.inside.config c.self.invariant.each)

-- the rows and the counts are those of the flows as they are then
those : (c : goal.After-drop-old) → AreThoseOf c.self.inside.config
    (with_placed (placed_of c.args.flow) (without c.args.flow.sid (placed_in c.self.inside.groups.items)))
    c.lift-2.new.rows c.lift-2.new.counts.starts
those c =
    let a = c.self.inside in
    let flow = c.args.flow in
    let old = placed_of c.in-Some.old in
    let placed = placed_in a.groups.items in
    let out : IsLifted a.config old 0 false a.rows.items c.lift.new.rows c.lift.new.widest.most a.counts.starts
    c.lift.new.counts.starts = record {
      long = c.lift.ensures.long;
      bounded = c.lift.ensures.bounded;
      marked = rw c.deref_mut.ensures.value at c.lift.ensures.marked;
      counted = c.lift.ensures.counted;
    } in
    let long : length c.lift.new.rows ≡ a.rows.len =
    omega (arith, c.lift.ensures.long, c.self.invariant.told.long, a.rows.ok.0) in
    let put : IsLifted a.config (placed_of flow) 1 true c.lift.new.rows c.lift-2.new.rows c.lift-2.new.widest.most
    c.lift.new.counts.starts c.lift-2.new.counts.starts = record {
      long = c.lift-2.ensures.long;
      bounded = c.lift-2.ensures.bounded;
      marked = rw (c.deref_mut-2.ensures.value, take_at c.lift.new.rows _ a.rows.len long) at c.lift-2.ensures.marked;
      counted = c.lift-2.ensures.counted;
    } in
    let all = fields-those a.config a.groups.items a.rows.items a.widest.most a.counts.starts a.grants a.len
    c.self.invariant in
    let others = lift-others a.config flow.sid old placed a.rows.items a.counts.starts (stands c) all c.lift.new.rows
    c.lift.new.widest.most c.lift.new.counts.starts out in
    let lawful = rw (← c.self.view_is) at c.requires.lawful in
    lift-put a.config flow.sid old placed a.rows.items a.counts.starts (stands c) all c.lift.new.rows
    c.lift.new.widest.most c.lift.new.counts.starts out (placed_of flow) c.lift-2.new.rows c.lift-2.new.widest.most
    c.lift-2.new.counts.starts
    (put-placed a.config (without flow.sid placed) c.in-Some.old flow lawful.0 (before c) c.in-Some.ensures.sid
    c.requires.awake (rw (← c.self.view_is) at c.requires.times) c.requires.periodic
    (rw (← c.self.view_is) at c.requires.no_fault) lawful.1 (rw (← c.self.view_is) at c.requires.room)
    (gone flow.sid placed) others.sound)
    put

pub invariant_of-self-2 : goal.invariant_of-self-2
invariant_of-self-2 c =
    let a = c.self.inside in
    let flow = c.args.flow in
    let old = c.in-Some.old in
    let all = placed_in a.groups.items in
    let rest = without flow.sid all in
    let lawful = rw (← c.self.view_is) at c.requires.lawful in
    let sound = put-sound a.config rest old flow lawful.0 (before c) c.in-Some.ensures.sid
    c.requires.awake (rw (← c.self.view_is) at c.requires.times) c.requires.periodic
    (rw (← c.self.view_is) at c.requires.no_fault) lawful.1 in
    let long : length c.lift-2.new.rows ≡ a.rows.len =
    omega (arith, c.lift-2.ensures.long, c.self.invariant.told.long, a.rows.ok.0) in
    let sum = grants-without flow.sid (placed_of old) all (stands c).found c.self.invariant.sound.ascending in
    rw (take_at c.lift-2.new.rows _ a.rows.len long) (record {
      sound = rw (placed c) (those c).sound;
      each = c.close_all.ensures.sound a.config (c.put_in.ensures.sound a.config (c.lift_out.ensures.sound a.config
          (c.room_for.ensures.sound a.config c.self.invariant.each)) sound);
      filled = c.close_all.ensures.filled;
      told = rw (placed c) (those c).told;
      bounded = c.lift-2.ensures.bounded;
      counted = rw (placed c) (those c).counted;
      summed = rw (placed c) (omega (
        arith,
        c.self.invariant.summed,
        sum,
        (before c).times.grants,
        sound.times.grants,
        grants-with (placed_of flow) rest,
      ));
      long = rw (placed c) (c.self.invariant.long ∙ ap length (stands c).back
          ∙ length-put_in (λ (g : Placed). g.sid) (placed_of old) rest
          ∙ sym (length-put_in (λ (g : Placed). g.sid) (placed_of flow) rest));
    })

pub returns-clause-moved : goal.returns-clause-moved
returns-clause-moved c = rw (← c.self.view_is, placed c) refl
