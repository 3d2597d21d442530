-- The flow takes what it took.
use Rattle.std.proofs.Common.{◌≡◌, true, false, refl, sym, ap, ◌∙◌, ℕ}
use Rattle.sched_calls.specs.FlowSpec.{has_place_of}
use Rattle.sched_calls.specs.declared.placement.Starts.{Starts}
use Rattle.periodic.specs.declared.spots.PlacedFlow.{PlacedFlow}
use Rattle.periodic.specs.Placement.{IsToldFrom}
use Rattle.periodic.specs.Table.{placed_at, with_placed, without}
use Rattle.periodic.specs.Fields.{placed_of, IsSoundFlow}
use Rattle.periodic.specs.Groups.{flows_in, placed_in}
use Rattle.periodic.proofs.Among.{StandsAmong, order-stands, order-instead, none-placed}
use Rattle.periodic.proofs.Kept.{told-alike, told-sound, fields-kept}
use Rattle.periodic.proofs.table.Table.keep.Goals as goal

pub put_in-requires : goal.put_in-requires
put_in-requires c = c.in-Some.ensures.place c.self.inside.config c.self.invariant.each

stands : (c : goal.After-put_in)
    → StandsAmong c.args.sid (placed_of c.in-Some.flow) (placed_in c.self.inside.groups.items)
stands c =
    order-stands c.in-Some.flow (flows_in c.lift_out.new.groups.items) (flows_in c.self.inside.groups.items)
    c.in-Some.ensures.taken c.args.sid c.in-Some.ensures.sid c.self.invariant.sound.ascending

from : (c : goal.After-put_in) → (next : ℕ)
    × IsToldFrom c.self.inside.config c.args.spec next c.in-Some.flow.placement c.args.placement.now
from c = rw (stands c).found at (rw (← c.self.view_is) at c.requires.told)

same : (c : goal.After-put_in) → has_place_of c.in-Some.flow.spec c.args.spec ≡ true
same c = rw (stands c).found at (rw (← c.self.view_is) at c.requires.alike)

-- the flow as it is put in
abbrev kept : goal.After-put_in → PlacedFlow
kept c = record c.in-Some.flow {
  spec = c.args.spec;
  placement = record {
    reference = c.args.placement.now.reference;
    starts = c.in-Some.flow.placement.starts;
  };
  rests = false;
}

made : (c : goal.After-put_in) → kept c
    ≡ record c.in-Some.flow { spec = c.args.spec; placement = c.args.placement.now; rests = false }
made c =
    ap (λ (starts : Starts). record c.in-Some.flow {
      spec = c.args.spec;
      placement = record { reference = c.args.placement.now.reference; starts = starts };
      rests = false;
    }) (sym (from c).1.starts)

placed : (c : goal.After-put_in) → placed_in c.put_in.new.groups.items
    ≡ with_placed (placed_of (kept c)) (without c.args.sid (placed_in c.self.inside.groups.items))
placed c =
    order-instead c.args.sid c.in-Some.flow (kept c) (flows_in c.lift_out.new.groups.items)
    (flows_in c.self.inside.groups.items) (flows_in c.put_in.new.groups.items) c.in-Some.ensures.taken
    c.put_in.ensures.added c.in-Some.ensures.sid c.in-Some.ensures.sid c.self.invariant.sound.ascending

pub invariant_of-self : goal.invariant_of-self
invariant_of-self c =
    let a = c.self.inside in
    let flow = c.in-Some.flow in
    let before = c.in-Some.ensures.flow a.config c.self.invariant.each in
    let sound : IsSoundFlow a.config (kept c) =
    told-sound a.config flow (kept c) c.args.spec c.args.placement.now (from c).0 before (same c) (from c).1
    (rw (← c.self.view_is) at c.requires.no_fault) (made c) in
    let alike = rw (← ap placed_of (made c))
    at (told-alike a.config flow c.args.spec c.args.placement.now (from c).0 before (same c) (from c).1) in
    fields-kept a.config c.args.sid (placed_of flow) (placed_of (kept c)) a.groups.items
    c.put_in.new.groups.items a.rows.items a.widest.most a.counts.starts a.grants a.len
    alike (stands c) sound.sound (placed c)
    (c.put_in.ensures.sound a.config (c.lift_out.ensures.sound a.config c.self.invariant.each) sound)
    (c.put_in.ensures.filled (c.in-Some.ensures.filled c.self.invariant.filled)) c.self.invariant

pub returns-in-Some : goal.returns-in-Some
returns-in-Some c =
    let own = ap (λ sid. placed_at sid c.args.spec c.args.placement.now) c.in-Some.ensures.sid in
    rw (← c.self.view_is, placed c, ap placed_of (made c) ∙ own) refl

pub invariant_of-self-in_default : goal.invariant_of-self-in_default
invariant_of-self-in_default c =
    absurd (none-placed c.args.sid (flows_in c.self.inside.groups.items) c.in_default.ensures.absent
    (rw (← c.self.view_is) at c.requires.placed))

pub returns-in_default : goal.returns-in_default
returns-in_default c =
    absurd (none-placed c.args.sid (flows_in c.self.inside.groups.items) c.in_default.ensures.absent
    (rw (← c.self.view_is) at c.requires.placed))
