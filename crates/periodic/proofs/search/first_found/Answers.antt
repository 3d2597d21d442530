-- No phase before the one that is found has lawful starts.
use Rattle.std.proofs.Common.{refl, arith}
use Rattle.periodic.proofs.Bounding.{none-more, turned-away}
use Rattle.periodic.proofs.search.first_found.Goals as goal

pub returns-in-Some-clause-found : goal.returns-in-Some-clause-found
returns-in-Some-clause-found c = record {
  phase_within = omega (arith, c.in-Some.ensures.phase);
  room = rw c.in-Some.ensures.phase (c.if-not-has_room.ensures.room refl);
  at_phase = c.in-Some.ensures.found;
  before = λ phase lt. c.loop-phase.invariant.none phase (omega (arith, lt, c.in-Some.ensures.phase));
}

pub loop-phase-preserved : goal.loop-phase-preserved
loop-phase-preserved c = record {
  none = none-more c.args.config.now c.args.rows.now c.args.counts.now.starts c.args.wanted c.loop-phase.phase
      c.loop-phase.invariant.none (λ room. c.in_default.ensures.absent);
  bounded = c.learn.ensures;
}

pub loop-phase-preserved-then-lacks : goal.loop-phase-preserved-then-lacks
loop-phase-preserved-then-lacks c =
    let config = c.args.config.now in
    let inv = c.loop-phase.invariant in
    let full = c.if-lacks.ensures refl in
    record {
      none = none-more config c.args.rows.now c.args.counts.now.starts c.args.wanted c.loop-phase.phase inv.none
          (λ room. turned-away config c.args.rows.now c.loop-phase.widest.most c.args.wanted c.loop-phase.phase full.0
          inv.bounded c.requires.sought (omega arith) full.1 full.2);
      bounded = inv.bounded;
    }

pub loop-phase-preserved-then-not-has_room : goal.loop-phase-preserved-then-not-has_room
loop-phase-preserved-then-not-has_room c =
    let inv = c.loop-phase.invariant in
    record {
      none = none-more c.args.config.now c.args.rows.now c.args.counts.now.starts c.args.wanted c.loop-phase.phase
          inv.none (λ room. absurd (c.if-not-has_room.ensures.full refl room));
      bounded = inv.bounded;
    }

pub returns-clause-absent : goal.returns-clause-absent
returns-clause-absent c = λ phase lt. c.loop-phase.invariant.none phase (omega (arith, lt, c.loop-phase-test.false))
