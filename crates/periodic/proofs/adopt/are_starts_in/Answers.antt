-- Each start follows the end of the one before it, or the first that does not says that they are not in turn.
use Rattle.std.proofs.Common.{refl, arith}
use Rattle.periodic.specs.Search.{IsStartOf}
use Rattle.periodic.proofs.Adopting.{gone-none, gone-more, gone-wrong, gone-all}
use Rattle.periodic.proofs.adopt.are_starts_in.Goals as goal

pub loop-start-init : goal.loop-start-init
loop-start-init c =
    gone-none (IsStartOf c.args.config.now c.args.wanted c.args.offset c.args.bits.now.words) c.args.wanted.slots
    c.args.offset c.args.starts.now

pub returns-then-start-from-clause-unlawful : goal.returns-then-start-from-clause-unlawful
returns-then-start-from-clause-unlawful c = λ no are.
    gone-wrong (IsStartOf c.args.config.now c.args.wanted c.args.offset c.args.bits.now.words) c.args.wanted.slots
    c.args.offset c.loop-start.from c.args.starts.now c.loop-start.start-index (omega arith)
    (λ late here. omega (arith, late, c.if-start-from.true, c.from-start.ensures)) c.loop-start.invariant
    (are.in_turn, are.each)

pub returns-then-not-is_start-clause-unlawful : goal.returns-then-not-is_start-clause-unlawful
returns-then-not-is_start-clause-unlawful c = λ no are.
    gone-wrong (IsStartOf c.args.config.now c.args.wanted c.args.offset c.args.bits.now.words) c.args.wanted.slots
    c.args.offset c.loop-start.from c.args.starts.now c.loop-start.start-index (omega arith)
    (λ late. rw c.from-start.ensures at (c.if-not-is_start.ensures.unlawful refl)) c.loop-start.invariant
    (are.in_turn, are.each)

pub loop-start-preserved : goal.loop-start-preserved
loop-start-preserved c =
    rw c.from-start.ensures
    (gone-more (IsStartOf c.args.config.now c.args.wanted c.args.offset c.args.bits.now.words) c.args.wanted.slots
    c.args.offset c.loop-start.from c.args.starts.now c.loop-start.start-index (omega arith)
    (omega (arith, c.if-start-from.false, c.from-start.ensures))
    (rw c.from-start.ensures at (c.if-not-is_start.ensures.lawful refl)) c.loop-start.invariant)

pub returns-clause-lawful : goal.returns-clause-lawful
returns-clause-lawful c = λ yes.
    let turn = gone-all (IsStartOf c.args.config.now c.args.wanted c.args.offset c.args.bits.now.words)
    c.args.wanted.slots c.args.offset c.loop-start.from c.loop-start.start-index c.args.starts.now (omega arith)
    c.loop-start.invariant in
    record { count = c.requires.count; in_turn = turn.0; each = turn.1 }
