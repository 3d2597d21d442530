-- The starts gone through are in turn.
use Rattle.std.proofs.Common.{drop}
use Rattle.periodic.specs.Search.{IsStartOf}
use Rattle.periodic.proofs.Adopting.{IsGoneThrough}
use Rattle.periodic.proofs.adopt.are_starts_in.Given as goal

abbrev pub invariant-loop-start : goal.invariant-loop-start
invariant-loop-start l =
    IsGoneThrough (IsStartOf l.config l.wanted l.offset l.bits.words) l.wanted.slots l.offset l.from
    l.starts (drop l.start-index l.starts)
