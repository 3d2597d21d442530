-- The first starts so far, one behind the other and within the jitter.
use Rattle.std.proofs.Common.{◌≡◌, ◌+◌, ◌≤◌, length, take}
use Rattle.std.specs.List.{AllByRecursion}
use Rattle.periodic.specs.Search.{AreNextStarts}
use Rattle.periodic.proofs.Greedy.{end_of}
use Rattle.periodic.proofs.search.starts_in.Given as goal

abbrev pub invariant-loop-index : goal.invariant-loop-index
invariant-loop-index l = record {
  long : length l.starts ≡ 8;
  next : AreNextStarts l.bits.words l.config.frame l.wanted.slots l.offset (take l.index l.starts);
  within : AllByRecursion (λ s. s ≤ l.offset + l.wanted.jitter) (take l.index l.starts);
  from_is : l.from ≡ end_of l.wanted.slots l.offset (take l.index l.starts);
  later : l.offset ≤ l.from;
  most : l.from ≤ 1024;
}
