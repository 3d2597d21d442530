-- A draft with the flows of the book, and nothing in its frame.
use Rattle.std.proofs.Common.{false, refl}
use Rattle.std.proofs.lemmas.List.{length-replicate}
use Rattle.map_build.proofs.Begun.{none-marked}
use Rattle.map_build.proofs.draft.Draft.begin.Goals as goal

pub returns : goal.returns
returns c = record {
  bounded = c.requires.bounded;
  config = refl;
  before = c.requires.none;
  flows_are = refl;
  starts = refl;
  offset = refl;
  grants = refl;
  elements = c.in_ok-with_capacity.ensures.items;
  bytes_of = c.in_ok-with_capacity-2.ensures.items;
  marks = length-replicate 16 false;
  unmarked = none-marked 16;
  started = c.requires.started;
}
