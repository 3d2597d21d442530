-- The flows gone through that have places are placed.
use Rattle.std.proofs.Common.{◌≡◌, take}
use Rattle.periodic.specs.Carried.{placed_in}
use Rattle.periodic.proofs.table.Table.open_at.Given as goal

abbrev pub invariant-loop-flow : goal.invariant-loop-flow
invariant-loop-flow l = record {
  config : l.table.config ≡ l.fn.config;
  placed : l.table.placed ≡ placed_in l.fn.config (take l.flow-index l.flows);
}
