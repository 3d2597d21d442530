-- Appending bytes piece by piece.
use Rattle.std.proofs.Common.{◌≡◌, ◌-◌, ◌≤◌, length, take}
use Rattle.std.specs.Io.KnownBytes.{append_known}
use Rattle.journal_file.proofs.line_file.append.Given as goal

-- the bytes before the place stand in the file
abbrev pub invariant-loop-at : goal.invariant-loop-at
invariant-loop-at g l = record {
  within : l.at ≤ length l.bytes;
  put : g.S.Store.contents l.store ≡ append_known (g.S.Store.contents l.initial.store) (take l.at l.bytes);
  reached : g.S.Store.reached l.store ≡ g.S.Store.reached l.initial.store;
  unfailed : g.S.Store.has_failed l.store ≡ g.S.Store.has_failed l.initial.store;
}

abbrev pub decreases-loop-at : goal.decreases-loop-at
decreases-loop-at g l = length l.bytes - l.at
