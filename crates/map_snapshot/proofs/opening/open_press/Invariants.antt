-- So many readers are made, and the press has published nothing.
use Rattle.std.proofs.Common.{◌≡◌, ◌≤◌, [], length, replicate, vec_capacity}
use Rattle.map_snapshot.specs.Maps.{unread}
use Rattle.map_snapshot.proofs.opening.open_press.Given as goal

abbrev pub invariant-loop : goal.invariant-loop
invariant-loop g l = record {
  empty : l.press.list ≡ [];
  idle : l.press.waiting ≡ [];
  made : l.row.items ≡ replicate l.counter (unread l.press.press);
  counted : length l.row.items ≡ l.counter;
  room : l.readers ≤ vec_capacity l.row;
}
