-- The flows gone through have the room, and the flows are the same and keep their sums.
use Rattle.std.proofs.Common.{◌≡◌, ℕ, ◌<◌, ◌≤◌, length, map, get_or}
use Rattle.std.specs.List.{AllByRecursion}
use Rattle.minislots.specs.declared.config.Config.{Config}
use Rattle.flow_book.specs.declared.flow.Flow.{Flow}
use Rattle.flow_book.specs.Entry.{live, room_in, KeepsSums}
use Rattle.flow_book.specs.Queue.{entry_of}
use Rattle.flow_book.specs.Book.{KeepsRoom}
use Rattle.flow_book.proofs.flow.reserve_each.Given as goal

abbrev pub invariant-loop-place : goal.invariant-loop-place
invariant-loop-place l = record {
  long : length l.flows ≡ length l.initial.flows;
  same : map live l.flows ≡ map live l.initial.flows;
  entries : map entry_of l.flows ≡ map entry_of l.initial.flows;
  room : (k : ℕ) (d : Flow) → k < l.place → l.grants ≤ (room_in (get_or l.flows k d)).grants;
  kept : KeepsRoom (map room_in l.initial.flows) (map room_in l.flows);
  sums : (c : Config) → AllByRecursion (KeepsSums c) l.initial.flows → AllByRecursion (KeepsSums c) l.flows;
}
