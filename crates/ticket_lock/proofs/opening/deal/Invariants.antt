-- The seats below `number` are made, and the seat of the opening has the other numbers.
use Rattle.std.proofs.Common.{◌≡◌, ◌≤◌, ◌-◌, Some, map, length, vec_capacity}
use Rattle.std.specs.List.{range_with_len}
use Rattle.ticket_lock.specs.Rule.{about_of, idle_view, new_parts}
use Rattle.ticket_lock.specs.Calls.{new_standing}
use Rattle.ticket_lock.proofs.opening.deal.Given as goal

abbrev pub invariant-loop-number : goal.invariant-loop-number
invariant-loop-number g l =
    let about = Some (about_of g.T.Journal.head g.T.Journal.entries l.steps.key) in record {
      same : l.place.table_id ≡ l.steps.table_id;
      view : l.place.me.0 ≡ idle_view about (new_parts l.number (l.seats - l.number));
      made : l.row.items ≡ map (new_standing (record { table = l.steps.table_id; about = about }))
          (range_with_len 0 l.number);
      counted : length l.row.items ≡ l.number;
      room : l.seats ≤ vec_capacity l.row;
    }
