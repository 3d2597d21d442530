-- Each cut keeps the rule of the table, and gives the seat with the next number.
use Rattle.std.proofs.Common.{rules, Some, ◌∙◌, arith}
use Rattle.ticket_lock.specs.Rule.{about_of}
use Rattle.ticket_lock.specs.Standing.{standing_of}
use Rattle.ticket_lock.proofs.Numbers.{splits}
use Rattle.ticket_lock.proofs.Dealt.{left_has, count_grown, row_grown, new_seat, dealt_standing}
use Rattle.ticket_lock.proofs.opening.deal.Goals as goal

pub split_seat-part-requires : goal.split_seat-part-requires
split_seat-part-requires g c =
    (search rules, search rules, splits g.T.Journal.head g.T.Journal.entries g.T.Journal.stamp _ _ _)

pub invariant_of-push_reserved : goal.invariant_of-push_reserved
invariant_of-push_reserved g c = new_seat (Some (about_of g.T.Journal.head g.T.Journal.entries c.args.steps.now.key))
    c.loop-number.number c.args.seats c.loop-number-test.true c.loop-number.place.me.0 c.loop-number.invariant.view
    c.split_seat-part.result.me c.split_seat-part.ensures.4

pub push_reserved-requires : goal.push_reserved-requires
push_reserved-requires g c =
    let counted = c.loop-number.invariant.counted in
    let room = c.loop-number.invariant.room in
    let below = c.loop-number-test.true in omega arith

pub loop-number-preserved : goal.loop-number-preserved
loop-number-preserved g c =
    let i = c.loop-number.invariant in
    let about = Some (about_of g.T.Journal.head g.T.Journal.entries c.args.steps.now.key) in
    let cut = c.split_seat-part.ensures in
    let pushed = c.push_reserved.ensures in
    record {
      same = cut.0 ∙ i.same;
      view = left_has about c.loop-number.number c.args.seats c.loop-number-test.true c.loop-number.place.me.0 i.view
          c.split_seat-part.new.seat.me c.loop-number.place.me.1 cut.2;
      made = row_grown (record { table = c.args.steps.now.table_id; about = about }) c.loop-number.number
          c.loop-number.row.items c.push_reserved.new.self.items
          (standing_of c.split_seat-part.result.table_id c.split_seat-part.result.me.0) pushed.items i.made
          (dealt_standing about c.loop-number.number c.args.seats c.loop-number-test.true c.loop-number.place.me.0
          i.view c.split_seat-part.result.me cut.4 c.split_seat-part.result.table_id c.args.steps.now.table_id
          (cut.3 ∙ i.same));
      counted = count_grown c.loop-number.row.items c.push_reserved.new.self.items
          (standing_of c.split_seat-part.result.table_id c.split_seat-part.result.me.0) c.loop-number.number
          pushed.items i.counted;
      room = search rules;
    }
