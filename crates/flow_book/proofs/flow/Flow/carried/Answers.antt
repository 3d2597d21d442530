-- What it keeps is that of the carried grant.
use Rattle.std.proofs.Common.{◌≡◌, refl}
use Rattle.flow_book.specs.declared.flow.Flow.{Flow}
use Rattle.flow_book.specs.Entry.{live}
use Rattle.flow_book.specs.Carried.{carried_flow}
use Rattle.flow_book.proofs.Carried.{carried-sums}
use Rattle.flow_book.proofs.flow.Flow.carried.Goals as goal

pub returns-clause-sums : goal.returns-clause-sums
returns-clause-sums c =
    let s = c.args.state.now in
    let e : Flow = record {
      turn = c.turn_from.result;
      asked = s.asked;
      batches = c.carried.result;
      granted = s.granted;
      limits = c.carried-2.result;
      spec = s.spec;
      sid = s.sid;
      grants = c.carried-3.result;
    } in
    let are = c.carried-3.ensures in
    let shows : live e ≡ carried_flow s = rw (c.carried.ensures, are.0, are.1, are.2, are.3) refl in
    carried-sums c.args.config.now s e c.requires shows refl c.turn_from.ensures.rank c.turn_from.ensures.turn
    c.carried-2.ensures.stand c.carried-2.ensures.settled
