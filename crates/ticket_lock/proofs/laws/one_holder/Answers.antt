-- At most one seat holds.
use Rattle.ticket_core.proofs.Turns as turns
use Rattle.ticket_lock.specs.Rule.{about_of}
use Rattle.ticket_lock.proofs.Running.{holders_are_one}
use Rattle.ticket_lock.proofs.laws.one_holder.Goals as goal

pub returns : goal.returns
returns g c =
    let head = g.T.Journal.head in
    let entries = g.T.Journal.entries in
    let stamp = g.T.Journal.stamp in
    record {
      holder = λ a w log s r. record { one = turns.one_holder w r.lawful; out = r.out; home = r.home };
      running = λ key s ruled. record {
        world = ruled.0;
        log = ruled.1;
        stands = ruled.2;
        holder = record { one = turns.one_holder ruled.0 ruled.2.lawful; out = ruled.2.out; home = ruled.2.home };
        seats = holders_are_one head entries stamp (about_of head entries key) ruled.0 ruled.1 s ruled.2;
      };
    }
