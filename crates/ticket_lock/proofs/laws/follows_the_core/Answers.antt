-- Each step is its event of the core.
use Rattle.ticket_lock.specs.Rule.{about_of, Ruled}
use Rattle.ticket_lock.proofs.OneSeat.{own_part}
use Rattle.ticket_lock.proofs.Draw.{drawn_world, draw_is_the_cores}
use Rattle.ticket_lock.proofs.Look.{entered_world, is_served, at_home, look_is_the_cores, entry_is_the_cores}
use Rattle.ticket_lock.proofs.Running.{draw_runs, look_runs, enter_runs, leave_runs}
use Rattle.ticket_lock.proofs.Leave.{left_world, leave_is_the_cores}
use Rattle.ticket_lock.proofs.laws.follows_the_core.Goals as goal

pub returns : goal.returns
returns g c =
    let head = g.T.Journal.head in
    let entries = g.T.Journal.entries in
    let stamp = g.T.Journal.stamp in
    record {
      steps = λ a w log s id v p r at only. record {
        draw = λ idle. let did = draw_is_the_cores head entries stamp a w log s r id v at p only idle in
            (drawn_world w p.number, did.0, did.1);
        look = λ t waits other. look_is_the_cores head entries stamp a w log s r id v at p only t waits other;
        enter = λ t waits found.
            let seen = (own_part head entries stamp a w log s r id v at p only).1.seen in
            let served = is_served head entries stamp a w log s r id v at p only t waits found in
            let home = at_home head entries stamp a w log s r id v at p only t waits served in
            let did = entry_is_the_cores head entries stamp a w log s r id v at p only t waits served seen.0 seen.1 in
            (seen.0, seen.1, entered_world w p.number t, did.0, home.0, home.1, did.1);
        leave = λ t x holding may.
            let did = leave_is_the_cores head entries stamp a w log s r id v at p only t holding x may in
            (may.1.0, may.1.2, left_world w p.number, did.0, did.1);
      };
      running = λ key.
          let a = about_of head entries key in
          let holds = Ruled head entries stamp a in record {
            draw = λ id v p s after only idle to w now log grown r kept.
                draw_runs head entries stamp a holds w now log grown s after r kept id v p only idle to;
            look = λ id t v p s after only waits to other w now log grown r kept.
                look_runs head entries stamp a holds w now log grown s after r kept id v p only t waits to other;
            enter = λ id t v p s after only waits to own w now log grown r kept.
                enter_runs head entries stamp a holds w now log grown s after r kept id v p only t waits to own;
            leave = λ id t v p x s after only holding to w now log grown r kept.
                leave_runs head entries stamp a holds w now log grown s after r kept id v p only t x holding to;
          };
    }
