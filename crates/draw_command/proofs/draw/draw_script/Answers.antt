-- The script that was read was drawn.
use Rattle.std.proofs.Common.{◌≡◌, ap}
use Rattle.sched_history.specs.Machine.{Machine}
use Rattle.draw_command.specs.Drawing.{DrawsLeaving}
use Rattle.draw_command.proofs.draw.draw_script.Goals as goal

pub returns-clause-ok : goal.returns-clause-ok
returns-clause-ok g c =
    let opened : c.in-Ok.scheduler.config ≡ c.in_ok-config.config = ap (λ (m : Machine). m.config) c.in-Ok.ensures in
    let leaving : DrawsLeaving c.in_ok-config.config _ c.in_ok-config.calls.items _ _ _ =
    rw (opened, c.deref.ensures.value) at c.in_ok-unrecorded.ensures.ok in
    record {
      drawn = record {
        scenario = record { config = c.in_ok-config.config; calls = c.in_ok-config.calls.items };
        read = c.in_ok-config.ensures.ok;
        draws = leaving.draws;
      };
      count = leaving.count;
    }
