-- The first field that differs, of the configuration that was read.
use Rattle.std.proofs.Common.{◌≡◌, ◌≢◌, Some, sym, ◌∙◌}
use Rattle.live_command.specs.Difference.{first_of, differences_of}
use Rattle.live_command.proofs.going.require_config.Goals as goal

pub returns-in-Some-clause-err : goal.returns-in-Some-clause-err
returns-in-Some-clause-err c =
    let is = c.in-Some.is in
    let differs : c.config-2.result ≢ c.config.result = rw is at c.first_difference.ensures.differs in
    let first : Some c.in-Some.difference ≡ first_of (differences_of c.config.result c.config-2.result) =
    sym is ∙ c.first_difference.ensures.first in (
      c.in_ok-found.found,
      rw (c.config.ensures.value, c.config-2.ensures.value) at differs,
      sym (rw (c.config.ensures.value, c.config-2.ensures.value) at first),
      c.in_ok-found.ensures,
    )
