-- The first difference is that of the first part that has one.
use Rattle.std.proofs.Common.{◌∙◌, sym}
use Rattle.live_command.proofs.Differing.{first_by_parts, differ}
use Rattle.live_command.proofs.difference.first_difference.Goals as goal

pub returns-clause-first : goal.returns-clause-first
returns-clause-first c =
    let parts = first_by_parts c.args.journal.now c.args.given.now in
    c.or-4.ensures ∙ rw (
      c.or-3.ensures,
      c.or-2.ensures,
      c.or.ensures,
      c.first_behind.ensures,
      c.first_in_bursts.ensures,
      c.first_between.ensures,
      c.first_uniform.ensures,
      c.first_of.ensures,
      c.small.ensures,
    ) (sym parts)

pub returns-clause-differs : goal.returns-clause-differs
returns-clause-differs c =
    differ c.args.journal.now c.args.given.now c.or-4.result (returns-clause-first c)
