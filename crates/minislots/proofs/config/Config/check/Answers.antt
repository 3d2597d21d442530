-- A lawful configuration keeps to its bounds, and is given back as it is.
use Rattle.std.proofs.Common.{refl}
use Rattle.minislots.proofs.Bounds.{bounds_of}
use Rattle.minislots.proofs.config.Config.check.Goals as goal

pub grant_sizes-sizes-requires : goal.grant_sizes-sizes-requires
grant_sizes-sizes-requires c = (bounds_of _ c.in_ok-check_fields.ensures).bursts

pub invariant_of-result : goal.invariant_of-result
invariant_of-result c = (
  c.in_ok-check_fields.ensures,
  bounds_of _ c.in_ok-check_fields.ensures,
  c.grant_sizes-sizes.ensures.value,
  c.grant_sizes-sizes.ensures.small,
)

pub returns-clause-ok : goal.returns-clause-ok
returns-clause-ok c = refl
