-- The number that was read, where it fits.
use Rattle.std.proofs.Common.{rules}
use Rattle.json_fields.specs.Fields.{u16_at}
use Rattle.json_fields.proofs.field.number_u16.Goals as goal

pub returns : goal.returns
unfolding u16_at
returns g c = search rules
