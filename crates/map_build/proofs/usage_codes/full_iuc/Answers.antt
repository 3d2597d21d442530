-- So few minislots carry fewer bytes than a number of 32 bits tells.
use Rattle.std.proofs.Common.{arith}
use Rattle.minislots.proofs.Bounds.{bounds_of}
use Rattle.map_build.proofs.FullGrants.{capacity_of-small}
use Rattle.map_build.proofs.usage_codes.full_iuc.Goals as goal

pub overflow_cast-bytes : goal.overflow_cast-bytes
overflow_cast-bytes c =
    let config = c.args.config.now in
    let bounds = bounds_of config c.frame-lawful.ensures.lawful in
    omega (
      arith,
      c.bytes_in.ensures.value,
      capacity_of-small config.bursts config.short_max c.from.result bounds.bursts (omega (arith, c.from.ensures)),
    )
