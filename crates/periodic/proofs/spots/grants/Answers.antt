-- A periodic flow has from 1 to 8 grants.
use Rattle.std.proofs.Common.{arith}
use Rattle.periodic.proofs.Parameters.{places_of}
use Rattle.periodic.proofs.spots.grants.Goals as goal

pub returns-clause-positive : goal.returns-clause-positive
returns-clause-positive c =
    omega (
      arith,
      c.from.ensures,
      c.grants.ensures,
      (places_of _ _ c.frame-lawful.ensures.lawful c.requires.periodic c.requires.no_fault).grants_positive,
    )

pub returns-clause-most : goal.returns-clause-most
returns-clause-most c =
    omega (
      arith,
      c.from.ensures,
      c.grants.ensures,
      (places_of _ _ c.frame-lawful.ensures.lawful c.requires.periodic c.requires.no_fault).grants_most,
    )
