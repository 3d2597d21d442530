-- The number fits.
use Rattle.std.proofs.Common.{◌≡◌, subst, arith}
use Rattle.serde_json.specs.Data.{number, unsigned}
use Rattle.std.proofs.Common.{codes}
use Rattle.history_reading.specs.Spelled.{IsMember}
use Rattle.history_reading.proofs.recorded.quick_entry.seat_under.Goals as goal

pub returns : goal.returns
returns c =
    let same : c.in_ok-number.number ≡ c.in-Ok.seat = grind arith in (
      omega arith,
      λ depth. subst
          (λ n. IsMember depth (codes "seat") (number (unsigned n)) c.args.reader.now c.number_under.new.reader)
          same (c.in_ok-number.ensures.1 depth),
    )
