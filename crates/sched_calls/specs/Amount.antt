-- How much a request asks for.
use Rattle.std.specs.Prelude.{ℕ}
use Rattle.minislots.specs.declared.config.Config.{Config}
use Rattle.minislots.specs.Units.{bytes_in}
use Rattle.sched_calls.specs.declared.amount.Amount.{Amount}
use Rattle.sched_calls.specs.declared.amount.Amount.TheVariants.{Bytes, Slots}

-- the bytes that a request asks for: those that it names, or the most of a data grant of so many minislots
abbrev pub requested : Config → Amount → ℕ
requested c (Bytes bytes) = bytes
requested c (Slots slots) = bytes_in c slots
