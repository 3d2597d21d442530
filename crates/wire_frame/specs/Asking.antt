-- How many bytes a request asks for.
use Rattle.std.specs.Prelude.{ℕ, ◌*◌, ◌==◌, nat_lt, if◌then◌else◌, Result, Ok, Err}
use Rattle.minislots.specs.declared.TheConstants.{MAX_ASK}
use Rattle.minislots.specs.declared.config.Config.{Config}
use Rattle.minislots.specs.Units.{bytes_in}
use Rattle.wire_frame.specs.declared.request.Request.{Request}
use Rattle.wire_frame.specs.declared.request.Request.TheVariants.{Minislots, Queue}
use Rattle.wire_frame.specs.declared.asking.AskFault.{AskFault}
use Rattle.wire_frame.specs.declared.asking.AskFault.TheVariants.{Nothing, TooMany}

-- what a burst of so many minislots carries, or so many units of this many bytes
abbrev pub asked_by : Config → ℕ → Request → ℕ
asked_by c unit (Minislots number sid) = bytes_in c number
asked_by c unit (Queue number sid) = number * unit

-- the bytes, where an ask may have them
abbrev pub ask_of : ℕ → Result ℕ AskFault
ask_of bytes = if bytes == 0 then Err Nothing else if nat_lt MAX_ASK bytes then Err TooMany else Ok bytes
