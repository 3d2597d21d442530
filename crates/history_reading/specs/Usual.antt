-- What a text stands for, whatever its configuration.
use Rattle.std.specs.Prelude.{ℕ, List, Result}
use Rattle.text_stream.specs.declared.fault.TextFault.{TextFault}
use Rattle.text_stream.specs.Input.{value_of}
use Rattle.text_stream.specs.Outcome.{◌>>=◌}
use Rattle.history_reading.specs.Recorded.{History, history_of}

-- the history that a text stands for, whatever its configuration
abbrev pub recorded_text : List ℕ → Result History TextFault
recorded_text bytes = value_of bytes >>= history_of
