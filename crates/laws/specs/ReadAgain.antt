-- What is read again of the text of a history.
use Rattle.std.specs.Prelude.{◌≡◌, ◌≤◌, List, length, None, Ok}
use Rattle.std.specs.List.{AllByRecursion}
use Rattle.minislots.specs.declared.config.Config.{Config}
use Rattle.minislots.specs.Config.{first_wrong}
use Rattle.sched_calls.specs.declared.reply.Entry.{Entry}
use Rattle.text_stream.specs.declared.input.TheConstants.{MAX_INPUT}
use Rattle.history_writing.specs.HistoryText.{history_text}
use Rattle.history_writing.specs.Fits.{ConfigFits, EntryFits}
use Rattle.history_reading.specs.Recorded.{history_outcome}

-- what is written of a history under a lawful configuration stands for that history, where it is not too long to be
-- read
abbrev pub IsReadAgain : Type 0
IsReadAgain = (c : Config) (es : List Entry) → ConfigFits c → first_wrong c ≡ None → AllByRecursion EntryFits es
    → length (history_text c es) ≤ MAX_INPUT
    → history_outcome (history_text c es) ≡ Ok (record { config = c; entries = es })
