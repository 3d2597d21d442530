-- What is written of a history stands for that history.
use Rattle.std.proofs.Common.{◌≡◌, [], ◌∷◌, ◌++◌, Ok, refl, ◌∙◌, arith}
use Rattle.serde_json.specs.Written.{compact_text}
use Rattle.history_writing.specs.HistoryText.{history_data, history_text}
use Rattle.text_stream.specs.Input.{value_of}
use Rattle.history_reading.specs.Recorded.{history_in}
use Rattle.laws.specs.ReadAgain.{IsReadAgain}
use Rattle.text_stream.proofs.Bytes.{value_of-Ok}
use Rattle.laws.proofs.HistoryAgain.{history_of-data}
use Rattle.laws.proofs.HistoryDepth.{depth-history}
use Rattle.history_reading.proofs.HistoryOutcome.{history_outcome-short}
use Rattle.laws.proofs.HistoryReadable.{history_readable}
use Rattle.laws.proofs.Readable.{read-compact, IsUtf8-ended}

-- the text of a history under a lawful configuration stands for that history
pub history_outcome-text : IsReadAgain
unfolding history_in history_text
history_outcome-text c es config_fits lawful entries_fit short =
    let value = history_data c es in
    let readable = history_readable c es config_fits entries_fit in
    let deep = depth-history c es in
    let reads : value_of (history_text c es) ≡ Ok value = value_of-Ok (compact_text value ++ 10 ∷ []) value
    (IsUtf8-ended value readable) (read-compact value readable (omega (arith, deep))) in
    history_outcome-short (history_text c es) short
    ∙ rw reads (rw (history_of-data c es config_fits entries_fit) (rw lawful refl))
