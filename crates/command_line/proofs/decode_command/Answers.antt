-- The word and the options stand in their order.
use Rattle.std.proofs.Common.{codes, []}
use Rattle.std.proofs.lemmas.Result.{IfOk-weaker}
use Rattle.command_line.proofs.Options.{IsOption-conflict}
use Rattle.command_line.proofs.decode_command.Goals as goal

pub returns : goal.returns
returns c =
    let first = c.with_word-words.ensures (codes "decode") (codes "HEX") [] [] c.command.ensures c.payload_word.ensures in
    let second = c.with_word-words-2.ensures (codes "decode") (codes "draw") _ [] first c.flag-draw.ensures in
    let third = c.with_option-words.ensures (codes "decode") (codes "columns") _ [] second c.columns_option.ensures in
    let fourth = c.with_word-words-3.ensures (codes "decode") (codes "explain") _ [] third c.flag-explain.ensures in
    let fifth = c.with_option-words-2.ensures (codes "decode") (codes "frame") _ [] fourth (IfOk-weaker _ _ _ (λ r adds. IsOption-conflict c.flag-frame.ensures adds.0) c.conflicts_with.ensures) in
    c.with_option.ensures (codes "decode") (codes "json") _ [] fifth c.decode_json_option.ensures
