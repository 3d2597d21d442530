-- The options stand in their order.
use Rattle.std.proofs.Common.{codes, []}
use Rattle.command_line.proofs.draw_command.Goals as goal

pub returns : goal.returns
returns c =
    let first = c.with_option-words.ensures (codes "draw") (codes "from") [] [] c.command.ensures c.frames_option.ensures in
    let second = c.with_option-words-2.ensures (codes "draw") (codes "count") _ [] first c.frames_option-2.ensures in
    let third = c.with_word-words.ensures (codes "draw") (codes "journal") _ [] second c.flag.ensures in
    c.with_word.ensures (codes "draw") (codes "FILE") _ [] third c.file_word.ensures
