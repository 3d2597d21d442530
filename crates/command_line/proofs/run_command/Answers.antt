-- The options stand in their order.
use Rattle.std.proofs.Common.{codes, []}
use Rattle.command_line.proofs.run_command.Goals as goal

pub returns : goal.returns
returns c =
    let first = c.with_word-words.ensures (codes "run") (codes "history") [] [] c.command.ensures c.flag-history.ensures in
    let second = c.with_option-words.ensures (codes "run") (codes "journal") _ [] first c.run_journal_option.ensures in
    let third = c.with_option-words-2.ensures (codes "run") (codes "explain") _ [] second c.run_explain_option.ensures in
    let fourth = c.with_option-words-3.ensures (codes "run") (codes "frames") _ [] third c.run_frames_option.ensures in
    c.with_word.ensures (codes "run") (codes "FILE") _ [] fourth c.file_word.ensures
