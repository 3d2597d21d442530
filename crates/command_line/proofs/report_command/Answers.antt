-- The options stand in their order.
use Rattle.std.proofs.Common.{codes, []}
use Rattle.command_line.proofs.report_command.Goals as goal

pub returns : goal.returns
returns c =
    let first = c.with_word-words.ensures (codes "report") (codes "all") [] [] c.command.ensures c.flag-all.ensures in
    let second = c.with_option-words.ensures (codes "report") (codes "json") _ [] first c.report_json_option.ensures in
    let third = c.with_option-words-2.ensures (codes "report") (codes "openmetrics") _ [] second c.report_metrics_option.ensures in
    let fourth = c.with_option-words-3.ensures (codes "report") (codes "svg") _ [] third c.report_picture_option.ensures in
    let fifth = c.with_option-words-4.ensures (codes "report") (codes "from") _ [] fourth c.time_option.ensures in
    let sixth = c.with_option-words-5.ensures (codes "report") (codes "to") _ [] fifth c.time_option-2.ensures in
    let seventh = c.with_option-words-6.ensures (codes "report") (codes "every") _ [] sixth c.every_option.ensures in
    let eighth = c.with_word-words-2.ensures (codes "report") (codes "journal") _ [] seventh c.journal_option-lines.ensures in
    c.with_word.ensures (codes "report") (codes "FILE") _ [] eighth c.file_word.ensures
