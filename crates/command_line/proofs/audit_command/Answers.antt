-- The options stand in their order.
use Rattle.std.proofs.Common.{codes, []}
use Rattle.command_line.proofs.audit_command.Goals as goal

pub returns : goal.returns
returns c =
    let first = c.with_word-words.ensures (codes "audit") (codes "explain") [] [] c.command.ensures c.flag-explain.ensures in
    let second = c.with_option-words.ensures (codes "audit") (codes "json") _ [] first c.audit_json_option.ensures in
    let third = c.with_word-words-2.ensures (codes "audit") (codes "journal") _ [] second c.journal_option-journal.ensures in
    c.with_word.ensures (codes "audit") (codes "FILE") _ [] third c.file_word.ensures
