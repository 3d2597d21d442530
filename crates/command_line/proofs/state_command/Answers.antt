-- The option and the word stand in their places.
use Rattle.std.proofs.Common.{codes, []}
use Rattle.command_line.proofs.state_command.Goals as goal

pub returns : goal.returns
returns c =
    let first = c.with_word-words.ensures (codes "state") (codes "explain") [] [] c.command.ensures c.flag.ensures in
    c.with_word.ensures (codes "state") (codes "FILE") _ [] first c.file_word.ensures
