-- The words and the option stand in their order.
use Rattle.std.proofs.Common.{codes, []}
use Rattle.command_line.proofs.bursts_command.Goals as goal

pub returns : goal.returns
returns c =
    let first = c.with_word-words.ensures (codes "bursts") (codes "BYTES") [] [] c.command.ensures c.sizes_words.ensures in
    c.with_word.ensures (codes "bursts") (codes "json") _ [] first c.flag.ensures
