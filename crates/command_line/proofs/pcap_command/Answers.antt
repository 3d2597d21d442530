-- The options stand in their order.
use Rattle.std.proofs.Common.{codes, []}
use Rattle.command_line.proofs.pcap_command.Goals as goal

pub returns : goal.returns
returns c =
    let first = c.with_word-words.ensures (codes "pcap") (codes "mac") [] [] c.command.ensures c.address_option.ensures in
    let second = c.with_word-words-2.ensures (codes "pcap") (codes "journal") _ [] first c.journal_option.ensures in
    c.with_word.ensures (codes "pcap") (codes "FILE") _ [] second c.file_word.ensures
