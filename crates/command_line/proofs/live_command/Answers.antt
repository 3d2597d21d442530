-- The options stand in their order.
use Rattle.std.proofs.Common.{codes, []}
use Rattle.command_line.proofs.live_command.Goals as goal

pub returns : goal.returns
returns c =
    let first = c.with_word-words.ensures (codes "live") (codes "explain") [] [] c.command.ensures c.flag-explain.ensures in
    let second = c.with_option-words.ensures (codes "live") (codes "frames") _ [] first c.live_frames_option.ensures in
    let third = c.with_word-words-2.ensures (codes "live") (codes "journal") _ [] second c.live_journal_option.ensures in
    c.with_option.ensures (codes "live") (codes "sync") _ [] third c.sync_option.ensures
