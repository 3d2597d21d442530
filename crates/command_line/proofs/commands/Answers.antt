-- The commands stand in their order.
use Rattle.std.proofs.Common.{codes, []}
use Rattle.command_line.proofs.commands.Goals as goal

pub returns : goal.returns
returns c =
    let run = c.with_command-words.ensures (codes "mapsched") (codes "run") [] _ [] [] c.program.ensures c.run_command.ensures in
    let decode = c.with_command-words-2.ensures (codes "mapsched") (codes "decode") [] _ _ [] run c.decode_command.ensures in
    let draw = c.with_command-words-3.ensures (codes "mapsched") (codes "draw") [] _ _ [] decode c.draw_command.ensures in
    let audit = c.with_command-words-4.ensures (codes "mapsched") (codes "audit") [] _ _ [] draw c.audit_command.ensures in
    let report = c.with_command-words-5.ensures (codes "mapsched") (codes "report") [] _ _ [] audit c.report_command.ensures in
    let storm = c.with_command-words-6.ensures (codes "mapsched") (codes "storm") [] _ _ [] report c.storm_command.ensures in
    let check = c.with_command-words-7.ensures (codes "mapsched") (codes "check") [] _ _ [] storm c.check_command.ensures in
    let pcap = c.with_command-words-8.ensures (codes "mapsched") (codes "pcap") [] _ _ [] check c.pcap_command.ensures in
    let live = c.with_command-words-9.ensures (codes "mapsched") (codes "live") [] _ _ [] pcap c.live_command.ensures in
    let bursts = c.with_command-words-10.ensures (codes "mapsched") (codes "bursts") [] _ _ [] live c.bursts_command.ensures in
    c.with_command.ensures (codes "mapsched") (codes "state") [] _ _ [] bursts c.state_command.ensures
