-- The scripts of the document are not none and not too many.
use Rattle.std.proofs.Common.{◌≤◌, ◌<◌, length, arith}
use Rattle.script_reading.proofs.Documents.{storm_in_document}
use Rattle.script_reading.proofs.script.storms.usual_storm.Goals as goal

pub returns-clause-is : goal.returns-clause-is
returns-clause-is c =
    let found = c.in_ok-config.ensures in
    let scripts = c.in_ok-config.scripts in
    let len = scripts.ok.0 in
    let count = c.len-count.ensures in
    let none = c.if-count-eq0.false in
    let many = c.if-count-gt-MAX_SCRIPTS.false in
    let some : 0 < length scripts.items = omega (arith, len, count, none) in
    let few : length scripts.items ≤ 16 = omega (arith, len, count, many) in
    storm_in_document c.args.bytes.now found.0 c.in_ok-config.config found.1 scripts found.2 some few
