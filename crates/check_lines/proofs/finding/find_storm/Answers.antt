-- What is found is the fault of the text, or nothing where it is whole.
use Rattle.script_reading.proofs.Told.{storm-has, storm-told}
use Rattle.check_lines.proofs.FaultFound.{fault-found, none-found, only-memory}
use Rattle.check_lines.proofs.finding.find_storm.Goals as goal

pub returns-in-Ok-clause-ok : goal.returns-in-Ok-clause-ok
returns-in-Ok-clause-ok c = none-found _ _ (storm-has c.args.bytes.now _ _ c.in-Ok.ensures.ok)

pub returns-in-Err-clause-ok : goal.returns-in-Err-clause-ok
returns-in-Err-clause-ok c =
    let told = storm-told c.args.bytes.now _ c.in-Err.fault c.in-Err.ensures.stops in
    fault-found c.in-Err.fault _ c.found.result told c.found.ensures.ok c.found.ensures.input c.found.ensures.memory

pub returns-in-Err-clause-err : goal.returns-in-Err-clause-err
returns-in-Err-clause-err c =
    only-memory c.in-Err.fault c.found.result c.found.ensures.err c.in-Err.ensures.failed
