-- What is found first is chosen; where nothing is found no placement is lawful.
use Rattle.std.proofs.Common.{◌<◌, arith}
use Rattle.minislots.proofs.Bounds.{bounds_of}
use Rattle.periodic.specs.Search.{starts_of}
use Rattle.periodic.proofs.Choosing.{none-lawful, found-chosen}
use Rattle.periodic.proofs.search.choose.Goals as goal

pub returns-in_default-clause-absent : goal.returns-in_default-clause-absent
returns-in_default-clause-absent c = λ placed sound are counted.
    let wanted = c.wanted_of-wanted.ensures in
    let frame : 0 < c.args.config.now.frame = omega (arith, (bounds_of _ wanted.lawful).frame_least) in
    none-lawful c.args.config.now placed c.args.rows.now c.args.counts.now.starts c.args.spec.now c.args.next
    c.wanted_of-wanted.result wanted.lawful sound are counted wanted.sought wanted.value frame c.in_default.ensures.absent

pub returns-clause-chosen : goal.returns-clause-chosen
returns-clause-chosen c = λ placed sound are counted.
    let wanted = c.wanted_of-wanted.ensures in
    let frame : 0 < c.args.config.now.frame = omega (arith, (bounds_of _ wanted.lawful).frame_least) in
    found-chosen c.args.config.now placed c.args.rows.now c.args.counts.now.starts c.args.spec.now c.args.next
    c.wanted_of-wanted.result wanted.lawful sound are counted wanted.sought wanted.value c.in-Some.found
    (starts_of c.first_found.new.row) c.first_nominal.result frame c.in-Some.ensures.found c.first_nominal.ensures
