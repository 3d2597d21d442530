-- What is torn was cut off, and how it is resumed is told.
use Rattle.std.proofs.Common.{ap}
use Rattle.journal_file.specs.declared.journal.FileJournal.{FileJournal}
use Rattle.journal_file.proofs.Places.{resumed}
use Rattle.journal_file.proofs.Standing.{stands_whole}
use Rattle.journal_file.proofs.journal.FileJournal.resume.Goals as goal

pub returns-clause-ok : goal.returns-clause-ok
returns-clause-ok g c = λ v conf es may.
    let old = c.args.self.now in
    let contents = g.S.Store.contents in
    let told = g.N.Notes.told in
    let whole = resumed conf v.found (contents old.file.store) v.before (told old.notes) c.args.entries c.args.end
    c.args.torn es (rw c.requires at may.1) in
    stands_whole contents g.S.Store.reached told old.file c.cut.new.self c.tell.new.self v conf es
    c.in_ok-cut.ensures.ok (ap (λ (j : FileJournal g.row.S.Denot g.row.N.Denot). j.file) c.tell.ensures.frame) may.0
    (rw (c.in_ok-cut.ensures.cuts, c.tell.ensures.told) whole)
