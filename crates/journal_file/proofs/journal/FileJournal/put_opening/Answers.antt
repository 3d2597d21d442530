-- The opening's line is there.
use Rattle.std.proofs.Common.{rules, ◌≡◌, refl}
use Rattle.history_writing.specs.Journal.{opening_line}
use Rattle.journal_file.proofs.Places.{begun}
use Rattle.journal_file.proofs.Standing.{stands_whole}
use Rattle.journal_file.proofs.journal.FileJournal.put_opening.Goals as goal

pub returns-clause-ok : goal.returns-clause-ok
returns-clause-ok g c = λ v es may.
    let old = c.args.self.now in
    let contents = g.S.Store.contents in
    let told = g.N.Notes.told in
    let conf = c.args.config.now in
    let line : c.deref.result.now ≡ opening_line conf = search rules in
    let whole = begun conf v.found (contents old.file.store) v.before (told old.notes) c.args.size c.deref.result.now
    c.in-Ok-lacking.rest.now es line c.in-Ok-lacking.ensures.rest (rw c.requires at may.1) in
    stands_whole contents g.S.Store.reached told old.file c.put.new.self _ v conf es c.in_ok-put.ensures.ok refl may.0
    (rw c.in_ok-put.ensures.bytes whole)
