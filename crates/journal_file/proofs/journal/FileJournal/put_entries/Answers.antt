-- The lines are there, or the first ones and a part of one more.
use Rattle.std.proofs.Common.{rules, ◌≡◌, flat_map, refl}
use Rattle.history_writing.specs.Journal.{entry_line}
use Rattle.journal_file.proofs.Known.{on_err}
use Rattle.journal_file.proofs.Standing.{grown_ok, grown_err}
use Rattle.journal_file.proofs.journal.FileJournal.put_entries.Goals as goal

pub returns-in_err-put-clause-err : goal.returns-in_err-put-clause-err
returns-in_err-put-clause-err g c =
    let lines : c.deref.result.now ≡ flat_map entry_line c.args.entries.now = search rules in
    on_err c.from_residual.result (grown_err g.S.Store.contents g.S.Store.reached g.N.Notes.told g.S.Store.has_failed
    c.args.self.now _ c.deref.result.now c.args.entries.now c.requires.ready c.in_err-put.ensures.err refl lines
    c.in_err-put.ensures.bytes c.in_err-put.ensures.kept)

pub returns-clause-ok : goal.returns-clause-ok
returns-clause-ok g c =
    let lines : c.deref.result.now ≡ flat_map entry_line c.args.entries.now = search rules in
    grown_ok g.S.Store.contents g.S.Store.reached g.N.Notes.told c.args.self.now _ c.deref.result.now c.args.entries.now
    c.requires.ready c.in_ok-put.ensures.ok refl lines c.in_ok-put.ensures.bytes
