-- The entry that is read is the one at the place.
use Rattle.std.proofs.Common.{◌≡◌, length, Some, refl, arith}
use Rattle.std.specs.List.{slice_get}
use Rattle.std.proofs.lemmas.Option.{slice_get_read}
use Rattle.mapsched_c.proofs.entry.put_entry.Goals as goal

pub returns-clause-status : goal.returns-clause-status
returns-clause-status c =
    let h = c.args.entries.now in
    let e = c.index-entries-place.result in
    let here : slice_get h c.args.place ≡ Some e =
    slice_get_read h (length h) c.args.place e refl
    (omega (arith, c.if-place-entries.false)) c.index-entries-place.is in
    rw here refl

pub returns-clause-entry : goal.returns-clause-entry
returns-clause-entry c =
    let h = c.args.entries.now in
    let e = c.index-entries-place.result in
    let here : slice_get h c.args.place ≡ Some e =
    slice_get_read h (length h) c.args.place e refl
    (omega (arith, c.if-place-entries.false)) c.index-entries-place.is in
    rw here c.put.ensures
