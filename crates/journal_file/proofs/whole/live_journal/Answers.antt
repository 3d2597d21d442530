-- A conversation is held in a file without a line, or continues behind the journal that was found.
use Rattle.std.proofs.Common.{◌≡◌, refl, ap, ◌∙◌, inl, inr}
use Rattle.std.proofs.lemmas.Result.{err_from_is_err_and}
use Rattle.text_stream.specs.Told.{AtHand, untold}
use Rattle.journal_file.specs.Journal.{view_of, store_of}
use Rattle.journal_file.proofs.Held.{none_at_hand, went_on, is_none, resumed_at, may_none, may_resumed}
use Rattle.journal_file.proofs.Held.{refuses_none, refuses_resumed, ends_map, going_map}
use Rattle.journal_file.proofs.whole.live_journal.Goals as goal

pub returns-in_ok-hold-in-None-clause-ok : goal.returns-in_ok-hold-in-None-clause-ok
returns-in_ok-hold-in-None-clause-ok g c = λ medium.
    let contents = g.S.Store.contents in
    let old = c.args.journal.now in
    let found = rw c.in-None.is at c.in_ok-read.ensures.found in
    let v = view_of contents g.S.Store.reached g.N.Notes.told old medium in
    inl (
      is_none (contents (store_of old)) _ found,
      c.in_ok-hold-in-None.ensures.ok v (λ conf. may_none contents g.S.Store.reached g.N.Notes.told old
          c.read.new.self c.in_ok-read.ensures.same c.in_ok-read.ensures.asked medium conf found),
    )

pub returns-in_err-hold-in-None-clause-ends : goal.returns-in_err-hold-in-None-clause-ends
returns-in_err-hold-in-None-clause-ends g c =
    let exit = c.from_residual-in_err-hold-in-None in
    let p = err_from_is_err_and exit.result exit.ensures.1 in
    let contents = g.S.Store.contents in
    let reached = g.S.Store.reached in
    let told = g.N.Notes.told in
    let old = c.args.journal.now in
    let same = c.in_ok-read.ensures.same in
    let asked = c.in_ok-read.ensures.asked in
    let found = rw c.in-None.is at c.in_ok-read.ensures.found in
    rw (p.1, p.2) (λ medium.
    inl (
      is_none (contents (store_of old)) _ found,
      ends_map c.args.wording _ _ _ _ _ _ _ _ _ _ _ c.in_err-hold-in-None.field-0.0
          (λ conf why. refuses_none contents reached told old c.read.new.self same asked conf why found)
          (λ none. (none.0, (ap store_of none.1 ∙ same.0, ap (λ j. j.notes) none.1 ∙ same.1)))
          (c.in_err-hold-in-None.ensures.ends (view_of contents reached told old medium)
          (λ conf. may_none contents reached told old c.read.new.self same asked medium conf found)),
    ))

pub returns-in_ok-go_on-in-Some-clause-ok : goal.returns-in_ok-go_on-in-Some-clause-ok
returns-in_ok-go_on-in-Some-clause-ok g c = λ medium.
    let contents = g.S.Store.contents in
    let reached = g.S.Store.reached in
    let told = g.N.Notes.told in
    let old = c.args.journal.now in
    let m = c.in-Some.scheduler in
    let same = c.in_ok-read.ensures.same in
    let asked = c.in_ok-read.ensures.asked in
    let at = resumed_at (contents (store_of old)) m _ (rw c.in-Some.is at c.in_ok-read.ensures.found) in
    let v = view_of contents reached told old medium in
    let unread = g.R.Source.remaining c.args.reader.now in
    let none : untold c.in-Ok.lines unread ≡ unread =
    ap (λ (h : AtHand). untold h unread) c.in-Ok.ensures ∙ none_at_hand unread in
    let went = c.in_ok-go_on-in-Some.ensures.ok v
    (may_resumed contents reached told old c.read.new.self same asked medium m at) in
    inr (record {
      resumed = m;
      end = at.end;
      torn = at.torn;
      continues = at.continues;
      scheduler = c.go_on.new.scheduler;
      then = went_on c.args.wording m c.go_on.new.scheduler unread _ _ c.go_on.new.lines.bytes _ _ (rw none at went);
    })

pub returns-in_err-go_on-in-Some-clause-ends : goal.returns-in_err-go_on-in-Some-clause-ends
returns-in_err-go_on-in-Some-clause-ends g c =
    let exit = c.from_residual-in_err-go_on-in-Some in
    let p = err_from_is_err_and exit.result exit.ensures.1 in
    let contents = g.S.Store.contents in
    let reached = g.S.Store.reached in
    let told = g.N.Notes.told in
    let old = c.args.journal.now in
    let m = c.in-Some.scheduler in
    let same = c.in_ok-read.ensures.same in
    let asked = c.in_ok-read.ensures.asked in
    let at = resumed_at (contents (store_of old)) m _ (rw c.in-Some.is at c.in_ok-read.ensures.found) in
    let unread = g.R.Source.remaining c.args.reader.now in
    let none : untold c.in-Ok.lines unread ≡ unread =
    ap (λ (h : AtHand). untold h unread) c.in-Ok.ensures ∙ none_at_hand unread in
    rw (p.1, p.2) (λ medium.
    inr (record {
      resumed = m;
      end = at.end;
      torn = at.torn;
      continues = at.continues;
      scheduler = c.go_on.new.scheduler;
      then = going_map c.args.wording m c.go_on.new.scheduler unread _ _ _ _ _ _ _ _ _ _ _
          c.in_err-go_on-in-Some.field-0.0
          (λ why. refuses_resumed contents reached told old c.read.new.self same asked m.config why m at)
          (λ still. (still.1, (ap store_of still.2 ∙ same.0, ap (λ j. j.notes) still.2 ∙ same.1)))
          (λ still. still.1)
          (rw none at (c.in_err-go_on-in-Some.ensures.ends (view_of contents reached told old medium)
          (may_resumed contents reached told old c.read.new.self same asked medium m at)));
    }))

pub returns-in_default-clause-ends : goal.returns-in_default-clause-ends
returns-in_default-clause-ends g c = λ medium.
    let contents = g.S.Store.contents in
    let old = c.args.journal.now in
    let m = c.in-Some.scheduler in
    let same = c.in_ok-read.ensures.same in
    let at = resumed_at (contents (store_of old)) m _ (rw c.in-Some.is at c.in_ok-read.ensures.found) in
    inr (record {
      resumed = m;
      end = at.end;
      torn = at.torn;
      continues = at.continues;
      scheduler = m;
      then = inl (tt, (refl, (same.0, same.1)));
    })
