-- Each life goes on, and one may begin.
use Rattle.std.proofs.Common.{List, map, sym, ◌∙◌, subst, arith}
use Rattle.std.proofs.lemmas.List.{with_items_is}
use Rattle.sched_history.proofs.steps.LegalBounds.{next_after-most}
use Rattle.sched_report.specs.declared.life.LifeTally.{LifeTally}
use Rattle.sched_report.specs.Live.{AreLive, IsAlone}
use Rattle.sched_report.specs.Lives.{PastLife, lives_in, with_entry}
use Rattle.sched_report.specs.ToldLives.{AreLives, MayNoteEach, MeetsEach}
use Rattle.sched_report.proofs.LivesEach.{may_note_each, meets_each}
use Rattle.sched_report.proofs.LivesGoing.{alone-after}
use Rattle.sched_report.proofs.MayNotes.{orderly_map}
use Rattle.sched_report.proofs.PastLives.{lives_in-push}
use Rattle.sched_report.proofs.lives.follow.Goals as goal

pub note_each-requires-clause-may : goal.note_each-requires-clause-may
note_each-requires-clause-may c =
    let k = c.args.config.now in
    let p = c.requires.may.0 in
    let h = c.requires.may.1 in
    let m = c.requires.may.2 in
    let e = c.args.entry.now in (
      lives_in p h,
      subst (λ (ts : List LifeTally). AreLives k ts (lives_in p h)) (sym c.deref_mut.ensures.value) m.lives,
      subst (λ s. MayNoteEach k (lives_in p h) s e) (sym m.next) (may_note_each k p h m.legal m.passed_few m.lawful e m.step m.short),
    )

pub next_with-after-requires : goal.next_with-after-requires
next_with-after-requires c =
    let m = c.requires.may.2 in
    omega (arith, m.next, next_after-most c.args.config.now m.lawful c.requires.may.1 m.legal)

pub returns-clause-lives : goal.returns-clause-lives
returns-clause-lives c = λ p h m.
    let k = c.args.config.now in
    let e = c.args.entry.now in
    let more : List PastLife = map (with_entry e) (lives_in p h) in
    let old : AreLives k c.deref_mut.result.now (lives_in p h) =
    subst (λ (ts : List LifeTally). AreLives k ts (lives_in p h)) (sym c.deref_mut.ensures.value) m.lives in
    let may : MayNoteEach k (lives_in p h) c.args.next e =
    subst (λ s. MayNoteEach k (lives_in p h) s e) (sym m.next)
    (may_note_each k p h m.legal m.passed_few m.lawful e m.step m.short) in
    let meets : MeetsEach k (lives_in p h) e c.args.met.now = meets_each k p h m.legal m.passed_few e c.args.met.now m.meets in
    let noted : AreLives k c.note_each.new.lives more = c.note_each.ensures.lives (lives_in p h) old may meets in
    subst (AreLives k c.begin_life.new.lives.items) (sym (lives_in-push p h e m.passed_few))
    (c.begin_life.ensures.lives k h more (c.next_with-after.ensures h m.next)
    (subst (λ (ts : List LifeTally). AreLives k ts more)
    (sym (with_items_is c.args.lives.now c.note_each.new.lives
    (c.note_each.auto.lives ∙ c.deref_mut.ensures.len))) noted))

pub note_each-requires-clause-live : goal.note_each-requires-clause-live
note_each-requires-clause-live c =
    subst (λ (ts : List LifeTally). AreLive c.args.places.now ts) (sym c.deref_mut.ensures.value) c.requires.live

pub note_each-requires-clause-orderly : goal.note_each-requires-clause-orderly
note_each-requires-clause-orderly c =
    let m = c.requires.may.2 in
    orderly_map c.args.config.now m.lawful c.requires.may.1 m.legal c.args.entry.now m.step m.short

pub begin_life-requires-clause-alone : goal.begin_life-requires-clause-alone
begin_life-requires-clause-alone c =
    let k = c.args.config.now in
    let p = c.requires.may.0 in
    let h = c.requires.may.1 in
    let m = c.requires.may.2 in
    let e = c.args.entry.now in
    let old : AreLives k c.deref_mut.result.now (lives_in p h) =
    subst (λ (ts : List LifeTally). AreLives k ts (lives_in p h)) (sym c.deref_mut.ensures.value) m.lives in
    let may : MayNoteEach k (lives_in p h) c.args.next e =
    subst (λ s. MayNoteEach k (lives_in p h) s e) (sym m.next) (may_note_each k p h m.legal m.passed_few m.lawful e m.step m.short) in
    let meets : MeetsEach k (lives_in p h) e c.args.met.now = meets_each k p h m.legal m.passed_few e c.args.met.now m.meets in
    subst (IsAlone e.call e.reply)
    (sym (with_items_is c.args.lives.now c.note_each.new.lives (c.note_each.auto.lives ∙ c.deref_mut.ensures.len)))
    (alone-after k c.note_each.new.lives (lives_in p h) e (c.note_each.ensures.lives (lives_in p h) old may meets))

pub begin_life-requires-clause-live : goal.begin_life-requires-clause-live
begin_life-requires-clause-live c =
    subst (AreLive c.args.places.now)
    (sym (with_items_is c.args.lives.now c.note_each.new.lives (c.note_each.auto.lives ∙ c.deref_mut.ensures.len)))
    c.note_each.ensures.live
