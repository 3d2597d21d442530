-- The life at the place of the SID that the entry names has it, and it does nothing to the others.
use Rattle.std.proofs.Common.{◌≡◌, ◌<◌, length, get_or, set, refl, inl, inr, sym, ap, ◌∙◌, subst, arith}
use Rattle.std.proofs.lemmas.Bool.{cases_eq}
use Rattle.std.proofs.lemmas.List.{get_or-set_same, get_or-set_other, get_or_default, length-set}
use Rattle.sched_report.specs.declared.life.LifeTally.{LifeTally}
use Rattle.sched_report.specs.Lives.{PastLife, with_entry}
use Rattle.sched_report.specs.Told.{IsLifeOf, MayNote}
use Rattle.sched_report.proofs.LifeNotes.{none_of}
use Rattle.sched_report.proofs.LivesEach.{no_life}
use Rattle.sched_report.proofs.LivesGoing.{AreLives-map}
use Rattle.sched_report.proofs.Naming.{goes_on-silent, goes_on-apart}
use Rattle.sched_report.proofs.lives.note_named.Goals as goal

-- where it names none
pub returns-in_default-clause-lives : goal.returns-in_default-clause-lives
returns-in_default-clause-lives c = λ ls are may.
    let k = c.args.config.now in
    AreLives-map k c.args.lives.now c.args.lives.now ls c.args.entry.now
    (λ (life : PastLife). MayNote k life c.args.next c.args.entry.now) are may refl
    (λ i t life below is may. goes_on-silent k (get_or c.args.lives.now i t) life c.args.next c.args.entry.now
    (sym c.named_by.ensures ∙ none_of _ c.in_default.not-Some) c.requires.unbuilt is may)

pub note-requires-clause-may : goal.note-requires-clause-may
note-requires-clause-may c =
    let m = c.requires.may in
    let p = c.place_under-place.result in
    let inside : p < length c.args.lives.now = omega (arith, c.if-place-lives.true) in (
      get_or m.0 p no_life,
      m.1.each p c.index-lives-place.result no_life inside,
      m.2 p no_life (omega (arith, inside, m.1.long)),
    )

pub returns-then-place-lives-clause-lives : goal.returns-then-place-lives-clause-lives
returns-then-place-lives-clause-lives c = λ ls are may.
    let k = c.args.config.now in
    let ts = c.args.lives.now in
    let e = c.args.entry.now in
    let p = c.place_under-place.result in
    let new = c.note.new.self in
    let inside : p < length ts = omega (arith, c.if-place-lives.true) in
    AreLives-map k ts (set ts p new) ls e (λ (life : PastLife). MayNote k life c.args.next e) are may
    (length-set ts p new) (λ i t life below is may_note.
    elim (cases_eq i p) [
      | inl at ↦
          let here : get_or (set ts p new) i t ≡ new =
          ap (λ i. get_or (set ts p new) i t) at ∙ get_or-set_same ts p new t inside in
          let same : get_or ts i t ≡ get_or ts p c.index-lives-place.result =
          ap (λ i. get_or ts i t) at ∙ get_or_default ts p t c.index-lives-place.result inside in
          subst (λ (u : LifeTally). IsLifeOf k u (with_entry e life)) (sym here)
          (c.note.ensures.life life (subst (λ (u : LifeTally). IsLifeOf k u life) same is) may_note)
      | inr apart ↦
          subst (λ (u : LifeTally). IsLifeOf k u (with_entry e life)) (sym (get_or-set_other ts p i new t apart))
          (goes_on-apart c.args.places.now ts c.requires.live i t below k c.in-Some.sid life c.args.next e
          (sym c.named_by.ensures ∙ c.in-Some.is) c.requires.unbuilt
          (λ at. apart (at ∙ sym c.place_under-place.ensures)) is may_note)
    ])

pub returns-else-place-lives-clause-lives : goal.returns-else-place-lives-clause-lives
returns-else-place-lives-clause-lives c = λ ls are may.
    let k = c.args.config.now in
    let ts = c.args.lives.now in
    AreLives-map k ts ts ls c.args.entry.now (λ (life : PastLife). MayNote k life c.args.next c.args.entry.now) are may
    refl (λ i t life below is may_note.
    goes_on-apart c.args.places.now ts c.requires.live i t below k c.in-Some.sid life c.args.next c.args.entry.now
    (sym c.named_by.ensures ∙ c.in-Some.is) c.requires.unbuilt
    (λ at. omega (arith, at, below, c.place_under-place.ensures, c.if-place-lives.false)) is may_note)
