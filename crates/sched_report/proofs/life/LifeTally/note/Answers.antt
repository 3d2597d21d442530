-- The life goes on with what the entry has of requests, of parameters and of ends.
use Rattle.std.proofs.Common.{◌≡◌, [], ◌∷◌, ◌++◌, true, false, Some, refl, sym, ap, ◌∙◌, subst, if◌then◌else◌}
use Rattle.std.specs.Option.{option_map_or}
use Rattle.sched_history.specs.Time.{next_after}
use Rattle.sched_report.specs.Lives.{PastLife, is_turn, new_spec, with_entry}
use Rattle.sched_report.specs.Told.{IsLifeOf}
use Rattle.sched_report.specs.Served.{IsServiceAfter, MayCount}
use Rattle.sched_report.proofs.LifeNotes.{not_ended, may_count, goes_on-noted}
use Rattle.sched_report.proofs.LifeTold.{no_end, some_end}
use Rattle.sched_report.proofs.LivesGoing.{with_entry-ended}
use Rattle.sched_report.proofs.life.LifeTally.note.Goals as goal

pub note_request-requires-clause-may : goal.note_request-requires-clause-may
note_request-requires-clause-may c =
    let k = c.args.config.now in
    let t = c.args.self.now in
    let life = c.requires.may.0 in
    let is = c.requires.may.1 in
    let may = c.requires.may.2 in
    let e = c.args.entry.now in
    let alive : life.ended ≡ false =
    not_ended life.ended (next_after k (life.upto ++ life.since)) t.to is.to
    (sym c.is_some.ensures ∙ c.if-is_some.false) in
    let stays : is_turn life.sid e ≡ false =
    ap (λ s. is_turn s e) (sym is.sid) ∙ sym c.is_turn.ensures ∙ c.if-is_turn.false in (
      life.passed,
      life.since,
      subst (λ s. IsServiceAfter k t.service s life.passed life.since) (sym is.sid) is.service,
      may.passed alive,
      subst (λ s. MayCount k s life.since e) (sym is.sid) (may_count k t life c.args.next e is may alive stays),
    )

pub note_request-requires-clause-room : goal.note_request-requires-clause-room
note_request-requires-clause-room c =
    c.requires.room (no_end c.args.self.now.to (sym c.is_some.ensures ∙ c.if-is_some.false))

pub returns-clause-life : goal.returns-clause-life
returns-clause-life c = λ life is may.
    let k = c.args.config.now in
    let t = c.args.self.now in
    let e = c.args.entry.now in
    let alive : life.ended ≡ false =
    not_ended life.ended (next_after k (life.upto ++ life.since)) t.to is.to
    (sym c.is_some.ensures ∙ c.if-is_some.false) in
    let stays : is_turn life.sid e ≡ false =
    ap (λ s. is_turn s e) (sym is.sid) ∙ sym c.is_turn.ensures ∙ c.if-is_turn.false in
    goes_on-noted k t life c.args.next e is may alive stays c.requires.unbuilt _ refl
    (c.spec_with-self.ensures
    ∙ ap (λ s. option_map_or (λ given. given) (new_spec s e.call e.reply) t.spec) is.sid) refl refl refl
    (subst (λ s. IsServiceAfter k c.note_request.new.service s life.passed (life.since ++ e ∷ [])) is.sid
    (c.note_request.ensures life.passed life.since
    (subst (λ s. IsServiceAfter k t.service s life.passed life.since) (sym is.sid) is.service) (may.passed alive)))

pub returns-then-is_some-clause-life : goal.returns-then-is_some-clause-life
returns-then-is_some-clause-life c = λ life is may.
    let k = c.args.config.now in
    let t = c.args.self.now in
    let ended : life.ended ≡ true =
    sym (some_end life.ended (next_after k (life.upto ++ life.since)) t.to is.to)
    ∙ sym c.is_some.ensures ∙ c.if-is_some.true in
    subst (IsLifeOf k t) (sym (with_entry-ended c.args.entry.now life ended)) is

pub returns-then-is_turn-clause-life : goal.returns-then-is_turn-clause-life
returns-then-is_turn-clause-life c = λ life is may.
    let k = c.args.config.now in
    let t = c.args.self.now in
    let e = c.args.entry.now in
    let alive : life.ended ≡ false =
    not_ended life.ended (next_after k (life.upto ++ life.since)) t.to is.to
    (sym c.is_some.ensures ∙ c.if-is_some.false) in
    let turn : is_turn life.sid e ≡ true =
    ap (λ s. is_turn s e) (sym is.sid) ∙ sym c.is_turn.ensures ∙ c.if-is_turn.true in
    let more : PastLife = record life { since = life.since ++ e ∷ [] } in
    let ends : with_entry e life ≡ record life { ended = true } =
    ap (λ b. if b then life else if is_turn life.sid e then record life { ended = true } else more) alive
    ∙ ap (λ b. if b then record life { ended = true } else more) turn in
    subst (IsLifeOf k (record t { to = Some c.args.next })) (sym ends) (record {
      sid = is.sid;
      spec = is.spec;
      from = is.from;
      to = ap Some (may.next alive);
      service = is.service;
      before = is.before;
      carried = is.carried;
      told = is.told;
      few = is.few;
      unsolicited = is.unsolicited;
      bounded = is.bounded;
    })
