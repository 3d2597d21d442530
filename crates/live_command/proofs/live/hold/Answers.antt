-- The opening is read, and then the conversation is held.
use Rattle.std.proofs.Common.{◌≡◌, ℕ, List, [], Option, Ok, refl, ap, subst, ◌∙◌, inl, inr}
use Rattle.std.proofs.lemmas.Result.{err_from_is_err_and}
use Rattle.sched_history.specs.Machine.{Machine}
use Rattle.text_stream.specs.Told.{AtHand, untold}
use Rattle.live_command.specs.Held.{start_new}
use Rattle.live_command.specs.Opening.{Opens, StopsOpening}
use Rattle.live_command.proofs.Turning.{Talk-start, all_ok, all_err}
use Rattle.live_command.proofs.Holding.{none_at_hand, ends_early, ends_well}
use Rattle.live_command.proofs.live.hold.Goals as goal

pub returns-in_err-config-clause-ends : goal.returns-in_err-config-clause-ends
returns-in_err-config-clause-ends g c =
    let p = err_from_is_err_and c.from_residual-in_err-config.result c.from_residual-in_err-config.ensures.1 in
    let unread = g.R.Source.remaining c.args.reader.now in
    let left = g.R.Source.remaining c.read_opening.new.reader in
    let fault = c.in_err-config.field-0.0 in
    let same : untold c.in_ok-lines.lines unread ≡ unread =
    ap (λ (h : AtHand). untold h unread) c.in_ok-lines.ensures ∙ none_at_hand unread in
    let stops = subst (λ (u : Option (List ℕ)). StopsOpening u left fault) same c.in_err-config.ensures.stops in
    rw (p.1, p.2) (λ v may. inl (fault, refl, stops, (refl, refl)))

pub returns-in_err-begin-clause-ends : goal.returns-in_err-begin-clause-ends
returns-in_err-begin-clause-ends g c =
    let exit = c.from_residual-in_err-begin in
    let p = err_from_is_err_and exit.result exit.ensures.1 in
    let unread = g.R.Source.remaining c.args.reader.now in
    let behind = untold c.read_opening.new.lines (g.R.Source.remaining c.read_opening.new.reader) in
    let config = c.in_ok-config.config in
    let same : untold c.in_ok-lines.lines unread ≡ unread =
    ap (λ (h : AtHand). untold h unread) c.in_ok-lines.ensures ∙ none_at_hand unread in
    let opened = subst (λ (u : Option (List ℕ)). Opens u behind (Ok config)) same c.in_ok-config.ensures.ok in
    rw (p.1, p.2) (λ v may. inr (inl (record {
      config = config;
      behind = behind;
      opened = opened;
      unbegun = record {
        why = c.in_err-begin.ensures.why.0;
        refused = c.in_err-begin.ensures.why.1;
        is = c.in_err-begin.ensures.why.2;
        unwritten = refl;
        begins = c.in_err-begin.ensures.err v [] (may config);
      };
    })))

pub returns-clause-ok : goal.returns-clause-ok
returns-clause-ok g c =
    let unread = g.R.Source.remaining c.args.reader.now in
    let behind = untold c.read_opening.new.lines (g.R.Source.remaining c.read_opening.new.reader) in
    let config = c.in_ok-config.config in
    let same : untold c.in_ok-lines.lines unread ≡ unread =
    ap (λ (h : AtHand). untold h unread) c.in_ok-lines.ensures ∙ none_at_hand unread in
    let opened = subst (λ (u : Option (List ℕ)). Opens u behind (Ok config)) same c.in_ok-config.ensures.ok in
    let m : Machine = record { config = config; history = []; handed = 0 } in
    let s = start_new config c.args.wording behind (g.W.Sink.contents c.args.writer.now) in
    let talks = rw c.in_ok-scheduler.ensures at c.talk_from.ensures.talk in
    all_ok _ _ _ c.talk_from.result (λ v may. ends_well c.args.wording config unread behind _ _ _
    (g.J.Journal.stands_for c.talk_from.new.journal v) c.talk_from.new.scheduler opened c.talk_from.new.lines.bytes
    c.talk_from.result (talks s v refl (Talk-start
    c.args.wording m behind (g.W.Sink.contents c.args.writer.now) (g.J.Journal.stands_for c.begin.new.journal v config)
    refl (c.in_ok-begin.ensures.ok v [] (may config)))))

pub returns-clause-ends : goal.returns-clause-ends
returns-clause-ends g c =
    let unread = g.R.Source.remaining c.args.reader.now in
    let behind = untold c.read_opening.new.lines (g.R.Source.remaining c.read_opening.new.reader) in
    let config = c.in_ok-config.config in
    let same : untold c.in_ok-lines.lines unread ≡ unread =
    ap (λ (h : AtHand). untold h unread) c.in_ok-lines.ensures ∙ none_at_hand unread in
    let opened = subst (λ (u : Option (List ℕ)). Opens u behind (Ok config)) same c.in_ok-config.ensures.ok in
    let m : Machine = record { config = config; history = []; handed = 0 } in
    let s = start_new config c.args.wording behind (g.W.Sink.contents c.args.writer.now) in
    let talks = rw c.in_ok-scheduler.ensures at c.talk_from.ensures.talk in
    all_err _ _ _ c.talk_from.result (λ v may. ends_early c.args.wording config unread behind _ _ _
    (g.J.Journal.stands_for c.talk_from.new.journal v) c.talk_from.new.scheduler opened c.talk_from.new.lines.bytes _
    (g.J.Journal.may_begin c.talk_from.new.journal v) _ _ c.talk_from.result (talks s v refl (Talk-start
    c.args.wording m behind (g.W.Sink.contents c.args.writer.now) (g.J.Journal.stands_for c.begin.new.journal v config)
    refl (c.in_ok-begin.ensures.ok v [] (may config)))))
