-- What stands in front is read, the journal begins, and the conversation goes on.
use Rattle.std.proofs.Common.{refl, inl, inr}
use Rattle.std.proofs.lemmas.Result.{err_from_is_err_and}
use Rattle.live_command.specs.Talk.{start_at}
use Rattle.live_command.proofs.GoingOn.{front_goes, front_begins, goes_well, goes_early}
use Rattle.live_command.proofs.Turning.{all_ok, all_err}
use Rattle.live_command.proofs.going.go_on.Goals as goal

pub returns-in_err-told-clause-ends : goal.returns-in_err-told-clause-ends
returns-in_err-told-clause-ends g c =
    let p = err_from_is_err_and c.from_residual.result c.from_residual.ensures.1 in
    let stops = rw c.config.ensures at c.in_err-told.ensures.stops in
    rw (p.1, p.2) (λ v may. inl (stops, (refl, refl, refl)))

pub returns-in_err-begin-clause-ends : goal.returns-in_err-begin-clause-ends
returns-in_err-begin-clause-ends g c =
    let exit = c.from_residual-in_err-begin in
    let p = err_from_is_err_and exit.result exit.ensures.1 in
    let m = c.args.scheduler.now in
    let reads = rw c.config.ensures at c.in_ok-told.ensures.ok in
    let goes = front_goes c.args.wording m _ _ _ c.in_ok-told.told reads in
    rw (p.1, p.2) (λ v may. inr (inl (record {
      behind = goes.0;
      goes = goes.1;
      unbegun = record {
        why = c.in_err-begin.ensures.why.0;
        refused = rw c.config.ensures at c.in_err-begin.ensures.why.1;
        is = c.in_err-begin.ensures.why.2;
        unwritten = (refl, refl);
        begins = (rw c.config.ensures at (c.in_err-begin.ensures.err v)) m.history may;
      };
    })))

pub returns-clause-ok : goal.returns-clause-ok
returns-clause-ok g c =
    let m = c.args.scheduler.now in
    let written = g.W.Sink.contents c.args.writer.now in
    let reads = rw c.config.ensures at c.in_ok-told.ensures.ok in
    let goes = front_goes c.args.wording m _ _ _ c.in_ok-told.told reads in
    let s = start_at c.args.wording m goes.0 written in
    all_ok _ _ _ c.talk_from.result (λ v may. goes_well c.args.wording m c.talk_from.new.scheduler _ goes.0 written _ _
    goes.1 _ _ c.talk_from.result (c.talk_from.ensures.talk s v refl
    (front_begins c.args.wording m _ _ _ written (g.J.Journal.stands_for c.begin.new.journal v m.config)
    c.in_ok-told.told c.requires.handed ((rw c.config.ensures at (c.in_ok-begin.ensures.ok v)) m.history may) reads)))

pub returns-clause-ends : goal.returns-clause-ends
returns-clause-ends g c =
    let m = c.args.scheduler.now in
    let written = g.W.Sink.contents c.args.writer.now in
    let reads = rw c.config.ensures at c.in_ok-told.ensures.ok in
    let goes = front_goes c.args.wording m _ _ _ c.in_ok-told.told reads in
    let s = start_at c.args.wording m goes.0 written in
    all_err _ _ _ c.talk_from.result (λ v may.
    goes_early c.args.wording m c.talk_from.new.scheduler _ goes.0 written _ _
    goes.1 _ _ _ _ _ _ c.talk_from.result (c.talk_from.ensures.talk s v refl
    (front_begins c.args.wording m _ _ _ written (g.J.Journal.stands_for c.begin.new.journal v m.config)
    c.in_ok-told.told c.requires.handed ((rw c.config.ensures at (c.in_ok-begin.ensures.ok v)) m.history may) reads)))
