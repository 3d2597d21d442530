-- A conversation begins with no line told.
use Rattle.std.proofs.Common.{refl}
use Rattle.text_stream.specs.Told.{untold}
use Rattle.live_command.specs.Talk.{start_at}
use Rattle.live_command.proofs.Turning.{Talk-start, all_ok, all_err, on_ok, on_err-first, on_err-second}
use Rattle.live_command.proofs.talk.converse.Goals as goal

pub returns-clause-ok : goal.returns-clause-ok
returns-clause-ok g c =
    let unread = untold c.args.lines.now (g.R.Source.remaining c.args.reader.now) in
    let written = g.W.Sink.contents c.args.writer.now in
    let s = start_at c.args.wording c.args.scheduler.now unread written in
    all_ok _ _ _ c.talk_from.result (λ v stands. on_ok _ _ _ c.talk_from.result (c.talk_from.ensures.talk s v refl
    (Talk-start c.args.wording c.args.scheduler.now unread written
    (g.J.Journal.stands_for c.args.journal.now v s.config) c.requires.handed stands)))

pub returns-clause-stopped : goal.returns-clause-stopped
returns-clause-stopped g c =
    let unread = untold c.args.lines.now (g.R.Source.remaining c.args.reader.now) in
    let written = g.W.Sink.contents c.args.writer.now in
    let s = start_at c.args.wording c.args.scheduler.now unread written in
    all_err _ _ _ c.talk_from.result (λ v stands. on_err-first _ _ _ c.talk_from.result
    (c.talk_from.ensures.talk s v refl
    (Talk-start c.args.wording c.args.scheduler.now unread written
    (g.J.Journal.stands_for c.args.journal.now v s.config) c.requires.handed stands)))

pub returns-clause-stops : goal.returns-clause-stops
returns-clause-stops g c =
    let unread = untold c.args.lines.now (g.R.Source.remaining c.args.reader.now) in
    let written = g.W.Sink.contents c.args.writer.now in
    let s = start_at c.args.wording c.args.scheduler.now unread written in
    all_err _ _ _ c.talk_from.result (λ v stands. on_err-second _ _ _ c.talk_from.result
    (c.talk_from.ensures.talk s v refl
    (Talk-start c.args.wording c.args.scheduler.now unread written
    (g.J.Journal.stands_for c.args.journal.now v s.config) c.requires.handed stands)))
