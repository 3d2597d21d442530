-- So many turns were taken, and no call has failed.
use Rattle.std.proofs.Common.{◌≡◌}
use Rattle.text_stream.specs.Told.{untold}
use Rattle.live_command.specs.Talk.{Start, Talk}
use Rattle.live_command.proofs.talk.talk_on.Given as goal

abbrev pub invariant-loop : goal.invariant-loop
invariant-loop g l = record {
  talk : (s : Start) (v : g.J.Journal.View) → s.wording ≡ l.wording → Talk s 0 l.fn.scheduler
      (untold l.fn.lines (g.R.Source.remaining l.fn.reader)) (g.W.Sink.contents l.fn.writer)
      (g.J.Journal.stands_for l.fn.journal v s.config) l.fn.outbox → Talk s l.counter l.scheduler
      (untold l.lines (g.R.Source.remaining l.reader)) (g.W.Sink.contents l.writer)
      (g.J.Journal.stands_for l.journal v s.config) l.outbox;
  begun : g.J.Journal.is_begun l.journal;
  read : g.R.Source.has_failed l.reader ≡ g.R.Source.has_failed l.fn.reader;
  written : g.W.Sink.has_failed l.writer ≡ g.W.Sink.has_failed l.fn.writer;
  noted : g.J.Journal.has_failed l.journal ≡ g.J.Journal.has_failed l.fn.journal;
}
