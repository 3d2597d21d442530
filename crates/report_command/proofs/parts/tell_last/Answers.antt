-- The part that goes on is told of last.
use Rattle.std.proofs.Common.{◌∙◌, sym}
use Rattle.std.proofs.lemmas.Result.{on_ok_weaker}
use Rattle.report_command.proofs.Growing.{all-told}
use Rattle.report_command.specs.Parts.{IsPartSaid}
use Rattle.report_command.specs.Series.{first_ms}
use Rattle.report_command.proofs.parts.tell_last.Goals as goal

pub returns-clause-ok : goal.returns-clause-ok
returns-clause-ok g c =
    let s = c.args.series.now in
    let from = g.W.Sink.contents c.args.writer.now in
    let to = g.W.Sink.contents c.put_part.new.writer in
    on_ok_weaker c.put_part.result
    (λ (part : IsPartSaid c.args.form s.told (first_ms s.every s.end) from to). record {
      last = _;
      written = part.written;
      tells = λ text t. all-told c.args.form s text (sym c.is_between.ensures ∙ c.if-is_between.false) part.report
          part.says t;
    }) c.put_part.ensures.ok
