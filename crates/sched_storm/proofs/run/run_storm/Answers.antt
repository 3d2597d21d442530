-- The lines of the tally were written.
use Rattle.std.proofs.Common.{◌≡◌, ◌∙◌, sym, subst, length}
use Rattle.std.proofs.lemmas.List.{length-map}
use Rattle.std.specs.Io.KnownBytes.{Appends}
use Rattle.sched_storm.specs.Jobs.{calls_each}
use Rattle.sched_storm.specs.StormLines.{tally_text}
use Rattle.sched_storm.proofs.run.run_storm.Goals as goal

pub returns-clause-ok : goal.returns-clause-ok
returns-clause-ok g c =
    let scripts = c.in_ok-config.scripts in
    let contents = g.W.Sink.contents in
    let workers : c.len-workers.result ≡ length (calls_each scripts.items)
    = c.len-workers.ensures ∙ scripts.ok.0 ∙ sym (length-map scripts.items (λ v. v.items)) in
    record {
      storm = record { config = c.in_ok-config.config; scripts = calls_each scripts.items };
      read = c.in_ok-config.ensures.ok;
      tally = c.in-Ok.tally;
      tally_is = c.in-Ok.ensures.gated;
      written = subst
          (λ n. Appends (contents c.args.writer.now) (contents c.put_tally.new.writer) (tally_text n c.in-Ok.tally))
          workers c.in_ok-put_tally.ensures.0;
      free_is = c.went_well.ensures;
    }
