-- Before any entry nothing is told, and then all that comes.
use Rattle.std.proofs.Common.{◌≡◌, [], List, ℕ, Option, inr, sym, subst}
use Rattle.minislots.specs.declared.config.Config.{Config}
use Rattle.text_stream.specs.declared.fault.TextFault.{TextFault}
use Rattle.text_stream.specs.declared.fault.TextFault.TheVariants.{Output}
use Rattle.text_stream.specs.declared.run_fault.RunFault.TheVariants.{Text as Stopped}
use Rattle.journal_entries.specs.declared.unjudged.UnjudgedEntries.{UnjudgedEntries}
use Rattle.journal_entries.specs.Unjudged.{HasRead}
use Rattle.report_command.specs.declared.form.Form.{Form}
use Rattle.report_command.specs.JournalSeries.{IsToldSoFar, IsJournalTold}
use Rattle.report_command.specs.Series.{Serial, opened}
use Rattle.report_command.proofs.Growing.{opens, Appends-none}
use Rattle.report_command.proofs.journal_series.run_journal_series.Goals as goal

-- the first line was read, and nothing was told
starts : (form : Form) (every : ℕ) (unread left before : Option (List ℕ)) (c : Config) (entries : UnjudgedEntries)
    → (s : Serial) → s ≡ opened c every → HasRead unread left entries c []
    → IsToldSoFar form unread left entries s before before
starts form every unread left before c entries s is read =
    subst (λ (s : Serial). IsToldSoFar form unread left entries s before before) (sym is) (record {
      read = read;
      text = [];
      tells = opens form c every;
      written = Appends-none before;
    })

same-text : (t u : TextFault) → Stopped t ≡ Stopped u → t ≡ u
same-text t u is = cc

pub returns-in-Ok-tell_entries-clause-ok : goal.returns-in-Ok-tell_entries-clause-ok
returns-in-Ok-tell_entries-clause-ok g c =
    let unread = g.R.Source.remaining c.args.reader.now in
    let left = g.R.Source.remaining c.tell_entries.new.reader in
    let before = g.W.Sink.contents c.args.writer.now in
    let after = g.W.Sink.contents c.tell_entries.new.writer in
    let form = c.args.form in
    let it = c.in-Ok-Some.opened in
    let start = starts form c.args.every unread (g.R.Source.remaining c.open.new.reader) before it.0 it.1 c.in-Ok.series
    c.in-Ok.ensures (rw c.in-Ok-Some.field-0-is at c.in-Ok-Some.ensures).opened in
    let told = c.in-Ok-tell_entries.ensures.told unread before start in
    inr (
      it.0,
      subst (λ (s : Serial). IsJournalTold form s.every unread left s.told.config before after
          c.in-Ok-tell_entries.end) c.in-Ok.ensures told,
    )

pub returns-in-Ok-tell_entries-clause-failed_write : goal.returns-in-Ok-tell_entries-clause-failed_write
returns-in-Ok-tell_entries-clause-failed_write g c =
    let before = g.W.Sink.contents c.args.writer.now in
    let it = c.in-Ok-Some.opened in
    c.in-Ok-tell_entries.ensures.failed_write (g.R.Source.remaining c.args.reader.now) before
    (starts c.args.form c.args.every _ _ before it.0 it.1 c.in-Ok.series c.in-Ok.ensures
    (rw c.in-Ok-Some.field-0-is at c.in-Ok-Some.ensures).opened)

pub returns-in-Err-tell_entries-clause-stops : goal.returns-in-Err-tell_entries-clause-stops
returns-in-Err-tell_entries-clause-stops g c =
    let before = g.W.Sink.contents c.args.writer.now in
    let it = c.in-Ok-Some.opened in
    c.in-Err-tell_entries.ensures.stops (g.R.Source.remaining c.args.reader.now) before
    (starts c.args.form c.args.every _ _ before it.0 it.1 c.in-Ok.series c.in-Ok.ensures
    (rw c.in-Ok-Some.field-0-is at c.in-Ok-Some.ensures).opened)

pub returns-in-Err-tell_entries-clause-failed_write : goal.returns-in-Err-tell_entries-clause-failed_write
returns-in-Err-tell_entries-clause-failed_write g c = λ output.
    let before = g.W.Sink.contents c.args.writer.now in
    let it = c.in-Ok-Some.opened in
    c.in-Err-tell_entries.ensures.failed_write (g.R.Source.remaining c.args.reader.now) before
    (starts c.args.form c.args.every _ _ before it.0 it.1 c.in-Ok.series c.in-Ok.ensures
    (rw c.in-Ok-Some.field-0-is at c.in-Ok-Some.ensures).opened) (same-text c.in-Err-tell_entries.fault Output output)
