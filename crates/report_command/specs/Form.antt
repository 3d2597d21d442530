-- What a report says in each of its forms.
use Rattle.std.specs.Prelude.{ℕ, true, false, List, Option}
use Rattle.std.specs.Io.KnownBytes.{Appends}
use Rattle.sched_report.specs.Window.{Window}
use Rattle.report_writing.specs.Report.{IsReportText}
use Rattle.report_writing.specs.Text.{IsReportTables}
use Rattle.report_writing.specs.Metrics.{IsReportMetrics}
use Rattle.report_picture.specs.Picture.{IsReportPicture}
use Rattle.report_command.specs.declared.form.Form.{Form}
use Rattle.report_command.specs.declared.form.Form.TheVariants.{Json, All, Few, Metrics, Picture}

-- a text is the report in this form on what is told of a history
abbrev pub Says : Form → Window → List ℕ → Type 0
Says Json w text = IsReportText w text
Says All w text = IsReportTables true w text
Says Few w text = IsReportTables false w text
Says Metrics w text = IsReportMetrics w text
Says Picture w text = IsReportPicture w text

-- Such a text was written, and nothing else
pub record IsSaid (form : Form) (w : Window) (before after : Option (List ℕ)) : Type 0 where
  pub text : List ℕ
  pub says : Says form w text
  pub written : Appends before after text
