-- All bytes of the reader are the text, and what the text stands for is what they stand for.
use Rattle.std.proofs.Common.{◌≤◌, length, vec_len, Result, Ok, Err, arith}
use Rattle.std.specs.Prelude.{IfOk}
use Rattle.std.specs.Global.{Vec}
use Rattle.minislots.specs.declared.config.Config.{Config}
use Rattle.sched_calls.specs.declared.reply.Entry.{Entry}
use Rattle.sched_calls.specs.declared.reply.TheConstants.{MAX_ENTRIES}
use Rattle.text_stream.specs.declared.fault.TextFault.{TextFault}
use Rattle.text_stream.specs.Input.{ReadsAll}
use Rattle.history_reading.proofs.Encodable.{encodable_entries}
use Rattle.history_reading.proofs.FewEntries.{few_entries}
use Rattle.history_reading.proofs.HistoryOutcome.{gives_history, stops_history, faults-history_in}
use Rattle.text_stream.proofs.Outcome.{unfailed}
use Rattle.history_reading.proofs.recorded.reading.read_history.Goals as goal

counted : (result : Result (Config × Vec Entry) TextFault) → IfOk result (λ r. length r.1.items ≤ MAX_ENTRIES)
    → IfOk result (λ r. vec_len r.1 ≤ MAX_ENTRIES)
counted (Ok r) few = let len = r.1.ok.0 in omega (arith, few, len)
counted (Err fault) few = tt

pub returns-clause-ok : goal.returns-clause-ok
returns-clause-ok g c =
    let old = g.R.Source.remaining c.args.reader.now in
    let new = g.R.Source.remaining c.read_all.new.reader in
    let all : ReadsAll old new c.deref.result.now = rw c.deref.ensures.value c.in_ok-bytes.ensures.ok in
    gives_history (λ r. record { config = r.0; entries = r.1.items }) old new c.deref.result.now
    c.history_in.result all c.history_in.ensures

pub returns-clause-encodable : goal.returns-clause-encodable
returns-clause-encodable g c =
    encodable_entries (λ r. record { config = r.0; entries = r.1.items }) c.history_in.result c.deref.result.now
    c.history_in.ensures

pub returns-clause-few : goal.returns-clause-few
returns-clause-few g c =
    let old = g.R.Source.remaining c.args.reader.now in
    let new = g.R.Source.remaining c.read_all.new.reader in
    let all : ReadsAll old new c.deref.result.now = rw c.deref.ensures.value c.in_ok-bytes.ensures.ok in
    counted c.history_in.result (few_entries (λ r. record { config = r.0; entries = r.1.items }) c.history_in.result
    c.deref.result.now all.short c.history_in.ensures)

pub returns-clause-stops : goal.returns-clause-stops
returns-clause-stops g c =
    let old = g.R.Source.remaining c.args.reader.now in
    let new = g.R.Source.remaining c.read_all.new.reader in
    let all : ReadsAll old new c.deref.result.now = rw c.deref.ensures.value c.in_ok-bytes.ensures.ok in
    stops_history (λ r. record { config = r.0; entries = r.1.items }) old new c.deref.result.now
    c.history_in.result all c.history_in.ensures

pub returns-clause-failed : goal.returns-clause-failed
returns-clause-failed g c =
    unfailed (λ r. record { config = r.0; entries = r.1.items }) c.history_in.result _ (faults-history_in _)
    c.history_in.ensures _ _ c.in_ok-bytes.ensures.failed
