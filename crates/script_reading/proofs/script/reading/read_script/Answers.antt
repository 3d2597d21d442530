-- All bytes of the reader are the text, and what the text stands for is what they stand for.
use Rattle.text_stream.specs.Input.{ReadsAll}
use Rattle.script_reading.proofs.Outcome.{stands_for, stops_script, faults-text_outcome}
use Rattle.text_stream.proofs.Outcome.{unfailed}
use Rattle.script_reading.proofs.script.reading.read_script.Goals as goal

pub returns-clause-ok : goal.returns-clause-ok
returns-clause-ok g c =
    let old = g.R.Source.remaining c.args.reader.now in
    let new = g.R.Source.remaining c.read_all.new.reader in
    let all : ReadsAll old new c.deref.result.now = rw c.deref.ensures.value c.in_ok-bytes.ensures.ok in
    stands_for (λ r. record { config = r.0; calls = r.1.items }) old new c.deref.result.now c.script_in.result all
    c.script_in.ensures

pub returns-clause-stops : goal.returns-clause-stops
returns-clause-stops g c =
    let old = g.R.Source.remaining c.args.reader.now in
    let new = g.R.Source.remaining c.read_all.new.reader in
    let all : ReadsAll old new c.deref.result.now = rw c.deref.ensures.value c.in_ok-bytes.ensures.ok in
    stops_script (λ r. record { config = r.0; calls = r.1.items }) old new c.deref.result.now c.script_in.result all
    c.script_in.ensures

pub returns-clause-failed : goal.returns-clause-failed
returns-clause-failed g c =
    unfailed (λ r. record { config = r.0; calls = r.1.items }) c.script_in.result _ (faults-text_outcome _)
    c.script_in.ensures _ _ c.in_ok-bytes.ensures.failed
