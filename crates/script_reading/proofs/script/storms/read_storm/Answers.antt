-- All bytes of the reader are the text, and what the text stands for is what they stand for.
use Rattle.text_stream.specs.Input.{ReadsAll}
use Rattle.script_reading.specs.StormScript.{calls_each}
use Rattle.text_stream.proofs.Outcome.{unfailed}
use Rattle.script_reading.proofs.StormOutcome.{gives_storm, stops_storm, faults-storm_text}
use Rattle.script_reading.proofs.script.storms.read_storm.Goals as goal

pub returns-clause-ok : goal.returns-clause-ok
returns-clause-ok g c =
    let old = g.R.Source.remaining c.args.reader.now in
    let new = g.R.Source.remaining c.read_all.new.reader in
    let all : ReadsAll old new c.deref.result.now = rw c.deref.ensures.value c.in_ok-bytes.ensures.ok in
    gives_storm (λ r. record { config = r.0; scripts = calls_each r.1.items }) old new c.deref.result.now
    c.storm_in.result all c.storm_in.ensures.is

pub returns-clause-stops : goal.returns-clause-stops
returns-clause-stops g c =
    let old = g.R.Source.remaining c.args.reader.now in
    let new = g.R.Source.remaining c.read_all.new.reader in
    let all : ReadsAll old new c.deref.result.now = rw c.deref.ensures.value c.in_ok-bytes.ensures.ok in
    stops_storm (λ r. record { config = r.0; scripts = calls_each r.1.items }) old new c.deref.result.now
    c.storm_in.result all c.storm_in.ensures.is

pub returns-clause-failed : goal.returns-clause-failed
returns-clause-failed g c =
    unfailed (λ r. record { config = r.0; scripts = calls_each r.1.items }) c.storm_in.result _ (faults-storm_text _)
    c.storm_in.ensures.is _ _ c.in_ok-bytes.ensures.failed
