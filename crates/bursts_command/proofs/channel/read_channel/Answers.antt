-- All bytes of the reader are the text, and what the text stands for is what they stand for.
use Rattle.text_stream.specs.Input.{ReadsAll}
use Rattle.text_stream.proofs.Outcome.{unfailed}
use Rattle.bursts_command.proofs.Channels.{gives_channel, stops_channel, faults-channel_in}
use Rattle.bursts_command.proofs.channel.read_channel.Goals as goal

pub returns-clause-ok : goal.returns-clause-ok
returns-clause-ok g c =
    let old = g.R.Source.remaining c.args.reader.now in
    let new = g.R.Source.remaining c.read_all.new.reader in
    let all : ReadsAll old new c.deref.result.now = rw c.deref.ensures.value c.in_ok-bytes.ensures.ok in
    gives_channel old new c.deref.result.now all c.channel_in.result c.channel_in.ensures

pub returns-clause-stops : goal.returns-clause-stops
returns-clause-stops g c =
    let old = g.R.Source.remaining c.args.reader.now in
    let new = g.R.Source.remaining c.read_all.new.reader in
    let all : ReadsAll old new c.deref.result.now = rw c.deref.ensures.value c.in_ok-bytes.ensures.ok in
    stops_channel old new c.deref.result.now all c.channel_in.result c.channel_in.ensures

pub returns-clause-failed : goal.returns-clause-failed
returns-clause-failed g c =
    unfailed (λ channel. channel) c.channel_in.result _ (faults-channel_in _) c.channel_in.ensures _ _
    c.in_ok-bytes.ensures.failed
