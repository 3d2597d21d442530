-- What is at hand is the front of the next line.
use Rattle.std.proofs.Common.{◌≡◌, ℕ, List, drop, ap, subst, ◌∙◌}
use Rattle.std.specs.Io.KnownBytes.{prepend_known}
use Rattle.text_stream.specs.Told.{AtHand, StopsReading}
use Rattle.text_stream.proofs.lines.Lines.read_on.Goals as goal

pub returns-in-Err-clause-stops : goal.returns-in-Err-clause-stops
returns-in-Err-clause-stops g c =
    let same : c.deref_mut-2.result.now.items ≡ c.args.self.now.bytes =
    ap (λ b. b.items) c.deref_mut-2.ensures.value ∙ c.drop_front.ensures ∙ ap (λ b. drop c.self.inside.next b.items) c.deref_mut.ensures.value
    ∙ ap (λ (h : AtHand). h.bytes) c.self.view_is in
    subst (λ (held : List ℕ). StopsReading c.args.reads_on
    (prepend_known held (g.R.Source.remaining c.args.reader.now))
    (g.R.Source.remaining c.read_line.new.reader) c.in-Err.fault) same c.in-Err.ensures.stops
