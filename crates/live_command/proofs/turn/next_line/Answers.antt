-- The next line is at hand, or all that waits is settled and it is read.
use Rattle.std.proofs.Common.{ap}
use Rattle.std.proofs.lemmas.Result.{err_from_is_err_and}
use Rattle.text_stream.proofs.Reading.{TellsWhole-at_hand, TellsNext-whole}
use Rattle.live_command.specs.Answers.{Waiting}
use Rattle.live_command.proofs.Talking.{Stopped-quiet}
use Rattle.live_command.proofs.Turning.{TellsOn-next, next_or_end, stops_reading, stops_anywhere}
use Rattle.live_command.proofs.turn.next_line.Goals as goal

pub returns-in-Some-clause-talk : goal.returns-in-Some-clause-talk
returns-in-Some-clause-talk g c = λ s v turns talk.
    TellsOn-next s turns _ _ _ _ _ _ _ c.in-Some.told talk
    (TellsNext-whole _ _ _ c.in-Some.told
    (TellsWhole-at_hand _ _ (g.R.Source.remaining c.args.reader.now) c.in-Some.told c.in-Some.ensures))

pub returns-in_err-settle-clause-talk : goal.returns-in_err-settle-clause-talk
returns-in_err-settle-clause-talk g c = λ s v turns talk.
    let p = err_from_is_err_and c.from_residual.result c.from_residual.ensures.1 in
    rw (p.1, p.2) (
      c.in_err-settle.ensures.talk s v turns _ talk,
      stops_anywhere s _ _ _ _ _ c.in_err-settle.ensures.err,
    )

pub returns-in_err-told-clause-talk : goal.returns-in_err-told-clause-talk
returns-in_err-told-clause-talk g c = λ s v turns talk.
    let exit = c.from_residual-in_err-told in
    let p = err_from_is_err_and exit.result exit.ensures.1 in
    let settled = c.in_ok-settle.ensures.talk s v turns _ talk in
    let quiet = settled.0 in
    let empty = ap (λ (b : Waiting). b.text) c.in_ok-settle.ensures.settled in
    let stops = rw c.in_default.ensures.1 at c.in_err-told.ensures.stops in
    rw (p.1, p.2)
    (Stopped-quiet s turns _ _ _ _ _ quiet, stops_reading s turns _ _ _ _ _ _ _ quiet empty settled.1 stops)

pub returns-clause-talk : goal.returns-clause-talk
returns-clause-talk g c = λ s v turns talk.
    let settled = c.in_ok-settle.ensures.talk s v turns _ talk in
    let quiet = settled.0 in
    let empty = ap (λ (b : Waiting). b.text) c.in_ok-settle.ensures.settled in
    let told = rw c.in_default.ensures.1 at c.in_ok-told.ensures.told in
    next_or_end s turns _ _ _ _ _ _ _ c.in_ok-told.told quiet empty settled.1 told
