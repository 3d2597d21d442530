-- A request is counted, and each other call has its own answer.
use Rattle.std.proofs.Common.{◌≡◌, ℕ, Bool, true, false, not, refl, ap, ◌∙◌, arith}
use Rattle.flow_book.specs.Book.{changed, with_asked}
use Rattle.sched_history.proofs.steps.Passed.{passed-ask}
use Rattle.sched_history.proofs.state.Present.{IsLive-after, asked-fits, takes-after}
use Rattle.sched_history.proofs.rows.Limits.{most_history}
use Rattle.sched_history.proofs.state.Moves.{IsStateAfter-asked}
use Rattle.sched_history.proofs.scheduler.state.State.make_told.Goals as goal

negated : (b : Bool) → not b ≡ true → b ≡ false
negated true is = absurd cc
negated false is = refl

pub admit_best_effort-requires-clause-aperiodic : goal.admit_best_effort-requires-clause-aperiodic
admit_best_effort-requires-clause-aperiodic c = negated _ (rw c.in-Admit.is at c.requires.told)

pub change_unplaced-requires-clause-aperiodic : goal.change_unplaced-requires-clause-aperiodic
change_unplaced-requires-clause-aperiodic c = negated _ (rw c.in-Change.is at c.requires.told)

pub ask-requires-clause-live : goal.ask-requires-clause-live
ask-requires-clause-live c =
    let s = c.args.self.now in
    let x = c.requires.open.0 in
    let opens = rw c.in-Ask.is at c.requires.open.1 in
    IsLive-after s x c.in-Ask.sid opens.is_after
    (passed-ask s.config x c.in-Ask.receiver c.in-Ask.sid c.in-Ask.amount c.in-Ask.heard opens.unrefused).known

pub ask-requires-clause-fits : goal.ask-requires-clause-fits
ask-requires-clause-fits c =
    let s = c.args.self.now in
    let x = c.requires.open.0 in
    let opens = rw c.in-Ask.is at c.requires.open.1 in
    let asks = passed-ask s.config x c.in-Ask.receiver c.in-Ask.sid c.in-Ask.amount c.in-Ask.heard opens.unrefused in
    asked-fits s x.entries c.in-Ask.sid c.bytes-bytes.result (omega (arith, asks.most, c.bytes-bytes.ensures))
    (omega (arith, opens.short, most_history)) (rw opens.is_after.flows opens.sound.bounded.asked)

pub ask-requires-clause-asks : goal.ask-requires-clause-asks
ask-requires-clause-asks c =
    let s = c.args.self.now in
    let x = c.requires.open.0 in
    let opens = rw c.in-Ask.is at c.requires.open.1 in
    let asks = passed-ask s.config x c.in-Ask.receiver c.in-Ask.sid c.in-Ask.amount c.in-Ask.heard opens.unrefused in
    takes-after s x c.in-Ask.sid opens.is_after asks.known asks.asks

pub returns-in-Ask-clause-answered : goal.returns-in-Ask-clause-answered
returns-in-Ask-clause-answered c = λ x opens.
    let s = c.args.self.now in
    let ask = c.in-Ask in
    rw c.in-Ask.is (record {
      config = refl;
      answers = refl;
      encodable = tt;
      is_after = IsStateAfter-asked s x opens.is_after ask.receiver ask.sid ask.amount ask.heard
          c.ask.new.self (c.ask.ensures
          ∙ ap (λ (n : ℕ). record s.book {
            flows = changed ask.sid
                (with_asked n ask.heard) s.book.flows;
          }) c.bytes-bytes.ensures);
    })
