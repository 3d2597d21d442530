-- So many bytes are outstanding then.
use Rattle.std.proofs.Common.{ℕ, refl, ap, ◌∙◌, arith}
use Rattle.flow_book.specs.Book.{changed, with_replaced}
use Rattle.sched_history.proofs.steps.Passed.{passed-replace}
use Rattle.sched_history.proofs.state.Present.{IsLive-after, replaced-fits, takes-after}
use Rattle.sched_history.proofs.rows.Limits.{most_history}
use Rattle.sched_history.proofs.state.Moves.{IsStateAfter-replaced}
use Rattle.sched_history.proofs.scheduler.state.State.replace.Goals as goal

pub replace-requires-clause-live : goal.replace-requires-clause-live
replace-requires-clause-live c =
    let a = c.args in
    let s = a.self.now in
    let opens = c.requires.1 in
    IsLive-after s c.requires.0 a.sid opens.is_after
    (passed-replace s.config c.requires.0 a._receiver a.sid a.amount a.heard opens.unrefused).known

pub replace-requires-clause-fits : goal.replace-requires-clause-fits
replace-requires-clause-fits c =
    let a = c.args in
    let s = a.self.now in
    let opens = c.requires.1 in
    let may = passed-replace s.config c.requires.0 a._receiver a.sid a.amount a.heard opens.unrefused in
    replaced-fits s c.requires.0.entries a.sid c.bytes-bytes.result (omega (arith, may.most, c.bytes-bytes.ensures))
    (omega (arith, opens.short, most_history)) (rw opens.is_after.flows opens.sound.bounded.asked)
    (rw opens.is_after.flows opens.sound.bounded.within)

pub replace-requires-clause-asks : goal.replace-requires-clause-asks
replace-requires-clause-asks c =
    let a = c.args in
    let s = a.self.now in
    let opens = c.requires.1 in
    let may = passed-replace s.config c.requires.0 a._receiver a.sid a.amount a.heard opens.unrefused in
    takes-after s c.requires.0 a.sid opens.is_after may.known may.asks

pub returns : goal.returns
returns c = λ x opens.
    let a = c.args in
    let s = a.self.now in
    record {
      config = refl;
      answers = refl;
      encodable = tt;
      is_after = IsStateAfter-replaced s x opens.is_after a._receiver a.sid a.amount a.heard
          c.replace.new.self (c.replace.ensures
          ∙ ap (λ (n : ℕ). record s.book { flows = changed a.sid (with_replaced n a.heard) s.book.flows })
          c.bytes-bytes.ensures);
    }
