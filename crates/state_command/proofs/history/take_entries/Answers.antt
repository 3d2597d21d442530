-- Before any entry none is taken; the first entry that may not follow is the one that is named.
use Rattle.std.proofs.Common.{length, take, refl, subst, arith}
use Rattle.std.proofs.lemmas.List.{take_all}
use Rattle.std.proofs.lemmas.Option.{slice_get_read}
use Rattle.sched_history.specs.History.{IsStep}
use Rattle.sched_history.specs.Machine.{Past}
use Rattle.state_command.proofs.history.take_entries.Goals as goal

pub loop-index-init : goal.loop-index-init
loop-index-init c = record { taken = c.in-Ok.ensures; legal = tt }

pub returns-in-Err-Illegal-clause-ok : goal.returns-in-Err-Illegal-clause-ok
returns-in-Err-Illegal-clause-ok c =
    let h = c.args.entries.now in
    let index = c.loop-index.index in
    let e = c.index-entries-index.result in
    record {
      entry = e;
      stands = slice_get_read h (length h) index e refl (omega arith) c.index-entries-index.is;
      legal_before = c.loop-index.invariant.legal;
      no_step = subst (λ (p : Past). IsStep p.config p.history e.call e.reply → ⊥) c.loop-index.invariant.taken
          ((rw c.in-Err-Illegal.field-0-is at c.in-Err-Illegal.ensures).illegal refl);
    }

pub returns-clause-ok : goal.returns-clause-ok
returns-clause-ok c =
    let h = c.args.entries.now in
    let i = c.loop-index.index in
    let all = take_all i h (omega (arith, c.loop-index-test.false, c.loop-index.auto.index-end)) in
    let at = c.loop-index.invariant in (rw all at at.legal, rw all at at.taken)
