-- An entry more, and whatever ends the reading.
use Rattle.std.proofs.Common.{◌+◌, ◌∷◌, ◌++◌, [], length, ap, ◌∙◌, arith, length-append, inr}
use Rattle.sched_history.specs.Machine.{Past}
use Rattle.state_command.proofs.journal.judge_entries.Goals as goal

pub returns-in-Ok-Illegal-clause-finds : goal.returns-in-Ok-Illegal-clause-finds
returns-in-Ok-Illegal-clause-finds g c = λ before given.
    let at = c.loop.invariant in
    let old = c.loop.entries.auditor in
    let meets = (rw c.in-Ok-Illegal.field-0-is at c.in-Ok-Illegal.ensures).gives before (at.so_far before given) in
    ((old.config, old.history ++ meets.entry ∷ [], meets.found), meets.most)

pub returns-in-Ok-Bad-clause-finds : goal.returns-in-Ok-Bad-clause-finds
returns-in-Ok-Bad-clause-finds g c = λ before given.
    let at = c.loop.invariant in
    let old = c.loop.entries.auditor in
    inr (
      old.config,
      old.history,
      (rw c.in-Ok-Bad.field-0-is at c.in-Ok-Bad.ensures).gives before (at.so_far before given),
    )

pub returns-in-Ok-End-clause-finds : goal.returns-in-Ok-End-clause-finds
returns-in-Ok-End-clause-finds g c = λ before given.
    let at = c.loop.invariant in
    let ends = rw c.in-Ok-End.field-0-is at c.in-Ok-End.ensures in
    rw ends.takes (ends.gives before (at.so_far before given))

pub returns-in-Err-clause-stops : goal.returns-in-Err-clause-stops
returns-in-Err-clause-stops g c = λ before given.
    c.in-Err.ensures.stops before (c.loop.invariant.so_far before given)

pub loop-preserved : goal.loop-preserved
loop-preserved g c =
    let at = c.loop.invariant in
    let entry = rw c.in-Ok-Entry.field-0-is at c.in-Ok-Entry.ensures in
    let more = ap (λ (p : Past). length p.history) entry.takes.0
    ∙ length-append c.loop.entries.auditor.history (_ ∷ []) in
    record {
      so_far = λ before given. entry.gives before (at.so_far before given);
      count = omega (arith, more, at.count);
      config = ap (λ (p : Past). p.config) entry.takes.0 ∙ at.config;
      unfailed = c.in-Ok-Entry.ensures.failed ∙ at.unfailed;
    }

pub returns-in-Ok-End-clause-config : goal.returns-in-Ok-End-clause-config
returns-in-Ok-End-clause-config g c =
    let ends = rw c.in-Ok-End.field-0-is at c.in-Ok-End.ensures in
    ap (λ (p : Past). p.config) ends.takes ∙ c.loop.invariant.config
