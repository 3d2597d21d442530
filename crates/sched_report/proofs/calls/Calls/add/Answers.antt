-- The call is one more of its kind.
use Rattle.std.proofs.Common.{◌+◌, ap}
use Rattle.sched_report.specs.declared.calls.Calls.{Calls}
use Rattle.sched_report.proofs.Called.{calls_of-push}
use Rattle.sched_report.proofs.calls.Calls.add.Goals as goal

pub returns-in-Admit : goal.returns-in-Admit
returns-in-Admit c = λ h are.
    calls_of-push h c.args.entry.now _ c.in-Admit.is _ (ap (λ (n : Calls). record n { admit = n.admit + 1 }) are)

pub returns-in-Ask : goal.returns-in-Ask
returns-in-Ask c = λ h are.
    calls_of-push h c.args.entry.now _ c.in-Ask.is _ (ap (λ (n : Calls). record n { ask = n.ask + 1 }) are)

pub returns-in-Build : goal.returns-in-Build
returns-in-Build c = λ h are.
    calls_of-push h c.args.entry.now _ c.in-Build.is _ (ap (λ (n : Calls). record n { build = n.build + 1 }) are)

pub returns-in-Change : goal.returns-in-Change
returns-in-Change c = λ h are.
    calls_of-push h c.args.entry.now _ c.in-Change.is _ (ap (λ (n : Calls). record n { change = n.change + 1 }) are)

pub returns-in-Header : goal.returns-in-Header
returns-in-Header c = λ h are.
    calls_of-push h c.args.entry.now _ c.in-Header.is _ (ap (λ (n : Calls). record n { header = n.header + 1 }) are)

pub returns-in-Heard : goal.returns-in-Heard
returns-in-Heard c = λ h are.
    calls_of-push h c.args.entry.now _ c.in-Heard.is _ (ap (λ (n : Calls). record n { heard = n.heard + 1 }) are)

pub returns-in-Remove : goal.returns-in-Remove
returns-in-Remove c = λ h are.
    calls_of-push h c.args.entry.now _ c.in-Remove.is _ (ap (λ (n : Calls). record n { remove = n.remove + 1 }) are)

pub returns-in-Replace : goal.returns-in-Replace
returns-in-Replace c = λ h are.
    calls_of-push h c.args.entry.now _ c.in-Replace.is _ (ap (λ (n : Calls). record n { replace = n.replace + 1 }) are)

pub returns-in-Reserve : goal.returns-in-Reserve
returns-in-Reserve c = λ h are.
    calls_of-push h c.args.entry.now _ c.in-Reserve.is _ (ap (λ (n : Calls). record n { reserve = n.reserve + 1 }) are)

pub returns-in-Rest : goal.returns-in-Rest
returns-in-Rest c = λ h are.
    calls_of-push h c.args.entry.now _ c.in-Rest.is _ (ap (λ (n : Calls). record n { rest = n.rest + 1 }) are)

pub returns-in-Skip : goal.returns-in-Skip
returns-in-Skip c = λ h are.
    calls_of-push h c.args.entry.now _ c.in-Skip.is _ (ap (λ (n : Calls). record n { skip = n.skip + 1 }) are)

pub returns-in-Status : goal.returns-in-Status
returns-in-Status c = λ h are.
    calls_of-push h c.args.entry.now _ c.in-Status.is _ (ap (λ (n : Calls). record n { status = n.status + 1 }) are)

pub returns-in-Wake : goal.returns-in-Wake
returns-in-Wake c = λ h are.
    calls_of-push h c.args.entry.now _ c.in-Wake.is _ (ap (λ (n : Calls). record n { wake = n.wake + 1 }) are)
