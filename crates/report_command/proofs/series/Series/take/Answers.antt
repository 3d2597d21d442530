-- The reporter of the parts keeps its configuration.
use Rattle.std.proofs.Common.{◌≡◌, ◌++◌, ◌∷◌, [], ℕ, Bool, true, false, List, length, Result, Ok, Err, IsErrOf, refl, subst, sym, ◌∙◌}
use Rattle.std.proofs.Common.{if◌then◌else◌}
use Rattle.std.specs.Result.{OnOk, OnErr}
use Rattle.minislots.specs.declared.config.Config.{Config}
use Rattle.sched_calls.specs.declared.reply.Entry.{Entry}
use Rattle.sched_history.specs.declared.fault.JudgeFault.{JudgeFault}
use Rattle.sched_history.specs.declared.fault.JudgeFault.TheVariants.{Illegal}
use Rattle.sched_history.specs.History.{IsStep}
use Rattle.sched_report.specs.Window.{Window}
use Rattle.report_command.specs.Series.{Serial, is_between, end_behind, begun, IsSerial}
use Rattle.report_command.proofs.series.Series.take.Goals as goal

serial-taken : (c : Config) (every : ℕ) (old new : Window) (e : Entry) (result : Result Unit JudgeFault)
    → OnOk result (new ≡ record old { history = old.history ++ e ∷ [] }) → OnErr result (new ≡ old)
    → IsSerial c every old → IsSerial c every new
serial-taken c every old new e (Ok x) taken err is =
    subst (IsSerial c every) (sym taken) (record { config = is.config; some = is.some })
serial-taken c every old new e (Err f) taken err is = subst (IsSerial c every) (sym err) is

pub invariant_of-self : goal.invariant_of-self
invariant_of-self c =
    serial-taken c.self.inside.config c.self.inside.every c.self.inside.timed c.take.new.self c.args.entry.now c.take.result
    c.take.ensures.taken c.take.ensures.err c.self.invariant

-- to begin a part changes neither the configuration nor the history
begins-same : (b : Bool) (s : Serial) (end passed : ℕ)
    → ((if b then record s { end = end; told = record s.told { passed = passed } } else s).told.config ≡ s.told.config)
    × ((if b then record s { end = end; told = record s.told { passed = passed } } else s).told.history ≡ s.told.history)
begins-same true s end passed = (refl, refl)
begins-same false s end passed = (refl, refl)

-- an entry that is illegal is no step
pub returns-clause-illegal : goal.returns-clause-illegal
returns-clause-illegal c =
    let s = c.args.self.now in
    let e = c.args.entry.now in
    let same = begins-same (is_between s) s (end_behind s.told.config s.every s.told.history) (length s.told.history) in
    subst (λ (k : Config). IsErrOf c.take.result Illegal → IsStep k s.told.history e.call e.reply → ⊥) same.0
    (subst (λ (h : List Entry). IsErrOf c.take.result Illegal → IsStep (begun s).told.config h e.call e.reply → ⊥) same.1
    (subst (λ (v : Serial). IsErrOf c.take.result Illegal → IsStep v.told.config v.told.history e.call e.reply → ⊥)
    (c.self.view_is ∙ c.begin.ensures) c.take.ensures.illegal))
