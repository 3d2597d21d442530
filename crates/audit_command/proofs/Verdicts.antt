-- A verdict says whether a history is legal.
use Rattle.std.proofs.Common.{◌≡◌, ℕ, ◌<◌, Bool, true, false, List, length}
use Rattle.std.proofs.lemmas.Option.{slice_get_within}
use Rattle.std.specs.Prelude.{◌↔◌}
use Rattle.minislots.specs.declared.config.Config.{Config}
use Rattle.sched_calls.specs.declared.reply.Entry.{Entry}
use Rattle.sched_history.specs.History.{IsLegal}
use Rattle.sched_history.specs.Audit.{IsFirstIllegal}
use Rattle.sched_history.proofs.state.Judging.{IsFirstIllegal-not}
use Rattle.audit_command.specs.declared.audit.Verdict.{Verdict}
use Rattle.audit_command.specs.declared.audit.Verdict.TheVariants.{Legal, Illegal}
use Rattle.audit_command.specs.Verdict.{IsVerdict, is_legal}

-- it is that of a legal history exactly where the history is legal
pub legal-verdict : (c : Config) (h : List Entry) (v : Verdict) (legal : Bool) → IsVerdict c h v → legal ≡ is_legal v
    → (legal ≡ true) ↔ IsLegal c h
legal-verdict c h (Legal n) legal is same = ((λ yes. is.0), (λ is_so. same))
legal-verdict c h (Illegal i) legal is same =
    ((λ yes. absurd (let no : legal ≡ false = same in cc)), (λ is_so. absurd (IsFirstIllegal-not c h i is_so is)))

-- the first illegal entry is one of the history's
pub first-illegal-within : (c : Config) (h : List Entry) (i : ℕ) → IsFirstIllegal c h i → i < length h
first-illegal-within c h i first = slice_get_within h i first.entry first.stands
