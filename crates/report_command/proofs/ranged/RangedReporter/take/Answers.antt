-- What is told begins where it is due.
use Rattle.std.proofs.Common.{◌≡◌, ◌*◌, Bool, true, false, List, length, refl, sym, ap, ◌∙◌, subst, IsErrOf}
use Rattle.minislots.specs.declared.config.Config.{Config}
use Rattle.sched_calls.specs.declared.reply.Entry.{Entry}
use Rattle.sched_history.specs.declared.fault.JudgeFault.TheVariants.{Illegal}
use Rattle.sched_history.specs.History.{IsStep}
use Rattle.std.specs.Prelude.{nat_le}
use Rattle.sched_report.specs.Window.{Window}
use Rattle.report_command.specs.Range.{Ranged, ticks_after, ends_here, is_over, IsRanged}
use Rattle.report_command.proofs.Ranges.{ranged-begun, ranged-due, ranged-more, ranged-taken}
use Rattle.report_command.proofs.ranged.RangedReporter.take.Goals.{then-is_due+then-not-self, else-is_due}
use Rattle.report_command.proofs.ranged.RangedReporter.take.Goals.{else-is_due-via-then-is_due+else-not-self}
use Rattle.report_command.proofs.ranged.RangedReporter.take.Goals.{else-is_due-via-else-is_due}
use Rattle.report_command.proofs.ranged.RangedReporter.take.Goals as goal

pub invariant_of-self : goal.invariant_of-self
invariant_of-self c =
    let s = c.self.inside in
    let w = s.timed in
    let r = s.range in
    let e = c.args.entry.now in
    let going : is_over r.to (ticks_after w.config w.history) ≡ false =
    ap ends_here c.self.view_is ∙ c.requires in
    let due : c.has_begun-is_due.result ≡ nat_le (160 * r.from) (ticks_after w.config w.history) =
    c.has_begun-is_due.ensures
    ∙ ap (nat_le (160 * r.from))
    (c.ticks.ensures ∙ sym (ap (λ (v : Ranged). ticks_after v.config v.history) c.self.view_is)) in
    elim c.if-is_due.branch [
      | then-is_due+then-not-self b ↦
          let begins : IsRanged s.config r true (record w { passed = length w.history }) =
          ranged-due s.config r w (sym due ∙ b.if-is_due.true)
          (subst (λ (begun : Bool). IsRanged s.config r begun w) b.if-not-self.true c.self.invariant) in
          let old : IsRanged s.config r true b.renew.new.self =
          subst (IsRanged s.config r true) (sym b.renew.ensures) begins in
          let still : is_over r.to (ticks_after b.renew.new.self.config b.renew.new.self.history) ≡ false =
          ap (λ (v : Window). is_over r.to (ticks_after v.config v.history)) b.renew.ensures ∙ going in
          rw b.self-inside-is
          (ranged-taken s.config r true b.renew.new.self c.take.new.self e c.take.result
          (rw b.self-inside-is at c.take.ensures.taken) (rw b.self-inside-is at c.take.ensures.err)
          (ranged-begun s.config r b.renew.new.self e still old) old)
      | else-is_due b ↦
          let early : s.begun ≡ false → nat_le (160 * r.from) (ticks_after w.config w.history) ≡ false =
          λ waits. elim b.else-is_due.branch [
            | else-is_due-via-then-is_due+else-not-self v ↦
                absurd (let both : true ≡ false = sym v.if-not-self.false ∙ waits in cc)
            | else-is_due-via-else-is_due v ↦ sym due ∙ v.if-is_due.false
          ] in
          rw b.self-inside-is
          (ranged-taken s.config r s.begun w c.take.new.self e c.take.result
          (rw b.self-inside-is at c.take.ensures.taken) (rw b.self-inside-is at c.take.ensures.err)
          (ranged-more s.config r s.begun w e going early c.self.invariant) c.self.invariant)
    ]

-- an entry that is illegal is no step
pub returns-clause-illegal : goal.returns-clause-illegal
returns-clause-illegal c =
    let w = c.self.inside.timed in
    let e = c.args.entry.now in
    let t = c.if-is_due.self-inside.timed in
    let same : (t.config ≡ w.config) × (t.history ≡ w.history) = elim c.if-is_due.branch [
      | then-is_due+then-not-self b ↦ rw b.self-inside-is
          (ap (λ (v : Window). v.config) b.renew.ensures, ap (λ (v : Window). v.history) b.renew.ensures)
      | else-is_due b ↦ rw b.self-inside-is (refl, refl)
    ] in
    subst (λ (v : Ranged). IsErrOf c.take.result Illegal → IsStep v.config v.history e.call e.reply → ⊥) c.self.view_is
    (subst (λ (k : Config). IsErrOf c.take.result Illegal → IsStep k w.history e.call e.reply → ⊥) same.0
    (subst (λ (h : List Entry). IsErrOf c.take.result Illegal → IsStep t.config h e.call e.reply → ⊥) same.1
    c.take.ensures.illegal))
