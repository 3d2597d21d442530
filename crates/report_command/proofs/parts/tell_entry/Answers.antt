-- What was written tells of the part that is over with the entry, or none is.
use Rattle.std.proofs.Common.{◌≡◌, ◌≤◌, ◌<◌, [], ℕ, Result, Ok, length, sym, ◌∙◌, subst, arith}
use Rattle.std.specs.Result.{IsErrOf}
use Rattle.sched_calls.specs.declared.reply.TheConstants.{MAX_WHOLE_HISTORY}
use Rattle.sched_history.specs.declared.fault.JudgeFault.{JudgeFault}
use Rattle.sched_history.specs.declared.fault.JudgeFault.TheVariants.{Full}
use Rattle.std.proofs.lemmas.List.{append-nil}
use Rattle.report_command.specs.Series.{Serial, IsTellerOf}
use Rattle.report_command.proofs.Growing.{IsPending, pending, pending-over, pending-goes-on, Appends-none}
use Rattle.report_command.proofs.parts.tell_entry.Goals as goal

no-fault : (x : Unit) (fault : JudgeFault) → IsErrOf {T = Unit} {E = JudgeFault} (Ok x) fault → ⊥
no-fault x fault is = cc

-- what was taken stands behind fewer than the most
not-full : (r : Result Unit JudgeFault) (x : Unit) (n : ℕ) → r ≡ Ok x → (MAX_WHOLE_HISTORY ≤ n → IsErrOf r Full)
    → n < MAX_WHOLE_HISTORY
not-full r x n is full =
    let few : MAX_WHOLE_HISTORY ≤ n → ⊥ =
    λ many. subst (λ (r : Result Unit JudgeFault). IsErrOf r Full → ⊥) (sym is) (no-fault x Full) (full many) in
    omega (arith, few)

pub returns-in-Ok-put_part-clause-ok : goal.returns-in-Ok-put_part-clause-ok
returns-in-Ok-put_part-clause-ok g c =
    let old = c.args.series.now in
    let new = c.take.new.self in
    let e = c.args.entry.now in
    let form = c.args.form in
    let entered = c.in-Ok.ensures.taken in
    let part = c.in-Ok-put_part.ensures.ok in
    record {
      entered = entered;
      few = not-full c.take.result c.in-Ok.field-0 (length old.told.history) c.in-Ok.is c.take.ensures.full.1;
      more = _;
      written = part.written;
      tells = λ text t.
          pending-over form new text (subst (λ (s : Serial). IsPending form s text) (sym entered) (pending form old e text t))
          (sym c.is_between.ensures ∙ c.if-is_between.true) part.report part.says;
    }

pub returns-else-is_between-clause-ok : goal.returns-else-is_between-clause-ok
returns-else-is_between-clause-ok g c =
    let old = c.args.series.now in
    let new = c.take.new.self in
    let e = c.args.entry.now in
    let form = c.args.form in
    let entered = c.in-Ok.ensures.taken in
    record {
      entered = entered;
      few = not-full c.take.result c.in-Ok.field-0 (length old.told.history) c.in-Ok.is c.take.ensures.full.1;
      more = [];
      written = Appends-none (g.W.Sink.contents c.args.writer.now);
      tells = λ text t. subst (IsTellerOf form new) (sym (append-nil text))
          (pending-goes-on form new text
          (subst (λ (s : Serial). IsPending form s text) (sym entered) (pending form old e text t))
          (sym c.is_between.ensures ∙ c.if-is_between.false));
    }
