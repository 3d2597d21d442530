-- What a MAP meets by what is kept is what it meets after the history.
use Rattle.std.proofs.Common.{◌≡◌, ◌∙◌, ◌/◌, if◌then◌else◌, List, [], None, refl, sym, subst}
use Rattle.std.proofs.lemmas.Result.{IfOk-weaker}
use Rattle.periodic.specs.Placement.{due_in}
use Rattle.map_build.specs.Reading.{met_in}
use Rattle.minislots.specs.declared.config.Config.{Config}
use Rattle.sched_calls.specs.declared.reply.Reply.{Reply}
use Rattle.sched_calls.specs.declared.reply.Reply.TheVariants.{Built}
use Rattle.sched_calls.specs.declared.reply.Entry.{Entry}
use Rattle.sched_history.specs.Situation.{situation_of}
use Rattle.sched_history.specs.History.{map_by}
use Rattle.sched_history.specs.Machine.{Past}
use Rattle.sched_history.specs.Reserves.{waiting_in, met_after}
use Rattle.sched_history.specs.State.{settles_next}
use Rattle.sched_history.proofs.steps.LegalHistories.{map_by-other}
use Rattle.sched_history.proofs.reserves.MetAfter.{met_by-after}
use Rattle.sched_history.proofs.scheduler.present.Present.met.Goals as goal

pub returns-in-Built-clause-met : goal.returns-in-Built-clause-met
returns-in-Built-clause-met c =
    let s = c.self.inside.state.now in
    let h = c.self.inside.ledger.now in
    let kept = c.self.invariant in
    let elements = c.in-Built.map.wire.elements in
    IfOk-weaker c.met_in.result _ _
    (λ met is step.
    subst (λ (p : Past). met.items ≡ met_after p.config p.history c.args.entry.now.reply) c.self.view_is
    (rw (c.in-Built.is)
    (subst (λ es. met.items ≡ (if settles_next s then []
    else met_in s.table.config (due_in s.table.config (s.next / s.config.frame) s.table.placed)
    (waiting_in s.reserves) es)) c.as_slice.ensures is
    ∙ met_by-after s (situation_of s.config h) kept.is_after elements)))
    c.met_in.ensures

met_after-unbuilt : (c : Config) (h : List Entry) (reply : Reply) → map_by reply ≡ None → met_after c h reply ≡ []
met_after-unbuilt c h (Built m) none = absurd cc
met_after-unbuilt c h reply none = refl

pub returns-in_default : goal.returns-in_default
returns-in_default c =
    let past = c.args.self.now in
    let e = c.args.entry.now in
    record {
      met = λ step. c.new.ensures.items ∙ sym (met_after-unbuilt past.config past.history e.reply
          (map_by-other past.config (situation_of past.config past.history) e.call e.reply
          (c.in_default.not-Build) step));
      memory = tt;
    }
