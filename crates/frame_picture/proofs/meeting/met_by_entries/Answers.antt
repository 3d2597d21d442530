-- An entry more, and the first that may not follow.
use Rattle.std.proofs.Common.{◌≡◌, ◌+◌, List, [], ◌∷◌, ◌++◌, take, sym, ap, ◌∙◌, subst, refl, arith}
use Rattle.std.proofs.lemmas.List.{take_more}
use Rattle.map_build.specs.declared.met.Met.{Met}
use Rattle.sched_calls.specs.declared.reply.Entry.{Entry}
use Rattle.sched_history.specs.History.{IsStep, IsLegal}
use Rattle.sched_history.specs.Machine.{Past}
use Rattle.sched_history.specs.Reserves.{met_after}
use Rattle.frame_picture.specs.Meeting.{met_by_each, met_lists}
use Rattle.frame_picture.proofs.Meetings.{met_by_each-push, met_lists-push, front-all, front-first}
use Rattle.frame_picture.proofs.meeting.met_by_entries.Goals as goal

pub loop-i-init : goal.loop-i-init
loop-i-init c = record {
  taken = c.in_ok-auditor.ensures;
  legal = tt;
  each = ap met_lists c.new-found.ensures.items;
}

pub loop-i-preserved : goal.loop-i-preserved
loop-i-preserved c =
    let at = c.loop-i.invariant in
    let k = c.args.config.now in
    let h = c.args.entries.now in
    let i = c.loop-i.i in
    let d = c.index-entries-i.result in
    let next : take (i + 1) h ≡ take i h ++ d ∷ [] =
    take_more h i d (omega arith) ∙ ap (λ (e : Entry). take i h ++ e ∷ []) (sym c.index-entries-i.is) in
    let taken : ◌≡◌ {A = Past} c.judge_met.new.auditor (record { config = k; history = take (i + 1) h }) =
    c.in-Ok.ensures.taken ∙ ap (λ (p : Past). record p { history = p.history ++ d ∷ [] }) at.taken
    ∙ ap (λ (xs : List Entry). record { config = k; history = xs }) (sym next) in
    let met : c.in-Ok.met.items ≡ met_after k (take i h) d.reply =
    c.in-Ok.ensures.met ∙ ap (λ (p : Past). met_after p.config p.history d.reply) at.taken in
    record {
      taken = taken;
      legal = subst (λ (p : Past). IsLegal p.config p.history) taken c.in-Ok.ensures.legal;
      each = ap met_lists c.in_ok-push-in-Ok.ensures.items ∙ met_lists-push c.loop-i.found.items c.in-Ok.met
          ∙ ap (λ (ms : List (List Met)). ms ++ c.in-Ok.met.items ∷ []) at.each
          ∙ ap (λ (m : List Met). met_by_each k [] (take i h) ++ m ∷ []) met
          ∙ sym (met_by_each-push k [] (take i h) d)
          ∙ ap (met_by_each k []) (sym next);
    }

pub returns-in-Err-Illegal : goal.returns-in-Err-Illegal
returns-in-Err-Illegal c =
    let at = c.loop-i.invariant in
    let e = c.index-entries-i.result in
    front-first c.args.config.now c.args.entries.now _ c.loop-i.i (omega arith) at.legal at.each e (omega arith)
    c.index-entries-i.is
    (subst (λ (p : Past). IsStep p.config p.history e.call e.reply → ⊥) at.taken
    ((rw c.in-Err-Illegal.field-0-is at c.in-Err-Illegal.ensures).illegal refl))

pub returns : goal.returns
returns c =
    let at = c.loop-i.invariant in
    front-all c.args.config.now c.args.entries.now _ c.loop-i.i (omega arith) at.legal at.each (omega arith)
