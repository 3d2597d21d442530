-- Those served that still wait are put in, each in its turn.
use Rattle.std.proofs.Common.{◌∙◌, sym, ap, subst, filter, Result, Ok, Err, OnOk, rules}
use Rattle.std.proofs.lemmas.Fn.{filter_same}
use Rattle.sched_calls.specs.Sids.{AscendBy}
use Rattle.sched_calls.proofs.Removal.{ascends-filter}
use Rattle.flow_book.specs.declared.waiting.Waiting.{Waiting}
use Rattle.flow_book.specs.Queue.{IsQueue, still_waits}
use Rattle.flow_book.specs.Gap.{all_put_in}
use Rattle.flow_book.proofs.Merging.{merged}
use Rattle.flow_book.proofs.taking.merge.Goals as goal

pub put_all-requires-clause-ascending : goal.put_all-requires-clause-ascending
put_all-requires-clause-ascending c =
    rw c.drop_idle.ensures c.requires.3.others.ascending

pub put_all-requires-clause-ones : goal.put_all-requires-clause-ones
put_all-requires-clause-ones c =
    let left =
    c.deref.ensures.value ∙ filter_same _ still_waits _ (λ x b f' k. search rules) _ _ c.retain.ensures.filtered in
    subst (AscendBy (λ (w : Waiting). w.turn)) (sym left)
    (ascends-filter (λ (w : Waiting). w.turn) still_waits c.args.served.items c.requires.3.served_ones.ascending)

on-ok : {T E : Type 0} (r : Result T E) (P Q : Type 0) → (P → Q) → OnOk r P → OnOk r Q
on-ok (Ok x) P Q step holds = step holds
on-ok (Err e) P Q step holds = tt

pub returns : goal.returns
returns c =
    let left =
    c.deref.ensures.value ∙ filter_same _ still_waits _ (λ x b f' k. search rules) _ _ c.retain.ensures.filtered in
    on-ok c.put_all.result _ _
    (λ put k items book parts. subst (IsQueue items)
    (sym (put ∙ ap (λ ws. all_put_in ws c.drop_idle.new.self) left
    ∙ ap (all_put_in (filter still_waits c.args.served.items)) c.drop_idle.ensures))
    (merged k items book c.args.queue.now c.args.served.items parts)) c.put_all.ensures
