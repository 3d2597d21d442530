-- What is told of the lives stays.
use Rattle.std.proofs.Common.{List, sym, ◌∙◌, subst}
use Rattle.std.proofs.lemmas.Result.{on_ok_weaker}
use Rattle.std.proofs.lemmas.List.{with_items_is}
use Rattle.sched_report.specs.declared.life.LifeTally.{LifeTally}
use Rattle.sched_report.specs.Live.{AreLive, HaveRoomFor}
use Rattle.sched_report.specs.ToldLives.{AreLives}
use Rattle.sched_report.proofs.lives.reserve_for.Goals as goal

pub returns-in-Ask-Taken-clause-same : goal.returns-in-Ask-Taken-clause-same
returns-in-Ask-Taken-clause-same c = λ k ls are.
    subst (λ (ts : List LifeTally). AreLives k ts ls)
    (sym (with_items_is c.args.lives.now c.reserve_each.new.lives
    (c.reserve_each.auto.lives ∙ c.deref_mut.ensures.len)))
    (c.reserve_each.ensures.same k ls
    (subst (λ (ts : List LifeTally). AreLives k ts ls) (sym c.deref_mut.ensures.value) are))

pub reserve_each-requires : goal.reserve_each-requires
reserve_each-requires c =
    subst (λ (ts : List LifeTally). AreLive c.args.places.now ts) (sym c.deref_mut.ensures.value) c.requires

pub returns-in-Ask-Taken-clause-live : goal.returns-in-Ask-Taken-clause-live
returns-in-Ask-Taken-clause-live c =
    subst (λ (ts : List LifeTally). AreLive c.args.places.now ts)
    (sym (with_items_is c.args.lives.now c.reserve_each.new.lives
    (c.reserve_each.auto.lives ∙ c.deref_mut.ensures.len)))
    c.reserve_each.ensures.live

pub returns-in-Ask-Taken-clause-requests : goal.returns-in-Ask-Taken-clause-requests
returns-in-Ask-Taken-clause-requests c =
    let e = c.args.entry.now in
    on_ok_weaker c.reserve_each.result (λ room. λ asks.
    subst (HaveRoomFor c.args.config.now e.call e.reply)
    (sym (with_items_is c.args.lives.now c.reserve_each.new.lives
    (c.reserve_each.auto.lives ∙ c.deref_mut.ensures.len))) room) c.reserve_each.ensures.ok
