-- The place is that of the flow that stands in the table.
use Rattle.std.proofs.Common.{◌∙◌, refl, Result, Ok, Err, OnErr}
use Rattle.periodic.specs.Groups.{flows_in}
use Rattle.periodic.proofs.Among.{order-stands, none-found}
use Rattle.periodic.proofs.table.Table.place_state.Goals as goal

on-err : {X Y : Type 0} (r : Result X Y) (P : Type 0) → P → OnErr r P
on-err (Ok x) P p = tt
on-err (Err e) P p = p

pub returns-in_default-clause-value : goal.returns-in_default-clause-value
returns-in_default-clause-value c =
    let a = c.self.inside in
    let absent = none-found c.args.sid (flows_in a.groups.items)
    (rw c.deref.ensures.value at c.in_default.ensures.absent) in
    rw (← c.self.view_is, absent) refl

pub returns-in_err-starts-clause-memory : goal.returns-in_err-starts-clause-memory
returns-in_err-starts-clause-memory c =
    let a = c.self.inside in
    let flow = c.in-Some.flow.now in
    let among = rw c.deref.ensures.value at c.in-Some.ensures.among in
    let stands = order-stands flow among.0 (flows_in a.groups.items) among.1 c.args.sid c.in-Some.ensures.sid
    c.self.invariant.sound.ascending in
    on-err c.from_residual.result _ (rw (← c.self.view_is, stands.found) refl)

pub returns-clause-value : goal.returns-clause-value
returns-clause-value c =
    let a = c.self.inside in
    let flow = c.in-Some.flow.now in
    let among = rw c.deref.ensures.value at c.in-Some.ensures.among in
    let stands = order-stands flow among.0 (flows_in a.groups.items) among.1 c.args.sid c.in-Some.ensures.sid
    c.self.invariant.sound.ascending in
    let sound = c.in-Some.ensures.flow a.config (rw c.deref.ensures.value c.self.invariant.each) in
    let starts = c.from_vec.ensures ∙ c.in_ok-starts.ensures.items ∙ c.as_slice.ensures in
    rw (← c.self.view_is, stands.found, sound.times.phase, starts, c.from.ensures, c.frame.ensures.value) refl
