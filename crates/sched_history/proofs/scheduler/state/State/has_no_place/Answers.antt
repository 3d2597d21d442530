-- There is no place for a periodic flow.
use Rattle.std.proofs.Common.{false, refl, ap, ◌∙◌, inr, arith}
use Rattle.periodic.specs.Placement.{Placed}
use Rattle.periodic.specs.Table.{TableView}
use Rattle.sched_history.specs.declared.scheduler.state.State.{State}
use Rattle.sched_calls.specs.declared.call.Call.TheVariants as calls
use Rattle.sched_calls.specs.declared.reply.Refusal.TheVariants.{NoPlace}
use Rattle.sched_calls.specs.declared.reply.Reply.TheVariants as replies
use Rattle.sched_history.proofs.situations.Quiet.{IsQuiet-refused}
use Rattle.sched_history.proofs.placements.Tables.{find-with_placed, table-undone}
use Rattle.sched_history.proofs.steps.Passed.{passed-admit}
use Rattle.sched_history.proofs.state.Present.{grants-placed_by, find-fresh, answers-periodic}
use Rattle.sched_history.proofs.state.Present.{no_placement-after}
use Rattle.sched_history.proofs.state.Moves.{IsStateAfter-quiet}
use Rattle.sched_history.proofs.scheduler.state.State.has_no_place.Goals as goal
use Rattle.sched_history.proofs.scheduler.state.State.has_no_place.Goals.{in-Ok, in-Err-Memory}

pub place-requires-clause-is_new : goal.place-requires-clause-is_new
place-requires-clause-is_new c =
    let s = c.args.self.now in
    let opens = c.requires.open.1 in
    let admits = passed-admit s.config c.requires.open.0 c.args.sid c.args.spec opens.unrefused in
    find-fresh s c.requires.open.0 c.args.sid opens.is_after admits.fresh opens.sound

pub place-requires-clause-room : goal.place-requires-clause-room
place-requires-clause-room c =
    let s = c.args.self.now in
    let opens = c.requires.open.1 in
    let admits = passed-admit s.config c.requires.open.0 c.args.sid c.args.spec opens.unrefused in
    omega (
      arith,
      grants-placed_by s c.requires.open.0 opens.is_after opens.sound.periodic,
      admits.few_grants c.requires.periodic,
      ap (λ k. k.periodic) opens.is_after.table_config,
    )

pub remove-requires : goal.remove-requires
remove-requires c =
    let p : Placed = record { sid = c.args.sid; spec = c.args.spec; placement = c.in-Ok.field-0; rests = false } in
    rw (c.in-Ok.ensures.placed) (find-with_placed p c.args.self.now.table.placed)

pub returns-clause-same : goal.returns-clause-same
returns-clause-same c =
    let old : State = c.args.self.now in
    let opens = c.requires.open.1 in
    let admits = passed-admit old.config c.requires.open.0 c.args.sid c.args.spec opens.unrefused in
    let fresh = find-fresh old c.requires.open.0 c.args.sid opens.is_after admits.fresh opens.sound in
    let put : TableView = c.place.new.self in
    elim c.match-place.branch [
      | in-Ok w ↦ (
          let p : Placed = record {
            sid = c.args.sid;
            spec = c.args.spec;
            placement = w.in-Ok.field-0;
            rests = false;
          } in
          w.self-is ∙ rw (w.remove.ensures)
          (ap (λ (t : TableView). record old { table = t })
          (table-undone old.table put p fresh w.in-Ok.ensures.config w.in-Ok.ensures.placed)))
      | in-Err-Memory w ↦ w.self-is ∙ rw (w.in-Err-Memory.ensures.err) (refl {a = old})
    ]

pub returns-in-Err-NoPlace-clause-follows : goal.returns-in-Err-NoPlace-clause-follows
returns-in-Err-NoPlace-clause-follows c = λ is x opens.
    let s = c.args.self.now in
    let none = (rw c.in-Err-NoPlace.field-0-is at c.in-Err-NoPlace.ensures).no_place.0 refl in
    rw (c.in-Err-NoPlace.ensures.err) (record {
      config = refl;
      answers = answers-periodic s.config x c.args.spec (replies.Refused NoPlace) c.requires.periodic
          (inr (no_placement-after s x c.args.spec opens.is_after none, refl));
      encodable = tt;
      is_after = IsStateAfter-quiet s x opens.is_after (calls.Admit c.args.sid c.args.spec)
          (replies.Refused NoPlace) (IsQuiet-refused s.config (calls.Admit c.args.sid c.args.spec) NoPlace);
    })
