-- What a MAP meets by the fields is what it meets by what they stand for.
use Rattle.std.proofs.Common.{◌≡◌, ◌/◌, if◌then◌else◌, List, [], refl}
use Rattle.map_codec.specs.declared.element.Element.{Element}
use Rattle.periodic.specs.Placement.{due_in}
use Rattle.map_build.specs.Reading.{met_in}
use Rattle.sched_history.specs.declared.scheduler.state.State.{State}
use Rattle.sched_history.specs.Reserves.{waiting_in, met_beside}
use Rattle.sched_history.specs.Situation.{Situation, settles_in, spots_next}
use Rattle.sched_history.specs.State.{settles_next, IsStateAfter}
use Rattle.sched_history.proofs.settling.SettlesNext.{settles_next-after}

pub met_by-after : (s : State) (x : Situation) → IsStateAfter s x → (elements : List Element)
    → (if settles_next s then []
    else met_in s.table.config (due_in s.table.config (s.next / s.config.frame) s.table.placed) (waiting_in s.reserves)
    elements)
    ≡ met_beside s.config (settles_in s.config x) (spots_next s.config x) x.reserves elements
met_by-after s x is_after elements =
    rw (settles_next-after s x is_after, is_after.table_config, is_after.next, is_after.placed, is_after.reserves) refl
