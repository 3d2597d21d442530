-- The Reserve at a place is that of the room.
use Rattle.std.proofs.Common.{◌≡◌, ◌<◌, ◌∙◌, ap, ℕ, List, take, length, get_or, slice_get, option_map, Some, arith}
use Rattle.std.proofs.lemmas.List.{get_or-take, length-take}
use Rattle.std.proofs.lemmas.Option.{slice_get-get_or}
use Rattle.sched_history.specs.declared.scheduler.reserves.Reserve.{Reserve}
use Rattle.sched_history.specs.ChannelState.{reserve_state}
use Rattle.sched_history.proofs.scheduler.reserves.Reserves.state_at.Goals as goal

at-place : (items : List Reserve) (count place : ℕ) (d : Reserve) → place < length (take count items)
    → option_map reserve_state (slice_get (take count items) place) ≡ Some (reserve_state (get_or items place d))
at-place items count place d within = ap (option_map reserve_state)
    (slice_get-get_or (take count items) place d within
    ∙ ap (λ (r : Reserve). Some r) (get_or-take count items place d (omega (arith, length-take count items))))

pub returns : goal.returns
returns c =
    let count = c.self.inside.count in
    let items = c.self.inside.items in
    let within : c.args.place < length (take count items) = rw (← c.self.view_is) at c.requires.within in
    rw (← c.self.view_is) (at-place items count c.args.place _ within)
