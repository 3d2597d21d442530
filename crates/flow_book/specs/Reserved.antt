-- The minimum reserved rate of a flow: as long as what it waits for keeps that rate and its burst, the flow is served
-- with the polled ones.
use Rattle.std.specs.Prelude.{ℕ, ◌+◌, ◌*◌, min, Bool, ◌&&◌, nat_le, nat_lt, List, [], ◌∷◌, ◌++◌, if◌then◌else◌}
use Rattle.minislots.specs.declared.config.Config.{Config}
use Rattle.sched_calls.specs.FlowSpec.{rank_of, reserved_of, reserved_burst_of}
use Rattle.flow_book.specs.declared.flow.Grant.{Grant}
use Rattle.flow_book.specs.Flows.{LiveFlow, Charge, charge_of, tokens_of, outstanding}

-- whether one charge more keeps a rate above 0 and a burst behind charges that keep them: each window of charges that
-- ends with it takes at most the burst and what the rate brings from the window's first start to its own
abbrev pub is_within : Config → ℕ → ℕ → Charge → List Charge → Bool
is_within c rate burst g [] = nat_le g.tokens (1280000 * burst)
is_within c rate burst g (h ∷ charges) =
    nat_le (tokens_of (h ∷ charges) + g.tokens + h.start * c.ticks * rate)
    (g.start * c.ticks * rate + 1280000 * burst) && is_within c rate burst g charges

-- the bytes that a flow wants at least: the quantum, or all that it waits for where they are fewer
abbrev pub wanted_of : Config → LiveFlow → ℕ
wanted_of c f = min (outstanding f) c.quantum

-- what a flow would charge at a minislot with the bytes that it wants at least
abbrev pub wanted_charge : Config → ℕ → LiveFlow → Charge
wanted_charge c start f = charge_of (record { start = start; bytes = wanted_of c f })

-- whether a flow that may be served at a minislot is under its reservation there: the bytes that it wants at least keep
-- the reserved rate and its burst behind what is charged to its reservation
abbrev pub is_under : Config → ℕ → LiveFlow → Bool
is_under c start f = nat_lt 0 (reserved_of f.spec) && is_within c (reserved_of f.spec) (reserved_burst_of f.spec)
    (wanted_charge c start f) f.reserved

-- whether a flow waits for bytes at a minislot and its reservation has room for what it wants at least, whether or not
-- its ceilings and the room let it be served
abbrev pub waits_under : Config → ℕ → LiveFlow → Bool
waits_under c start f = nat_lt 0 (outstanding f) && is_under c start f

-- the rank of a flow at a minislot: under its reservation that of a polled flow
abbrev pub rank_at : Config → ℕ → LiveFlow → ℕ
rank_at c start f = if is_under c start f then 8 else rank_of f.spec

-- a flow with one grant more, which is charged to both ceilings, and to the reservation where the flow is under that at
-- the grant's start
abbrev pub with_grant : Config → Grant → LiveFlow → LiveFlow
with_grant c g f = record f {
  grants = f.grants ++ g ∷ [];
  sustained = f.sustained ++ charge_of g ∷ [];
  peak = f.peak ++ charge_of g ∷ [];
  reserved = if is_under c g.start f then f.reserved ++ charge_of g ∷ [] else f.reserved;
}
