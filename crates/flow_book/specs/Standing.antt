-- How a flow that waits for bytes stands to its rates.
use Rattle.std.specs.Prelude.{ℕ, Bool, not, ◌&&◌, ◌||◌, ◌==◌, nat_lt, List}
use Rattle.minislots.specs.declared.config.Config.{Config}
use Rattle.sched_calls.specs.FlowSpec.{rate_of, burst_of, peak_of}
use Rattle.sched_calls.specs.declared.spec.TheConstants.{PEAK_BURST}
use Rattle.flow_book.specs.declared.standing.Standing.{Standing}
use Rattle.flow_book.specs.declared.standing.Standing.TheVariants.{UnderReservation, AtCeiling}
use Rattle.flow_book.specs.Flows.{LiveFlow, Charge, outstanding}
use Rattle.flow_book.specs.Reserved.{is_within, wanted_charge, waits_under}

-- whether one charge more keeps a ceiling and its burst behind charges that keep them: a rate of 0 is no ceiling
abbrev pub has_room_for : Config → ℕ → ℕ → Charge → List Charge → Bool
has_room_for c rate burst g charges = rate == 0 || is_within c rate burst g charges

-- whether both ceilings of a flow have room at a minislot for what it wants at least, behind what is charged to them
abbrev pub has_room : Config → ℕ → LiveFlow → Bool
has_room c start f =
    has_room_for c (rate_of f.spec) (burst_of f.spec) (wanted_charge c start f) f.sustained
    && has_room_for c (peak_of f.spec) PEAK_BURST (wanted_charge c start f) f.peak

-- whether a flow waits for bytes at a minislot, and a ceiling of it has no room for what it wants at least
abbrev pub waits_held : Config → ℕ → LiveFlow → Bool
waits_held c start f = nat_lt 0 (outstanding f) && not (has_room c start f)

-- whether a flow waits for bytes at a minislot and stands so
abbrev pub waits_so : Standing → Config → ℕ → LiveFlow → Bool
waits_so UnderReservation c start f = waits_under c start f
waits_so AtCeiling c start f = waits_held c start f
