-- Worked histories of headers: one is set for every MAP after it.
use Rattle.std.proofs.Common.{◌≡◌, [], ◌∷◌, refl, lit<}
use Rattle.sched_calls.proofs.Base.{base}
use Rattle.sched_calls.specs.declared.frame_map.FrameMap.{FrameMap}
use Rattle.sched_calls.specs.declared.opportunity.Header.{Header}
use Rattle.map_build.proofs.IdleFrame.{idle_map as map_of_idle, IsLawfulMap-idle}
use Rattle.sched_calls.specs.declared.call.Call.TheVariants as calls
use Rattle.sched_calls.specs.declared.reply.Refusal.TheVariants.{BadBackoff}
use Rattle.sched_calls.specs.declared.reply.Reply.TheVariants.{Noted, Built, Refused}
use Rattle.sched_calls.specs.declared.reply.Entry.{Entry}
use Rattle.sched_history.specs.Reserves.{header_after}
use Rattle.sched_history.specs.History.{IsStep}
use Rattle.sched_history.proofs.lives.LiveFlows.{flows_of-none, table_of-none}
use Rattle.sched_history.proofs.rows.NextMap.{IsNextMap-from_lawful}
use Rattle.sched_history.proofs.rows.TwoMaps.{entry, built}

-- a new count, and wider windows
abbrev header : Header
header = record { ucd_count = 7; ranging_start = 1; ranging_end = 5; data_start = 2; data_end = 15 }

abbrev set : Entry
set = entry 1 (calls.Header header) Noted

-- the MAPs after it have it
abbrev next : FrameMap
next = map_of_idle base header 840 800

the_next_map_has_it : IsStep base (built ∷ set ∷ []) (calls.Build 800) (Built next)
the_next_map_has_it = (
  next,
  IsNextMap-from_lawful base (built ∷ set ∷ []) [] [] next (flows_of-none base (built ∷ set ∷ []) (λ sid. refl))
      (table_of-none (built ∷ set ∷ []) (λ sid. refl)) refl (IsLawfulMap-idle base header 840 800 (lit< tt)),
  refl,
)

-- its payload has the count and the exponents
the_next_payload_has_it : (next.wire.ucd_count ≡ 7) × (next.wire.ranging_start ≡ 1) × (next.wire.ranging_end ≡ 5)
    × (next.wire.data_start ≡ 2) × (next.wire.data_end ≡ 15)
the_next_payload_has_it = (refl, refl, refl, refl, refl)

-- a window that is wider than any may be
abbrev wide : Header
wide = record { ucd_count = 8; ranging_start = 0; ranging_end = 16; data_start = 0; data_end = 0 }

-- a refused header sets nothing
pub a_refused_header_sets_nothing :
    header_after base (built ∷ set ∷ entry 2 (calls.Header wide) (Refused BadBackoff) ∷ []) ≡ header
a_refused_header_sets_nothing = refl

-- an exponent above 15 is refused
pub an_exponent_above_fifteen_is_refused :
    IsStep base [] (calls.Header (record wide { ranging_end = 0; data_end = 16 })) (Refused BadBackoff)
an_exponent_above_fifteen_is_refused = refl

-- the greatest count and exponents
abbrev greatest : Header
greatest = record { ucd_count = 255; ranging_start = 15; ranging_end = 15; data_start = 15; data_end = 15 }

-- every count and exponents up to 15 may be set
pub the_greatest_header_is_noted : IsStep base [] (calls.Header greatest) Noted
the_greatest_header_is_noted = refl
