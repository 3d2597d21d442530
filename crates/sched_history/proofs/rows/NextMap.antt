-- The lawful MAP of the next frame, from what is live.
use Rattle.std.proofs.Common.{◌≡◌, ℕ, ◌/◌, ◌<◌, false, List, [], None}
use Rattle.minislots.specs.declared.config.Config.{Config}
use Rattle.flow_book.specs.Flows.{LiveFlow}
use Rattle.periodic.specs.Placement.{Placed, due_in}
use Rattle.sched_calls.specs.declared.frame_map.FrameMap.{FrameMap}
use Rattle.sched_calls.specs.Header.{header_of}
use Rattle.map_build.specs.Plan.{Demand, demand_at}
use Rattle.map_build.specs.FrameMap.{IsLawfulMap}
use Rattle.map_build.proofs.IdleFrame.{idle_map as map_of_idle, IsLawfulMap-idle}
use Rattle.sched_calls.specs.declared.reply.Entry.{Entry}
use Rattle.sched_history.specs.Life.{life_of, flows_of, table_of}
use Rattle.sched_history.specs.Time.{next_after, ack_after}
use Rattle.sched_history.specs.declared.scheduler.reserves.Reserve.{Reserve}
use Rattle.sched_history.specs.Headers.{header_after}
use Rattle.sched_history.specs.Settling.{settles_after}
use Rattle.sched_history.specs.Reserves.{reserves_of, waiting_in}
use Rattle.sched_history.specs.Ranging.{reserved_in}
use Rattle.sched_history.specs.History.{IsNextMap}
use Rattle.sched_history.proofs.lives.LiveFlows.{flows_of-none, table_of-none}
use Rattle.sched_history.proofs.reserves.Idle.{reserves_of-none}

-- what the next frame has to serve, with these flows, placements and Reserves
abbrev pub demand_with : Config → List Entry → List LiveFlow → List Placed → List Reserve → Demand
demand_with c h flows table rs = record (demand_at flows (due_in c (next_after c h / c.frame) table) (waiting_in rs)
    (next_after c h)) { settles = settles_after c h }

-- a MAP that is lawful for the flows, placements and Reserves that there are is that of the next frame
pub IsNextMap-reserved : (c : Config) (h : List Entry) (flows : List LiveFlow) (table : List Placed) (rs : List Reserve)
    (m : FrameMap) → flows_of c h ≡ flows → table_of h ≡ table → reserves_of c h ≡ rs
    → IsLawfulMap c (demand_with c h flows table rs) (header_after c h) (ack_after c h) m
    → IsNextMap c h m
IsNextMap-reserved c h flows table rs m live placed reserved lawful = rw (live, placed, reserved) lawful

-- so is one that is lawful for the flows and placements, where nothing was reserved
pub IsNextMap-from_lawful : (c : Config) (h : List Entry) (flows : List LiveFlow) (table : List Placed) (m : FrameMap)
    → flows_of c h ≡ flows → table_of h ≡ table → reserved_in h ≡ []
    → IsLawfulMap c (demand_with c h flows table []) (header_after c h) (ack_after c h) m
    → IsNextMap c h m
IsNextMap-from_lawful c h flows table m live placed none lawful =
    IsNextMap-reserved c h flows table [] m live placed (reserves_of-none c h none) lawful

-- the MAP of the next frame is lawful for the flows and placements that are live
pub lawful-from_IsNextMap : (c : Config) (h : List Entry) (flows : List LiveFlow) (table : List Placed) (m : FrameMap)
    → flows_of c h ≡ flows → table_of h ≡ table → reserved_in h ≡ [] → IsNextMap c h m
    → IsLawfulMap c (demand_with c h flows table []) (header_after c h) (ack_after c h) m
lawful-from_IsNextMap c h flows table m live placed none next =
    rw (live, placed, reserves_of-none c h none) at next

-- the MAP of a frame that is idle behind its request region, with the configuration's header
abbrev pub idle_map : Config → ℕ → ℕ → FrameMap
idle_map c start ack = map_of_idle c (header_of c) start ack

-- where no SID has a life, no Reserve is left and no header was set the next frame is idle, if its MAP does not settle
pub IsNextMap-unreserved : (c : Config) (h : List Entry) → c.req_slots < c.frame → ((sid : ℕ) → life_of sid h ≡ None)
    → reserves_of c h ≡ [] → header_after c h ≡ header_of c → settles_after c h ≡ false
    → IsNextMap c h (idle_map c (next_after c h) (ack_after c h))
IsNextMap-unreserved c h room none unreserved unset lasts =
    IsNextMap-reserved c h [] [] [] (idle_map c (next_after c h) (ack_after c h)) (flows_of-none c h none)
    (table_of-none h none) unreserved
    (rw (lasts, unset) (IsLawfulMap-idle c (header_of c) (next_after c h) (ack_after c h) room))

-- so too where nothing was reserved
pub IsNextMap-idle : (c : Config) (h : List Entry) → c.req_slots < c.frame → ((sid : ℕ) → life_of sid h ≡ None)
    → reserved_in h ≡ [] → header_after c h ≡ header_of c → settles_after c h ≡ false
    → IsNextMap c h (idle_map c (next_after c h) (ack_after c h))
IsNextMap-idle c h room none unasked unset lasts =
    IsNextMap-unreserved c h room none (reserves_of-none c h unasked) unset lasts
