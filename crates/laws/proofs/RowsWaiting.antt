-- The law of requests that wait refuses something: a MAP in which one is lost, and its flow has no pending grant.
use Rattle.std.proofs.Common.{◌≡◌, [], ◌∷◌, refl, ap, length, length-append, arith}
use Rattle.minislots.specs.declared.config.Config.{Config}
use Rattle.minislots.specs.declared.stamp.Stamp.{Stamp}
use Rattle.map_build.specs.FrameMap.{null_element}
use Rattle.sched_calls.specs.declared.amount.Amount.TheVariants.{Bytes}
use Rattle.sched_calls.specs.declared.call.Call.TheVariants as calls
use Rattle.sched_calls.specs.declared.frame_map.FrameMap.{FrameMap}
use Rattle.sched_calls.specs.declared.reply.Entry.{Entry}
use Rattle.sched_calls.specs.declared.reply.Reply.TheVariants as replies
use Rattle.sched_history.specs.Life.{Admission}
use Rattle.laws.specs.Waiting.{ShowsRequests}

-- a request of flow 5 for 100 bytes that was heard at 30
abbrev asked : Stamp → Entry
asked stamp = record { stamp = stamp; call = calls.Ask 0 5 (Bytes 100) 30; reply = replies.Taken }

-- with the acknowledge time 31 a MAP of one element loses it
lost : (c : Config) (stamp : Stamp) (admission : Admission) (m : FrameMap) → m.ack ≡ 31
    → ShowsRequests c m 5 (record { admission = admission; since = asked stamp ∷ [] }) → length m.wire.elements ≡ 1 → ⊥
lost c stamp admission m ack shows few =
    let has = shows.0 refl (omega arith) refl (omega (arith, ack)) in
    let long = ap length has.whole in
    omega (arith, few, long, length-append has.front (null_element c ∷ has.behind), has.pending.1)
