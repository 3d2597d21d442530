-- What the scheduler recorded, at the desk.
use Rattle.std.proofs.Common.{◌≡◌, ◌≤◌, ◌<◌, ◌+◌, ℕ, true, false, true≢false, nat_le, [], ◌∷◌, ◌++◌, length, Result, Ok}
use Rattle.std.proofs.Common.{Err, IfOk, OnErr, ◌↔◌}
use Rattle.std.proofs.Common.{IsErrOf, sym, ap, ◌∙◌, subst, length-append, arith}
use Rattle.minislots.specs.declared.stamp.Stamp.{Stamp}
use Rattle.sched_calls.specs.declared.frame_map.FrameMap.{FrameMap}
use Rattle.map_codec.specs.WireMap.{spelling}
use Rattle.map_snapshot.specs.Maps.{Printing}
use Rattle.sched_calls.specs.declared.call.Call.{Call}
use Rattle.sched_calls.specs.declared.reply.Reply.{Reply}
use Rattle.sched_calls.specs.declared.reply.Reply.TheVariants.{Built}
use Rattle.sched_calls.specs.declared.reply.Unrecorded.{Unrecorded}
use Rattle.sched_calls.specs.declared.reply.Unrecorded.TheVariants.{HistoryFull, Memory}
use Rattle.sched_history.specs.History.{IsStep, IsLegal}
use Rattle.sched_history.specs.Machine.{Machine, is_full, MayLackMemory}
use Rattle.sched_calls.specs.Reply.{IsEncodable}
use Rattle.sched_history.proofs.state.Whole.{full-whole-history, room-whole-history}
use Rattle.sched_desk.specs.declared.event.Event.TheVariants.{Recorded}
use Rattle.sched_desk.specs.Build.{ShowsPlan, BuildsNoMap}
use Rattle.sched_desk.specs.Calls.{grown, HasAnswered, HasCalled}
use Rattle.sched_desk.specs.Desk.{DeskState, Recording, Docketed, Agrees, desk_of, ShowsHistory, published, machine_of}
use Rattle.sched_desk.specs.Events.{history_in, handed_in, machine_in}
use Rattle.sched_desk.proofs.Events.{machine_in-recorded}
use Rattle.sched_desk.proofs.Published.{published-built, published-same}

-- a reply is no fault
no_fault : (reply : Reply) (fault : Unrecorded) → IsErrOf {T = Reply} {E = Unrecorded} (Ok reply) fault → ⊥
no_fault reply fault is = cc

module _ (m : Machine) (stamp : Stamp) (call : Call) where
  -- what the scheduler tells of a call
  pub answered : (x : Machine) (answer : Result Reply Unrecorded) → IfOk answer (λ reply. x ≡ grown m stamp call reply)
      → OnErr answer (x ≡ m) → IfOk answer (λ reply. IsStep m.config m.history call reply) → IfOk answer IsEncodable
      → (IsErrOf answer HistoryFull ↔ (is_full m ≡ true))
      → (m.handed ≡ 0 → is_full m ≡ nat_le m.config.calls (length m.history))
      → (IsErrOf answer Memory → MayLackMemory m.config m.history call) → IsLegal x.config x.history
      → HasAnswered m stamp call x answer
  answered x answer recorded same step encodable full whole memory legal = record {
    recorded = recorded;
    same = same;
    step = step;
    encodable = encodable;
    full = full;
    whole = λ none. full-whole-history m answer HistoryFull (whole none) full;
    memory = memory;
    legal = legal;
  }

  -- what it tells of a build that was planned: there was room
  pub committed : (x : Machine) (reply : Reply) → is_full m ≡ false → x ≡ grown m stamp call reply
      → IsStep m.config m.history call reply → IsEncodable reply → IsLegal x.config x.history
      → HasAnswered m stamp call x (Ok reply)
  committed x reply room recorded step encodable legal = record {
    recorded = recorded;
    same = tt;
    step = step;
    encodable = encodable;
    full = (
      (λ is. absurd (no_fault reply HistoryFull is)),
      (λ is. absurd (true≢false (sym is ∙ room))),
    );
    whole = λ none. (
      (λ is. absurd (no_fault reply HistoryFull is)),
      (λ most. absurd (let few = room-whole-history m none room in omega (arith, most, few))),
    );
    memory = λ is. absurd (no_fault reply Memory is);
    legal = legal;
  }

  module _ (p : Printing) where
    -- a call that builds no MAP publishes nothing
    pub shows-same : (maps : ℕ) (x : Machine) (answer : Result Reply Unrecorded) → ShowsHistory m p maps
        → BuildsNoMap m.config m.history call → IfOk answer (λ reply. x ≡ grown m stamp call reply)
        → OnErr answer (x ≡ m) → IfOk answer (λ reply. IsStep m.config m.history call reply) → ShowsHistory x p maps
    shows-same maps x (Ok reply) shows plain recorded same step =
        let still : published (grown m stamp call reply).history ≡ published m.history =
        published-same m.history (record { stamp = stamp; call = call; reply = reply }) (plain reply step) in
        subst (λ y. ShowsHistory y p maps) (sym recorded) (record {
          shown = shows.shown ∙ sym still;
          settled = shows.settled;
          count = shows.count ∙ ap length (sym still);
        })
    shows-same maps x (Err unrecorded) shows plain recorded same step =
        subst (λ y. ShowsHistory y p maps) (sym same) shows

    -- a build publishes its MAP
    pub shows-built : (maps : ℕ) (f : FrameMap) (x : Machine) (reply : Reply)
        → ShowsPlan m p maps (spelling f.wire) → reply ≡ Built f → x ≡ grown m stamp call reply
        → ShowsHistory x p (maps + 1)
    shows-built maps f x reply plan built recorded =
        let more : published (grown m stamp call reply).history ≡ published m.history ++ spelling f.wire ∷ [] =
        published-built m.history (record { stamp = stamp; call = call; reply = reply }) f built in
        subst (λ y. ShowsHistory y p (maps + 1)) (sym recorded) (record {
          shown = plan.shown ∙ sym more;
          settled = plan.settled;
          count = ap (λ n. n + 1) plan.count ∙ sym (length-append (published m.history) (spelling f.wire ∷ []))
              ∙ ap length (sym more);
        })
