-- A scheduler with one entry more.
use Rattle.std.proofs.Common.{◌≡◌, ℕ, ◌+◌, ◌<◌, ◌≤◌, true, false, nat_le, List, [], ◌∷◌, ◌++◌}
use Rattle.std.proofs.Common.{Option, None, Some, length, drop}
use Rattle.std.proofs.Common.{refl, sym, ap, ◌∙◌, subst, arith}
use Rattle.std.specs.Prelude.{vec_capacity}
use Rattle.std.proofs.lemmas.List.{length_push, drop-append-le}
use Rattle.std.proofs.lemmas.Option.{same_Some}
use Rattle.minislots.specs.declared.config.Config.{Config}
use Rattle.minislots.specs.declared.stamp.Stamp.{Stamp}
use Rattle.map_build.specs.declared.frame.PlannedFrame.{PlannedFrame}
use Rattle.sched_history.specs.declared.scheduler.Scheduler.TheInside.{Inside}
use Rattle.sched_calls.specs.declared.call.Call.{Call}
use Rattle.sched_calls.specs.declared.call.Call.TheVariants.{Build}
use Rattle.sched_calls.specs.declared.reply.TheConstants.{MAX_WHOLE_HISTORY}
use Rattle.sched_calls.specs.declared.reply.Reply.{Reply}
use Rattle.sched_calls.specs.declared.reply.Entry.{Entry}
use Rattle.sched_calls.specs.declared.reply.Reply.TheVariants.{Built}
use Rattle.sched_history.specs.Situation.{Situation, situation_of, after}
use Rattle.sched_history.specs.Refusal.{refusal_of}
use Rattle.sched_history.specs.History.{IsNextMap, IsStep, IsLegal}
use Rattle.sched_history.specs.Machine.{Machine, kept_of, is_full}
use Rattle.sched_calls.specs.Reply.{IsEncodable}
use Rattle.sched_history.specs.Planned.{PlannedBuild, IsPlanAfter}
use Rattle.sched_history.specs.State.{IsStateAfter, machine_of, IsSound, IsKeptOf, IsOpenTo, IsBuildAfter, IsFollowed}
use Rattle.sched_history.specs.State.{IsRecorded, RecordsWithCopy, build_of}
use Rattle.flow_book.proofs.Order.{all-push}
use Rattle.sched_history.proofs.steps.Passed.{above, neither}
use Rattle.sched_history.proofs.steps.Steps.{IsLegal-push, IsStep-answered}
use Rattle.sched_history.proofs.steps.Bounded.{IsBounded-legal}
use Rattle.sched_history.proofs.situations.Leaving.{situation_of-push}
use Rattle.sched_history.proofs.situations.Sound.{IsSoundIn-legal}

-- there is room for one entry more
pub room-kept : (m : Machine) → is_full m ≡ false → length (kept_of m) < m.config.calls
room-kept m room =
    above m.config.calls (length (kept_of m)) (neither (nat_le m.config.calls (length (kept_of m))) _ room).0

-- and the whole history may have one
pub room-whole : (m : Machine) → is_full m ≡ false → length m.history < MAX_WHOLE_HISTORY
room-whole m room =
    above MAX_WHOLE_HISTORY (length m.history) (neither (nat_le m.config.calls (length (kept_of m))) _ room).1

-- so the room for its entries has some left
pub room-reserved : (a : Inside) (m : Machine) → machine_of a ≡ m → IsSound a → is_full m ≡ false
    → length a.entries.items < vec_capacity a.entries
room-reserved a m is sound room =
    let below : length a.entries.items < a.state.config.calls =
    subst (λ h. length h < a.state.config.calls) sound.kept
    (room-kept (machine_of a) (subst (λ n. is_full n ≡ false) (sym is) room)) in
    omega (arith, below, sound.reserved)

-- and the ledger can count one more
pub room-ledger : (a : Inside) (m : Machine) → machine_of a ≡ m → is_full m ≡ false
    → length a.ledger < MAX_WHOLE_HISTORY
room-ledger a m is room = room-whole (machine_of a) (subst (λ n. is_full n ≡ false) (sym is) room)

-- the same configuration with the same history, of which as many entries were handed over
machine-same : (c d : Config) (h k : List Entry) (m n : ℕ) → c ≡ d → h ≡ k → m ≡ n
    → ◌≡◌ {A = Machine} (record { config = c; history = h; handed = m })
    (record { config = d; history = k; handed = n })
machine-same c d h k m n config history handed = rw (config, history, handed) refl

-- A scheduler with one entry more
module _ (a b : Inside) (e : Entry) (sound : IsSound a) (ledger : b.ledger ≡ a.ledger ++ e ∷ [])
    (items : b.entries.items ≡ a.entries.items ++ e ∷ []) where
  more : length b.ledger ≡ length a.ledger + 1
  more = ap length ledger ∙ length_push a.ledger e

  more-kept : length b.entries.items ≡ length a.entries.items + 1
  more-kept = ap length items ∙ length_push a.entries.items e

  few-push : length b.entries.items ≤ length b.ledger
  few-push = omega (arith, more, more-kept, sound.few)

  -- has handed over as many
  pub handed-push : (machine_of b).handed ≡ (machine_of a).handed
  handed-push = omega (arith, more, more-kept)

  -- has not handed over that one
  pub kept-more : (machine_of b).handed < length b.ledger
  kept-more = omega (arith, more, more-kept, few-push)

  -- and keeps it
  kept-push : kept_of (machine_of b) ≡ b.entries.items
  kept-push =
      ap (λ n. drop n b.ledger) handed-push
      ∙ ap (drop (machine_of a).handed) ledger
      ∙ drop-append-le (machine_of a).handed a.ledger (e ∷ []) (omega (arith, sound.few))
      ∙ ap (λ h. h ++ e ∷ []) sound.kept
      ∙ sym items

  -- is sound, where its fields stand for the history
  pub IsSound-push : vec_capacity b.entries ≡ vec_capacity a.entries → b.state.config ≡ a.state.config
      → is_full (machine_of a) ≡ false → IsStep a.state.config a.ledger e.call e.reply → IsEncodable e.reply
      → IsStateAfter b.state (after a.state.config (situation_of a.state.config a.ledger) e.call e.reply) → IsSound b
  IsSound-push capacity config room step encodable left =
      let legal : IsLegal a.state.config (a.ledger ++ e ∷ []) =
      IsLegal-push a.state.config a.ledger e sound.legal step in
      let below : length a.entries.items < a.state.config.calls =
      subst (λ h. length h < a.state.config.calls) sound.kept (room-kept (machine_of a) room) in
      let is_after : IsStateAfter b.state (situation_of a.state.config (a.ledger ++ e ∷ [])) =
      subst (IsStateAfter b.state) (sym (situation_of-push a.state.config a.ledger e step)) left in
      record {
        is_after = subst (λ c. IsStateAfter b.state (situation_of c b.ledger)) (sym config)
            (subst (λ h. IsStateAfter b.state (situation_of a.state.config h)) (sym ledger) is_after);
        bounded = rw (ledger, is_after.flows, is_after.next, config)
            (IsBounded-legal a.state.config (a.ledger ++ e ∷ []) sound.is_after.lawful legal);
        legal = rw (config, ledger) legal;
        encodable = rw ledger (all-push (λ x. IsEncodable x.reply) a.ledger e sound.encodable encodable);
        few = few-push;
        kept = kept-push;
        within = rw config (omega (arith, more-kept, below));
        reserved = rw (config, capacity) sound.reserved;
      }

-- what is kept is that of the history
pub IsKeptOf-inside : (a : Inside) → IsSound a → IsKeptOf a.state a.ledger
IsKeptOf-inside a sound = record { is_after = sound.is_after; bounded = sound.bounded; legal = sound.legal }

-- a stamp
first_stamp : Stamp
first_stamp = record { seat = 0; ticket = 0 }

-- a lawful build that no test refuses is a step
step-planned : (m : Machine) (p : PlannedBuild) → refusal_of m.config m.history (Build p.clock) ≡ None
    → IsNextMap m.config m.history p.map → IsStep m.config m.history (Build p.clock) (Built p.map)
step-planned m p unrefused lawful =
    IsStep-answered m.config m.history (Build p.clock) (Built p.map) unrefused (p.map, lawful, refl)

-- a planned build may follow
pub IsBuildAfter-planned : (m : Machine) (p : PlannedBuild) → IsPlanAfter m p
    → IsBuildAfter m.config (situation_of m.config m.history) p
IsBuildAfter-planned m p fits =
    let e : Entry = record { stamp = first_stamp; call = Build p.clock; reply = Built p.map } in
    let left = situation_of-push m.config m.history e (step-planned m p fits.unrefused fits.lawful) in
    record {
      lawful = fits.lawful;
      encodable = fits.encodable;
      config = fits.config;
      before = fits.before;
      flows = fits.flows first_stamp ∙ ap (λ (x : Situation). x.flows) left;
      reserves = fits.reserves first_stamp ∙ ap (λ (x : Situation). x.reserves) left;
    }

-- and is planned, where there is room and no test refuses it
pub IsPlanAfter-build : (m : Machine) (p : PlannedBuild) → is_full m ≡ false
    → refusal_of m.config m.history (Build p.clock) ≡ None
    → IsBuildAfter m.config (situation_of m.config m.history) p → IsPlanAfter m p
IsPlanAfter-build m p room unrefused fits =
    let left : (stamp : Stamp)
    → situation_of m.config (m.history ++ record { stamp = stamp; call = Build p.clock; reply = Built p.map } ∷ [])
    ≡ after m.config (situation_of m.config m.history) (Build p.clock) (Built p.map) =
    λ stamp. situation_of-push m.config m.history (record { stamp = stamp; call = Build p.clock; reply = Built p.map })
    (step-planned m p unrefused fits.lawful) in
    record {
      room = room;
      unrefused = unrefused;
      lawful = fits.lawful;
      encodable = fits.encodable;
      config = fits.config;
      before = fits.before;
      flows = λ stamp. fits.flows ∙ sym (ap (λ (x : Situation). x.flows) (left stamp));
      reserves = λ stamp. fits.reserves ∙ sym (ap (λ (x : Situation). x.reserves) (left stamp));
    }

-- a call that no test refuses is open
pub IsOpenTo-inside : (a : Inside) (m : Machine) → machine_of a ≡ m → (call : Call) → IsSound a
    → is_full m ≡ false → refusal_of m.config m.history call ≡ None
    → IsOpenTo a.state call (situation_of a.state.config a.ledger)
IsOpenTo-inside a m is call sound room none = record {
  is_after = sound.is_after;
  sound = IsSoundIn-legal a.state.config a.ledger sound.is_after.lawful sound.legal;
  short = room-ledger a m is room;
  unrefused = subst (λ n. refusal_of n.config n.history call ≡ None) (sym is) none;
}

-- A scheduler in which a call is entered with its reply
module _ (a b : Inside) (stamp : Stamp) (call : Call) (reply : Reply) (sound : IsSound a)
    (counted : b.ledger ≡ a.ledger ++ record { stamp = stamp; call = call; reply = reply } ∷ [])
    (entered : b.entries.items ≡ a.entries.items ++ record { stamp = stamp; call = call; reply = reply } ∷ []) where
  abbrev told : Entry
  told = record { stamp = stamp; call = call; reply = reply }

  -- has recorded it, where it is a step
  pub IsRecorded-step : (m : Machine) → machine_of a ≡ m → b.state.config ≡ a.state.config
      → IsStep a.state.config a.ledger call reply → IsEncodable reply
      → IsRecorded m (machine_of b) stamp call reply
  IsRecorded-step m is config step encodable =
      subst (λ n. IsRecorded n (machine_of b) stamp call reply) is (record {
        entered = machine-same b.state.config a.state.config b.ledger _ _ _ config counted
            (handed-push a b told sound counted entered);
        step = step;
        encodable = encodable;
        kept = kept-more a b told sound counted entered;
      })

  -- So it is with the answer to an open call
  module _ (opens : IsOpenTo a.state call (situation_of a.state.config a.ledger))
      (answered : IsFollowed a.state b.state call reply (situation_of a.state.config a.ledger)) where
    step-is : IsStep a.state.config a.ledger call reply
    step-is = IsStep-answered a.state.config a.ledger call reply opens.unrefused answered.answers

    pub IsRecorded-answered : (m : Machine) → machine_of a ≡ m → IsRecorded m (machine_of b) stamp call reply
    IsRecorded-answered m is = IsRecorded-step m is answered.config step-is answered.encodable

    -- and it is sound, where there was room
    pub IsSound-answered : vec_capacity b.entries ≡ vec_capacity a.entries → is_full (machine_of a) ≡ false → IsSound b
    IsSound-answered capacity room =
        IsSound-push a b told sound counted entered capacity answered.config room step-is answered.encodable
        answered.is_after

-- A scheduler in which a planned build is entered
module _ (a b : Inside) (m : Machine) (is : machine_of a ≡ m) (stamp : Stamp) (now : ℕ) (frame : PlannedFrame)
    (reply : Reply) (sound : IsSound a) (fits : IsPlanAfter m (build_of now frame))
    (answered : (n : ℕ) (x : Situation) → IsOpenTo a.state (Build n) x
    → IsBuildAfter a.state.config x (build_of n frame) → IsFollowed a.state b.state (Build n) reply x)
    (counted : b.ledger ≡ a.ledger ++ record { stamp = stamp; call = Build now; reply = reply } ∷ [])
    (entered : b.entries.items
    ≡ a.entries.items ++ record { stamp = stamp; call = Build now; reply = reply } ∷ []) where
  pub opens-planned : IsOpenTo a.state (Build now) (situation_of a.state.config a.ledger)
  opens-planned = IsOpenTo-inside a m is (Build now) sound fits.room fits.unrefused

  answers-planned : IsFollowed a.state b.state (Build now) reply (situation_of a.state.config a.ledger)
  answers-planned =
      answered now (situation_of a.state.config a.ledger) opens-planned
      (subst (λ n. IsBuildAfter n.config (situation_of n.config n.history) (build_of now frame)) (sym is)
      (IsBuildAfter-planned m (build_of now frame) fits))

  -- is sound
  pub IsSound-planned : vec_capacity b.entries ≡ vec_capacity a.entries → IsSound b
  IsSound-planned capacity =
      IsSound-answered a b stamp (Build now) reply sound counted entered opens-planned answers-planned capacity
      (subst (λ n. is_full n ≡ false) (sym is) fits.room)

  -- and has recorded it
  pub IsRecorded-planned : IsRecorded m (machine_of b) stamp (Build now) reply
  IsRecorded-planned =
      IsRecorded-answered a b stamp (Build now) reply sound counted entered opens-planned answers-planned m is

-- a recorded call keeps the history legal
pub IsLegal-recorded : (old new : Machine) (stamp : Stamp) (call : Call) (reply : Reply)
    → IsLegal old.config old.history
    → IsRecorded old new stamp call reply → IsLegal new.config new.history
IsLegal-recorded old new stamp call reply legal recorded =
    rw (recorded.entered)
    (IsLegal-push old.config old.history (record { stamp = stamp; call = call; reply = reply }) legal recorded.step)

-- the entry of a recorded call is the last of those that are kept
pub kept-newest : (a : Inside) (old new : Machine) (stamp : Stamp) (call : Call) (reply : Reply)
    → machine_of a ≡ new → IsSound a → IsRecorded old new stamp call reply
    → a.entries.items ≡ kept_of old ++ record { stamp = stamp; call = call; reply = reply } ∷ []
kept-newest a old new stamp call reply is sound recorded =
    let e : Entry = record { stamp = stamp; call = call; reply = reply } in
    let handed : new.handed ≡ old.handed = ap (λ (m : Machine). m.handed) recorded.entered in
    let more : length new.history ≡ length old.history + 1 =
    ap (λ (m : Machine). length m.history) recorded.entered ∙ length_push old.history e in
    sym sound.kept ∙ ap kept_of is ∙ ap kept_of recorded.entered
    ∙ drop-append-le old.handed old.history (e ∷ []) (omega (arith, handed, more, recorded.kept))

-- a call was recorded with the reply that is handed out
pub IsRecorded-copy : (old new : Machine) (stamp : Stamp) (call : Call) (copy : Option Reply) (reply : Reply)
    → RecordsWithCopy old new stamp call true copy → copy ≡ Some reply → IsRecorded old new stamp call reply
IsRecorded-copy old new stamp call copy reply recorded is =
    subst (IsRecorded old new stamp call) (same_Some recorded.0 reply (sym (recorded.2 refl) ∙ is)) recorded.1
