-- What holds of the acknowledge time and the pending grants of each MAP of a legal history.
use Rattle.std.proofs.Common.{◌≡◌, ℕ, ◌<◌, ◌≤◌, ◌==◌, true, List, [], ◌∷◌, ◌++◌}
use Rattle.std.proofs.Common.{Contains, Some, ap, ◌∙◌, subst, append-nil, append_assoc}
use Rattle.std.proofs.Common.{arith}
use Rattle.std.specs.List.{AllByRecursion, count_by}
use Rattle.std.specs.Option.{option_map}
use Rattle.std.proofs.lemmas.Bool.Decides.{nat_tests}
use Rattle.minislots.specs.declared.config.Config.{Config}
use Rattle.flow_book.specs.Flows.{LiveFlow, granted, flow_of}
use Rattle.flow_book.specs.Shown.{waits, since}
use Rattle.flow_book.proofs.Order.{all-push}
use Rattle.flow_book.proofs.InLine.{ack-most}
use Rattle.sched_calls.specs.declared.frame_map.FrameMap.{FrameMap}
use Rattle.map_build.specs.EachAfter.{EachAfter}
use Rattle.map_build.proofs.EachAfterLaws.{EachAfter-push}
use Rattle.map_build.proofs.Standings.{found-in}
use Rattle.sched_calls.specs.declared.call.Call.{Call}
use Rattle.sched_calls.specs.declared.call.Call.TheVariants as calls
use Rattle.sched_calls.specs.declared.reply.Reply.{Reply}
use Rattle.sched_calls.specs.declared.reply.Reply.TheVariants as replies
use Rattle.sched_calls.specs.declared.reply.Entry.{Entry}
use Rattle.sched_history.specs.Life.{Life, life_of, asked_in}
use Rattle.sched_history.specs.Life.{batches_in, flow_in_life, flows_of}
use Rattle.sched_history.specs.Time.{ack_after}
use Rattle.sched_history.specs.History.{IsNextMap, map_by, IsStep, IsLegal}
use Rattle.sched_history.specs.Facts.{maps_of, IsHeardAfter}
use Rattle.sched_history.proofs.steps.LegalHistories.{Builds, Skips, Stays, change_by_step}
use Rattle.sched_history.proofs.steps.LegalHistories.{legal_induction, IsNextMap-from_step}
use Rattle.sched_history.proofs.time.AckTimes.{maps_acked, heard_after}
use Rattle.sched_history.proofs.time.NextFrames.{maps_of-built, maps_of-unbuilt}
use Rattle.sched_history.proofs.lives.Finding.{good_sid, flow_of-flows_of}
use Rattle.laws.specs.Waiting.{HoldsWhereHeard, IsUnreplaced, HasPending, ShowsRequests, IsEveryWait}
use Rattle.laws.proofs.Since.{IsIn, since-in}
use Rattle.laws.proofs.WaitingLives.{HasBatches, heard-implied, each-implied, have_batches}
use Rattle.laws.proofs.HeldBack.{late, late-is}
use Rattle.laws.proofs.HeldBackMaps.{ack-built, few-built, whole-progress, falls-not, shows}
use Rattle.laws.proofs.LateFlows.{IsHeardFrom, no_more_late}

-- what holds of each member with those before it, and of the last
each-parts : {X : Type 0} (P : List X → X → Type 0) (before xs : List X) (x : X) → EachAfter P before (xs ++ x ∷ [])
    → EachAfter P before xs × P (before ++ xs) x
each-parts P before [] x each = (tt, rw append-nil each.0)
each-parts P before (y ∷ xs) x each =
    let rest = each-parts P (before ++ y ∷ []) xs x each.1 in
    ((each.0, rest.0), rw append_assoc at rest.1)

-- few flows wait since before the acknowledge time of each earlier MAP
abbrev FewLate : Config → List Entry → List FrameMap → Type 0
FewLate c h maps = AllByRecursion (λ m. count_by (late m.ack) (flows_of c h) ≤ c.pending) maps

heard-parts : (m : FrameMap) (maps : List FrameMap) (call : Call) (reply : Reply) → IsHeardAfter (m ∷ maps) call reply
    → IsHeardFrom m.ack call reply × IsHeardAfter maps call reply
heard-parts m maps (calls.Ask receiver sid amount heard) replies.Taken is = is
heard-parts m maps (calls.Replace receiver sid amount heard) replies.Taken is = is
heard-parts m maps call reply is = (tt, tt)

module _ (c : Config) where
  still-few : (h : List Entry) (e : Entry) → IsLegal c h → (maps : List FrameMap) → IsHeardAfter maps e.call e.reply
      → FewLate c h maps → FewLate c (h ++ e ∷ []) maps
  still-few h e legal [] heard few = tt
  still-few h e legal (m ∷ maps) heard few =
      let parts = heard-parts m maps e.call e.reply heard in (
        omega (arith, few.0, no_more_late c m.ack h e (have_batches c h legal) parts.0),
        still-few h e legal maps parts.1 few.1,
      )

  -- so it is after one entry more
  kept-few : (h : List Entry) (e : Entry) → IsLegal c h → IsStep c h e.call e.reply → FewLate c h (maps_of h)
      → FewLate c (h ++ e ∷ []) (maps_of h)
  kept-few h e legal step few =
      let whole : IsLegal c (h ++ e ∷ []) = EachAfter-push (λ b x. IsStep c b x.call x.reply) [] h e legal step in
      let heard = (each-parts (λ b x. IsHeardAfter (maps_of b) x.call x.reply) [] h e
      (heard_after c (h ++ e ∷ []) whole)).1 in
      still-few h e legal (maps_of h) heard few

  more-few : (h : List Entry) (e : Entry) → IsLegal c h → IsStep c h e.call e.reply → FewLate c h (maps_of h)
      → FewLate c (h ++ e ∷ []) (maps_of (h ++ e ∷ []))
  more-few h e legal step few =
      let kept = kept-few h e legal step few in
      elim (change_by_step c h e.call e.reply step) [
        | Builds m next same ↦ rw (maps_of-built h e m same)
            (all-push (λ (m : FrameMap). count_by (late m.ack) (flows_of c (h ++ e ∷ [])) ≤ c.pending) (maps_of h) m
            kept (few-built c h e m same next))
        | Skips now start is first same ↦ rw (maps_of-unbuilt h e (ap map_by same)) kept
        | Stays still ↦ rw (maps_of-unbuilt h e still.0) kept
      ]

  few_late : (h : List Entry) → IsLegal c h → FewLate c h (maps_of h)
  few_late = legal_induction c (λ h. FewLate c h (maps_of h)) more-few tt

  falls : (h : List Entry) (e : Entry) (slot : ℕ)
      → ((earlier : ℕ) → earlier ≤ ack_after c h → count_by (late earlier) (flows_of c (h ++ e ∷ [])) ≤ c.pending
      → earlier ≤ slot)
      → (maps : List FrameMap) → AllByRecursion (λ m. m.ack ≤ ack_after c h) maps → FewLate c (h ++ e ∷ []) maps
      → AllByRecursion (λ m. m.ack ≤ slot) maps
  falls h e slot each [] acked few = tt
  falls h e slot each (m ∷ maps) acked few = (each m.ack acked.0 few.0, falls h e slot each maps acked.1 few.1)

  module _ (h : List Entry) (e : Entry) (m : FrameMap) (same : e.reply ≡ replies.Built m)
      (next : IsNextMap c h m) (legal : IsLegal c (h ++ e ∷ [])) (sid : ℕ) (life : Life)
      (lives : life_of sid (h ++ e ∷ []) ≡ Some life) where
    abbrev flow : LiveFlow
    flow = flow_in_life c sid life

    has-batches : HasBatches c sid life.since
    has-batches = have_batches c (h ++ e ∷ []) legal sid life lives

    live : Contains (flows_of c (h ++ e ∷ [])) flow
    live =
        let good = good_sid sid has-batches.good in
        let found : flow_of sid (flows_of c (h ++ e ∷ [])) ≡ Some flow =
        flow_of-flows_of c sid (h ++ e ∷ []) good.0 good.1 ∙ ap (option_map (flow_in_life c sid)) lives in
        (found-in (λ f. f.sid == sid) (flows_of c (h ++ e ∷ [])) flow found).0

    shown : (upto heard : ℕ) → granted flow < upto
        → IsIn (batches_in c sid life.since) (asked_in c sid life.since) (granted flow) upto heard → heard < m.ack
        → HasPending c m flow
    shown upto heard lt is before =
        let waiting : waits flow ≡ true =
        let some : granted flow < flow.asked = omega (arith, lt, is.counted) in grind (arith, nat_tests) in
        let early : since flow ≤ heard =
        since-in (batches_in c sid life.since) (asked_in c sid life.since) (granted flow) upto heard lt is in
        shows c h e m same next flow live (late-is m.ack flow waiting (omega (arith, early, before)))

    none-lost : ShowsRequests c m sid life
    none-lost = each-implied (λ before x after. IsUnreplaced c sid after
        → HoldsWhereHeard sid (IsIn (batches_in c sid life.since) (asked_in c sid life.since) (granted flow)
        (asked_in c sid (before ++ x ∷ []))) x.call x.reply)
        (λ before x after. IsUnreplaced c sid after → granted flow < asked_in c sid (before ++ x ∷ [])
        → HoldsWhereHeard sid (λ heard. heard < m.ack → HasPending c m flow) x.call x.reply)
        (λ before x after is unreplaced lt. heard-implied sid (IsIn (batches_in c sid life.since)
        (asked_in c sid life.since) (granted flow) (asked_in c sid (before ++ x ∷ [])))
        (λ heard. heard < m.ack → HasPending c m flow)
        (λ heard here early. shown (asked_in c sid (before ++ x ∷ [])) heard lt here early) x.call x.reply
        (is unreplaced)) [] life.since has-batches.each

-- it holds of every MAP
pub every_wait : IsEveryWait
every_wait c h e m legal same =
    let parts = each-parts (λ b x. IsStep c b x.call x.reply) [] h e legal in
    let next : IsNextMap c h m = IsNextMap-from_step c h e.call m (subst (IsStep c h e.call) same parts.1) in
    record {
      within_progress = omega (
        arith,
        ack-built c h e m same next,
        ack-most c.pending (ack_after c h) (flows_of c (h ++ e ∷ [])),
      );
      not_held_back = whole-progress c h e m same next;
      never_falls = falls c h e m.ack (falls-not c h e m same next) (maps_of h) (maps_acked c h parts.0)
          (kept-few c h e parts.0 parts.1 (few_late c h parts.0));
      none_lost = none-lost c h e m same next legal;
    }
