-- The next frame of a legal history: it never goes back, and every MAP ends before it.
use Rattle.std.proofs.Common.{◌≡◌, ℕ, ◌+◌, ◌≤◌, false, List, [], ◌∷◌, ◌++◌, None, refl, ap, subst, arith}
use Rattle.std.specs.List.{AllByRecursion}
use Rattle.std.proofs.lemmas.List.{append-nil}
use Rattle.std.proofs.lemmas.List.Elements.{filter_map-append}
use Rattle.minislots.specs.declared.config.Config.{Config}
use Rattle.flow_book.proofs.Order.{all-push}
use Rattle.sched_calls.specs.declared.frame_map.FrameMap.{FrameMap}
use Rattle.map_build.proofs.EachAfterLaws.{EachAfter-push}
use Rattle.sched_calls.specs.declared.call.Call.{Call}
use Rattle.sched_calls.specs.declared.call.Call.TheVariants as calls
use Rattle.sched_calls.specs.declared.reply.Reply.{Reply}
use Rattle.sched_calls.specs.declared.reply.Reply.TheVariants as replies
use Rattle.sched_calls.specs.declared.reply.Entry.{Entry}
use Rattle.sched_history.specs.Time.{is_built, next_after, IsFirstStart}
use Rattle.sched_history.specs.Refusal.{refusal_of}
use Rattle.sched_history.specs.History.{IsNextMapIn, IsNextMap, map_by, IsStep, IsLegal}
use Rattle.sched_history.specs.Facts.{maps_of, StartsAscend}
use Rattle.sched_history.specs.Situation.{Situation, situation_of}
use Rattle.sched_history.proofs.steps.LegalHistories.{IsStill, Builds, Skips, Stays, change_by_step}
use Rattle.sched_history.proofs.steps.LegalHistories.{accepted, legal_induction}
use Rattle.sched_history.proofs.steps.Passed.{passed-skip}
use Rattle.sched_history.proofs.time.TimeAfter.{next_after-built, next_after-same, next_after-skipped}

unbuilt : (reply : Reply) → map_by reply ≡ None → is_built reply ≡ false
unbuilt (replies.Built m) none = absurd (cc)
unbuilt reply none = refl

-- without a MAP or a skip the next frame is the same
pub next_after-still : (c : Config) (h : List Entry) (e : Entry) → IsStill e.reply
    → next_after c (h ++ e ∷ []) ≡ next_after c h
next_after-still c h e still = next_after-same c h e still.1 (unbuilt e.reply still.0)

-- a MAP more where an entry builds one
pub maps_of-built : (h : List Entry) (e : Entry) (m : FrameMap) → e.reply ≡ replies.Built m
    → maps_of (h ++ e ∷ []) ≡ maps_of h ++ m ∷ []
maps_of-built h e m builds = rw (filter_map-append, ap map_by builds)

-- no other entry has one
pub maps_of-unbuilt : (h : List Entry) (e : Entry) → map_by e.reply ≡ None → maps_of (h ++ e ∷ []) ≡ maps_of h
maps_of-unbuilt h e none = rw (filter_map-append, none, append-nil)

-- a skip goes forward
skips_forward : (c : Config) (h : List Entry) (call : Call) (reply : Reply) (now start : ℕ) → IsStep c h call reply
    → call ≡ calls.Skip now → IsFirstStart c (now + c.lead) start → reply ≡ replies.Skipped start
    → next_after c h ≤ start
skips_forward c h call reply now start step is first skips =
    let unrefused : refusal_of c h (calls.Skip now) ≡ None = subst (λ k. refusal_of c h k ≡ None) is
    (accepted c h call reply (λ r refuses. cc) step).0 in
    omega (arith, (passed-skip c (situation_of c h) now unrefused).late, first.reached)

-- the next frame never goes back
pub next_after-ascends : (c : Config) (h : List Entry) (e : Entry) → IsStep c h e.call e.reply
    → next_after c h ≤ next_after c (h ++ e ∷ [])
next_after-ascends c h e step = elim (change_by_step c h e.call e.reply step) [
  | Builds m next same ↦ omega (arith, next_after-built c h e m same)
  | Skips now start is first same ↦ rw (next_after-skipped c h e start same)
      (skips_forward c h e.call e.reply now start step is first same)
  | Stays still ↦ omega (arith, next_after-still c h e still)
]

-- each of these MAPs has ended at this minislot
abbrev pub HaveEnded : Config → ℕ → List FrameMap → Type 0
HaveEnded c slot maps = AllByRecursion (λ m. m.start + c.frame ≤ slot) maps

later_ended : (c : Config) (slot later : ℕ) (maps : List FrameMap) → slot ≤ later → HaveEnded c slot maps
    → HaveEnded c later maps
later_ended c slot later [] le ended = tt
later_ended c slot later (m ∷ maps) le ended = (omega (arith, ended.0), later_ended c slot later maps le ended.1)

-- the MAP of the next frame starts with it
pub next_start_in : (c : Config) (x : Situation) (m : FrameMap) → IsNextMapIn c x m → m.start ≡ x.next
next_start_in c x m next = ap (λ m. m.start) next.2

pub next_start : (c : Config) (h : List Entry) (m : FrameMap) → IsNextMap c h m → m.start ≡ next_after c h
next_start c h m next = ap (λ m. m.start) next.2

module _ (c : Config) where
  ended_more : (h : List Entry) (e : Entry) → IsLegal c h → IsStep c h e.call e.reply
      → HaveEnded c (next_after c h) (maps_of h)
      → HaveEnded c (next_after c (h ++ e ∷ [])) (maps_of (h ++ e ∷ []))
  ended_more h e legal step ended =
      let old : HaveEnded c (next_after c (h ++ e ∷ [])) (maps_of h) =
      later_ended c (next_after c h) (next_after c (h ++ e ∷ [])) (maps_of h) (next_after-ascends c h e step) ended in
      elim (change_by_step c h e.call e.reply step) [
        | Builds m next same ↦ rw (maps_of-built h e m same) (all-push
            (λ (m : FrameMap). m.start + c.frame ≤ next_after c (h ++ e ∷ [])) (maps_of h) m old
            (omega (arith, next_start c h m next, next_after-built c h e m same)))
        | Skips now start is first same ↦ rw (maps_of-unbuilt h e (ap map_by same)) old
        | Stays still ↦ rw (maps_of-unbuilt h e still.0) old
      ]

  -- every MAP of a legal history ends before the next frame, or where it starts
  pub maps_ended : (h : List Entry) → IsLegal c h → HaveEnded c (next_after c h) (maps_of h)
  maps_ended = legal_induction c (λ h. HaveEnded c (next_after c h) (maps_of h)) ended_more tt

  ascend_more : (h : List Entry) (e : Entry) → IsLegal c h → IsStep c h e.call e.reply → StartsAscend c (maps_of h)
      → StartsAscend c (maps_of (h ++ e ∷ []))
  ascend_more h e legal step ascend = elim (change_by_step c h e.call e.reply step) [
    | Builds m next same ↦ rw (maps_of-built h e m same)
        (EachAfter-push (λ before (m : FrameMap). HaveEnded c m.start before) []
        (maps_of h) m ascend
        (rw (next_start c h m next) (maps_ended h legal)))
    | Skips now start is first same ↦ rw (maps_of-unbuilt h e (ap map_by same)) ascend
    | Stays still ↦ rw (maps_of-unbuilt h e still.0) ascend
  ]

  -- the starts of its MAPs ascend by at least a frame
  pub starts_ascend : (h : List Entry) → IsLegal c h → StartsAscend c (maps_of h)
  starts_ascend = legal_induction c (λ h. StartsAscend c (maps_of h)) ascend_more tt
