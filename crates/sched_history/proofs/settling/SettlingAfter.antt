-- What a history leaves of its changes, with one entry more.
use Rattle.std.proofs.Common.{◌≡◌, ℕ, Bool, true, false, ◌==◌, if◌then◌else◌, List, [], ◌∷◌, ◌++◌, Option, None, Some}
use Rattle.std.proofs.Common.{refl, sym, ap, ◌∙◌}
use Rattle.std.specs.List.{cons_option}
use Rattle.std.specs.Option.{option_map}
use Rattle.std.proofs.lemmas.List.{append-nil}
use Rattle.minislots.specs.declared.config.Config.{Config}
use Rattle.sched_calls.specs.declared.frame_map.FrameMap.{FrameMap}
use Rattle.sched_calls.specs.declared.reply.Reply.{Reply}
use Rattle.sched_calls.specs.declared.reply.Reply.TheVariants as replies
use Rattle.sched_calls.specs.declared.reply.Entry.{Entry}
use Rattle.sched_history.specs.declared.scheduler.settling.Settling.{Settling}
use Rattle.sched_history.specs.Time.{is_built}
use Rattle.sched_history.specs.Settling.{map_by, maps_of, change_in, changes_in, last_of, count_behind, settling_after}
use Rattle.sched_history.specs.Settling.{settling_with}
use Rattle.sched_history.proofs.lists.Latests.{latest-says, said-push, said-cons}
use Rattle.sched_history.proofs.time.NextFrames.{maps_of-built, maps_of-unbuilt}

cons_option-append : {X : Type 0} (o : Option X) (xs more : List X)
    → cons_option o (xs ++ more) ≡ cons_option o xs ++ more
cons_option-append None xs more = refl
cons_option-append (Some x) xs more = refl

-- a MAP more changes or does not, after the count of those before it
pub changes_in-push : (first : ℕ) (maps : List FrameMap) (m : FrameMap) → changes_in first (maps ++ m ∷ [])
    ≡ changes_in first maps ++ cons_option (change_in (m, count_behind first maps)) []
changes_in-push first [] m = refl
changes_in-push first (x ∷ maps) m =
    ap (cons_option (change_in (x, first))) (changes_in-push x.wire.ucd_count maps m)
    ∙ cons_option-append (change_in (x, first)) (changes_in x.wire.ucd_count maps)
    (cons_option (change_in (m, count_behind x.wire.ucd_count maps)) [])
    ∙ ap (λ count. changes_in first (x ∷ maps) ++ cons_option (change_in (m, count)) [])
    (sym (said-cons (λ (n : FrameMap). Some n.wire.ucd_count) first x maps))

-- a number more is the last
pub last_of-push : (ns : List ℕ) (n : ℕ) → last_of (ns ++ n ∷ []) ≡ Some n
last_of-push ns n = ap (λ o. option_map (λ found. found.said) o) (latest-says Some ns n n refl)

last-change : (same : Bool) (start : ℕ) (ns : List ℕ)
    → last_of (ns ++ cons_option (if same then None else Some start) []) ≡ (if same then last_of ns else Some start)
last-change true start ns = ap last_of (append-nil ns)
last-change false start ns = last_of-push ns start

-- what these MAPs leave, after this count
abbrev settling_in : ℕ → List FrameMap → Settling
settling_in first maps = record { count = count_behind first maps; change = last_of (changes_in first maps) }

settling_in-push : (first : ℕ) (maps : List FrameMap) (m : FrameMap)
    → settling_in first (maps ++ m ∷ []) ≡ settling_with m.wire.ucd_count m.start (settling_in first maps)
settling_in-push first maps m =
    let count : count_behind first (maps ++ m ∷ []) ≡ m.wire.ucd_count =
    said-push (λ (n : FrameMap). Some n.wire.ucd_count) first maps m in
    let change : last_of (changes_in first (maps ++ m ∷ []))
    ≡ (if m.wire.ucd_count == count_behind first maps then last_of (changes_in first maps) else Some m.start) =
    ap last_of (changes_in-push first maps m)
    ∙ last-change (m.wire.ucd_count == count_behind first maps) m.start (changes_in first maps) in
    rw (count, change) refl

-- a reply without a MAP
pub unbuilt : (reply : Reply) → is_built reply ≡ false → map_by reply ≡ None
unbuilt (replies.Built m) none = absurd cc
unbuilt reply none = refl

module _ (c : Config) (h : List Entry) (e : Entry) where
  -- an entry without a MAP leaves the same
  pub settling_after-same : is_built e.reply ≡ false → settling_after c (h ++ e ∷ []) ≡ settling_after c h
  settling_after-same none = ap (settling_in c.ucd_count) (maps_of-unbuilt h e (unbuilt e.reply none))

  -- a MAP leaves its count, and its start where it changes
  pub settling_after-built : (m : FrameMap) → e.reply ≡ replies.Built m
      → settling_after c (h ++ e ∷ []) ≡ settling_with m.wire.ucd_count m.start (settling_after c h)
  settling_after-built m is =
      ap (settling_in c.ucd_count) (maps_of-built h e m is) ∙ settling_in-push c.ucd_count (maps_of h) m
