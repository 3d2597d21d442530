-- Whether the MAP of the next frame settles, by what is kept: the last change is the nearest.
use Rattle.std.proofs.Common.{◌≡◌, ℕ, ◌≤◌, Bool, true, false, not, ◌&&◌, ◌||◌, nat_lt, ◌==◌, if◌then◌else◌}
use Rattle.std.proofs.Common.{List, [], ◌∷◌, ◌++◌, None, Some, refl, sym, ap, ◌∙◌, arith}
use Rattle.std.specs.List.{AllByRecursion, cons_option, list_any}
use Rattle.std.specs.Option.{option_map_or}
use Rattle.std.proofs.lemmas.Bool.Decides.{nat_tests}
use Rattle.std.proofs.lemmas.List.{append-nil}
use Rattle.minislots.specs.declared.config.Config.{Config}
use Rattle.sched_calls.specs.declared.frame_map.FrameMap.{FrameMap}
use Rattle.sched_calls.specs.declared.reply.Entry.{Entry}
use Rattle.sched_history.specs.declared.scheduler.state.State.{State}
use Rattle.sched_history.specs.Time.{next_after}
use Rattle.sched_history.specs.Reserves.{header_after}
use Rattle.sched_history.specs.Settling.{map_by, maps_of, changes_in, changes_of, last_of, count_after}
use Rattle.sched_history.specs.Settling.{is_near, settles_after, settles_by_any}
use Rattle.sched_history.specs.Situation.{Situation, settles_in}
use Rattle.sched_history.specs.History.{IsStep, IsLegal}
use Rattle.sched_history.specs.State.{settles_next, IsStateAfter}
use Rattle.sched_history.proofs.steps.LegalHistories.{Builds, Skips, Stays, change_by_step, legal_induction}
use Rattle.sched_history.proofs.time.NextFrames.{maps_of-built, maps_of-unbuilt, HaveEnded, maps_ended, next_start}
use Rattle.sched_history.proofs.settling.SettlingAfter.{changes_in-push, last_of-push}

-- these numbers are at most this one
abbrev AreUpTo : ℕ → List ℕ → Type 0
AreUpTo last ns = AllByRecursion (λ n. n ≤ last) ns

-- the changes among MAPs that have ended started before
changes-ended : (c : Config) (slot first : ℕ) (maps : List FrameMap) → HaveEnded c slot maps
    → AreUpTo slot (changes_in first maps)
changes-ended c slot first [] ended = tt
changes-ended c slot first (m ∷ maps) ended =
    told (m.wire.ucd_count == first) (changes-ended c slot m.wire.ucd_count maps ended.1)
  where
    told : (same : Bool) → AreUpTo slot (changes_in m.wire.ucd_count maps)
        → AreUpTo slot (cons_option (if same then None else Some m.start) (changes_in m.wire.ucd_count maps))
    told true rest = rest
    told false rest = (omega (arith, ended.0), rest)

module _ (settle next : ℕ) where
  -- whether one of some changes is near, and whether the last is
  abbrev is_any : List ℕ → Bool
  is_any ns = list_any (is_near settle next) ns

  abbrev is_last : List ℕ → Bool
  is_last ns = option_map_or (is_near settle next) (last_of ns) false

  later-near : (n last : ℕ) → n ≤ last → is_near settle next n ≡ true → is_near settle next last ≡ true
  later-near n last le near = grind (arith, nat_tests)

  either : (one last : Bool) → (one ≡ true → last ≡ true) → (one || last) ≡ last
  either true last follows = sym (follows refl)
  either false last follows = refl

  or-none : (b : Bool) → (b || false) ≡ b
  or-none true = refl
  or-none false = refl

  any-last : (ns : List ℕ) (last : ℕ) → AreUpTo last ns → is_any (ns ++ last ∷ []) ≡ is_near settle next last
  any-last [] last all = or-none (is_near settle next last)
  any-last (n ∷ ns) last all =
      ap (λ rest. is_near settle next n || rest) (any-last ns last all.1)
      ∙ either (is_near settle next n) (is_near settle next last) (later-near n last all.0)

  near-push : (same : Bool) (start : ℕ) (ns : List ℕ) → AreUpTo start ns → is_any ns ≡ is_last ns
      → is_any (ns ++ cons_option (if same then None else Some start) [])
      ≡ is_last (ns ++ cons_option (if same then None else Some start) [])
  near-push true start ns all holds = rw append-nil holds
  near-push false start ns all holds =
      any-last ns start all ∙ ap (λ o. option_map_or (is_near settle next) o false) (sym (last_of-push ns start))

  module _ (c : Config) where
    near-more : (h : List Entry) (e : Entry) → IsLegal c h → IsStep c h e.call e.reply
        → is_any (changes_of c h) ≡ is_last (changes_of c h)
        → is_any (changes_of c (h ++ e ∷ [])) ≡ is_last (changes_of c (h ++ e ∷ []))
    near-more h e legal step holds = elim (change_by_step c h e.call e.reply step) [
      | Builds m is same ↦ rw (maps_of-built h e m same, changes_in-push c.ucd_count (maps_of h) m)
          (near-push (m.wire.ucd_count == count_after c h) m.start (changes_of c h)
          (rw (next_start c h m is) (changes-ended c (next_after c h) c.ucd_count (maps_of h) (maps_ended c h legal)))
          holds)
      | Skips now start is first same ↦ rw (maps_of-unbuilt h e (ap map_by same)) holds
      | Stays still ↦ rw (maps_of-unbuilt h e still.0) holds
    ]

    -- one of the changes of a legal history is near exactly where the last is
    pub near-legal : (h : List Entry) → IsLegal c h → is_any (changes_of c h) ≡ is_last (changes_of c h)
    near-legal = legal_induction c (λ h. is_any (changes_of c h) ≡ is_last (changes_of c h)) near-more refl

-- so the MAP of the next frame of a legal history settles by the last change where it does by every one
pub settles_by_any-legal : (c : Config) (h : List Entry) → IsLegal c h → settles_after c h ≡ settles_by_any c h
settles_by_any-legal c h legal =
    ap (λ near. nat_lt 0 c.settle && (not ((header_after c h).ucd_count == count_after c h) || near))
    (sym (near-legal c.settle (next_after c h) c h legal))

-- and by the fields where it does by what they stand for
pub settles_next-after : (s : State) (x : Situation) → IsStateAfter s x → settles_next s ≡ settles_in s.config x
settles_next-after s x is_after = rw (is_after.settling, is_after.header, is_after.next) refl
