-- What a MAP tells of the Reserves that lapse before it, and of itself.
use Rattle.std.proofs.Common.{◌≡◌, ℕ, ◌+◌, ◌≤◌, Bool, List, ◌++◌, length, None}
use Rattle.std.proofs.Common.{refl, ap, subst, arith}
use Rattle.minislots.specs.declared.config.Config.{Config}
use Rattle.map_build.specs.declared.met.Met.{Met}
use Rattle.sched_calls.specs.declared.frame_map.FrameMap.{FrameMap}
use Rattle.sched_calls.specs.declared.reply.Reply.{Reply}
use Rattle.sched_calls.specs.declared.reply.Reply.TheVariants as replies
use Rattle.sched_calls.specs.declared.reply.Entry.{Entry}
use Rattle.sched_history.specs.History.{map_by, IsStep, IsNextMap}
use Rattle.sched_history.specs.Reserves.{met_after, lapses_by}
use Rattle.sched_history.proofs.reserves.GoodReserves.{reserves_of-few}
use Rattle.sched_history.proofs.reserves.Lapsed.{reserves-built}
use Rattle.sched_history.proofs.steps.LegalHistories.{IsNextMap-from_step}
use Rattle.sched_report.specs.declared.extremes.Extremes.{Extremes}
use Rattle.sched_report.specs.Extremes.{IsWatched}

-- a reply that has no MAP
pub no_map : (reply : Reply) → ((m : FrameMap) → reply ≡ replies.Built m → ⊥) → map_by reply ≡ None
no_map (replies.Built m) unbuilt = absurd (unbuilt m refl)
no_map (replies.Skipped n) unbuilt = refl
no_map (replies.Admitted placement) unbuilt = refl
no_map (replies.Changed placement) unbuilt = refl
no_map replies.Removed unbuilt = refl
no_map replies.Taken unbuilt = refl
no_map replies.Noted unbuilt = refl
no_map replies.Reserved unbuilt = refl
no_map (replies.Flow asked granted outstanding) unbuilt = refl
no_map (replies.Refused refusal) unbuilt = refl

module _ (c : Config) (before es : List Entry) (x : Extremes) (flows : List Bool) (met : List Met) (progress : List ℕ)
    (reserves left : ℕ) (e : Entry) (m : FrameMap)
    (watched : IsWatched c before es x flows met progress reserves left e) (is : e.reply ≡ replies.Built m) where
  -- of the Reserves that were open before a MAP, those that are not after it and were not met lapsed
  pub lapsed_of : reserves ≡ left + length met + lapses_by c (before ++ es) (replies.Built m)
  lapsed_of = omega (
    arith,
    watched.open_before,
    watched.open_after,
    ap (λ (ms : List Met). length ms) watched.meets,
    ap (λ (r : Reply). length (met_after c (before ++ es) r)) is,
    reserves-built c (before ++ es) m e is,
  )

  -- no more than may be open
  pub lapsed_few : lapses_by c (before ++ es) (replies.Built m) ≤ 64
  lapsed_few = omega (arith, lapsed_of, watched.open_before, reserves_of-few c (before ++ es) watched.legal)

  -- the MAP is the next one
  pub next_map : IsNextMap c (before ++ es) m
  next_map = IsNextMap-from_step c (before ++ es) e.call m
      (subst (λ (r : Reply). IsStep c (before ++ es) e.call r) is watched.step)
