-- Worked histories of when a MAP may be built: too early, late, skipped, and where the wire's times wrap.
use Rattle.std.proofs.Common.{◌≡◌, ◌∙◌, [], ◌∷◌, refl, ap, lit<, lit≤, arith}
use Rattle.minislots.specs.declared.config.Config.{Config}
use Rattle.map_codec.specs.WireMap.{header, spelling}
use Rattle.sched_calls.proofs.Base.{base}
use Rattle.sched_calls.specs.declared.frame_map.FrameMap.{FrameMap}
use Rattle.sched_calls.specs.declared.call.Call.TheVariants.{Build, Skip}
use Rattle.sched_calls.specs.declared.reply.Refusal.TheVariants.{BadClock, TooEarly, Late, NotLate}
use Rattle.sched_calls.specs.declared.reply.Reply.{Reply}
use Rattle.sched_calls.specs.declared.reply.Reply.TheVariants.{Built, Skipped, Refused}
use Rattle.sched_calls.specs.declared.reply.Entry.{Entry}
use Rattle.sched_history.specs.Time.{IsFirstStart}
use Rattle.sched_history.specs.History.{IsStep, IsLegal}
use Rattle.sched_history.proofs.rows.NextMap.{idle_map, IsNextMap-idle}
use Rattle.sched_history.proofs.rows.TwoMaps.{entry, built}

-- a MAP that must be built 40 minislots ahead is late at 801 for a frame at 840
pub a_late_build_is_refused : IsStep base (built ∷ []) (Build 801) (Refused (Late 840))
a_late_build_is_refused = refl

-- at 800 it is not
pub a_build_just_in_time_is_accepted : IsStep base (built ∷ []) (Build 800) (Built (idle_map base 840 800))
a_build_just_in_time_is_accepted =
    (idle_map base 840 800, IsNextMap-idle base (built ∷ []) (lit< tt) (λ sid. refl) refl refl refl, refl)

-- the late build and the skip
abbrev late : Entry
late = entry 1 (Build 801) (Refused (Late 840))

abbrev skipped : Entry
skipped = entry 2 (Skip 801) (Skipped 880)

-- 880 is the least multiple of 40 that is 40 minislots ahead of 801
the_first_start_from_841 : IsFirstStart base 841 880
the_first_start_from_841 = record { whole = refl; reached = lit≤ tt; least = λ n whole reached. omega arith }

-- a skip leaves out the late frame
pub a_skip_leaves_out_the_late_frame : IsStep base (built ∷ late ∷ []) (Skip 801) (Skipped 880)
a_skip_leaves_out_the_late_frame = (880, the_first_start_from_841, refl)

-- and may answer nothing else: no start before, no later frame, and no start within one
pub a_skip_answers_the_first_start_alone : (reply : Reply) → IsStep base (built ∷ late ∷ []) (Skip 801) reply
    → reply ≡ Skipped 880
a_skip_answers_the_first_start_alone reply (start, first, is) =
    let at : start ≡ 880 = omega (arith, first.whole, first.reached, first.least 880 refl (lit≤ tt)) in
    is ∙ ap (λ n. Skipped n) at

-- then no frame is late
pub a_skip_of_no_late_frame_is_refused : IsStep base (built ∷ late ∷ skipped ∷ []) (Skip 801) (Refused (NotLate 880))
a_skip_of_no_late_frame_is_refused = refl

-- and the next MAP is that of the frame after it
pub the_frame_after_a_skip_is_described : IsStep base (built ∷ late ∷ skipped ∷ []) (Build 801)
    (Built (idle_map base 880 800))
the_frame_after_a_skip_is_described = (
  idle_map base 880 800,
  IsNextMap-idle base (built ∷ late ∷ skipped ∷ []) (lit< tt) (λ sid. refl) refl refl refl,
  refl,
)

-- the channel whose first frame starts at 5000
abbrev later : Config
later = record base { start = 5000 }

-- at 943 the frame would end 4097 minislots ahead
pub a_build_too_early_is_refused : IsStep later [] (Build 943) (Refused (TooEarly 5000))
a_build_too_early_is_refused = refl

-- at 944 it ends 4096 ahead
pub a_build_at_the_earliest_minislot_is_accepted : IsStep later [] (Build 944) (Built (idle_map later 5000 5000))
a_build_at_the_earliest_minislot_is_accepted =
    (idle_map later 5000 5000, IsNextMap-idle later [] (lit< tt) (λ sid. refl) refl refl refl, refl)

-- a clock above 2^60 is refused before its distance is looked at
pub a_clock_above_the_greatest_is_refused : IsStep later [] (Build 1152921504606846977) (Refused BadClock)
a_clock_above_the_greatest_is_refused = refl

-- the channel whose second frame starts above 2^32
abbrev wrapping : Config
wrapping = record base { start = 4294967280 }

-- its first two MAPs
abbrev before_the_wrap : FrameMap
before_the_wrap = idle_map wrapping 4294967280 4294967280

abbrev after_the_wrap : FrameMap
after_the_wrap = idle_map wrapping 4294967320 4294967280

-- both are legal, one after the other
pub two_maps_across_the_wrap : IsLegal wrapping
    (entry 0 (Build 4294967240) (Built before_the_wrap) ∷ entry 1 (Build 4294967280) (Built after_the_wrap) ∷ [])
two_maps_across_the_wrap = (
  (before_the_wrap, IsNextMap-idle wrapping [] (lit< tt) (λ sid. refl) refl refl refl, refl),
  (
    (
      after_the_wrap,
      IsNextMap-idle wrapping (entry 0 (Build 4294967240) (Built before_the_wrap) ∷ []) (lit< tt)
          (λ sid. refl) refl refl refl,
      refl,
    ),
    tt,
  ),
)

-- the first one's payload has the low 32 bits of its start
pub the_bytes_before_the_wrap : spelling before_the_wrap.wire
    ≡ 3 ∷ 1 ∷ 3 ∷ 0 ∷ 0xff ∷ 0xff ∷ 0xff ∷ 0xf0 ∷ 0xff ∷ 0xff ∷ 0xff ∷ 0xf0 ∷ 0 ∷ 0 ∷ 0 ∷ 0 ∷ 0xff ∷ 0xfc ∷ 0x40 ∷ 0
    ∷ 0 ∷ 1 ∷ 0x80 ∷ 4 ∷ 0 ∷ 1 ∷ 0xc0 ∷ 0x28 ∷ []
unfolding spelling header
the_bytes_before_the_wrap = refl

-- the second one's starts at 24, and acknowledges up to before the wrap
pub the_bytes_after_the_wrap : spelling after_the_wrap.wire
    ≡ 3 ∷ 1 ∷ 3 ∷ 0 ∷ 0 ∷ 0 ∷ 0 ∷ 0x18 ∷ 0xff ∷ 0xff ∷ 0xff ∷ 0xf0 ∷ 0 ∷ 0 ∷ 0 ∷ 0 ∷ 0xff ∷ 0xfc ∷ 0x40 ∷ 0 ∷ 0 ∷ 1
    ∷ 0x80 ∷ 4 ∷ 0 ∷ 1 ∷ 0xc0 ∷ 0x28 ∷ []
unfolding spelling header
the_bytes_after_the_wrap = refl
