-- A worked history of two receivers: the acknowledge time is the least progress.
use Rattle.std.proofs.Common.{◌≡◌, List, [], ◌∷◌, ◌++◌, None, refl, lit<}
use Rattle.minislots.specs.declared.config.Config.{Config}
use Rattle.sched_calls.specs.declared.spec.FlowSpec.TheVariants.{BestEffort}
use Rattle.sched_calls.proofs.Base.{base}
use Rattle.sched_calls.specs.declared.amount.Amount.TheVariants.{Bytes}
use Rattle.sched_calls.specs.declared.call.Call.TheVariants.{Admit, Ask, Heard, Build}
use Rattle.sched_calls.specs.declared.reply.Refusal.TheVariants.{BadReceiver, Acked, Ahead, Backwards}
use Rattle.sched_calls.specs.declared.reply.Reply.TheVariants.{Admitted, Noted, Built, Refused}
use Rattle.sched_calls.specs.declared.reply.Entry.{Entry}
use Rattle.sched_history.specs.Life.{sids}
use Rattle.sched_history.specs.Time.{next_after, ack_after}
use Rattle.sched_history.specs.History.{IsStep, IsLegal}
use Rattle.sched_history.proofs.rows.NextMap.{idle_map, IsNextMap-idle}
use Rattle.sched_history.proofs.rows.TwoMaps.{entry}

-- the base channel heard by two receivers
abbrev pair : Config
pair = record base { receivers = 2 }

-- a MAP, the progress of the first receiver, a MAP
abbrev one_heard : List Entry
one_heard =
    entry 0 (Build 760) (Built (idle_map pair 800 800)) ∷ entry 1 (Heard 0 840) Noted ∷ entry 2 (Build 800)
    (Built (idle_map pair 840 800)) ∷ []

-- then the progress of the second
abbrev both_heard : List Entry
both_heard = one_heard ++ entry 3 (Heard 1 840) Noted ∷ []

-- then a MAP and an admission
abbrev all : List Entry
all = both_heard ++ entry 4 (Build 840) (Built (idle_map pair 880 840)) ∷ entry 5 (Admit 17 (BestEffort 3 0 0 0 0 0))
    (Admitted None) ∷ []

-- one receiver's progress does not move the acknowledge time
pub one_progress_does_not_acknowledge : ack_after pair one_heard ≡ 800
one_progress_does_not_acknowledge = refl

-- both do
pub the_least_progress_is_acknowledged : ack_after pair both_heard ≡ 840
the_least_progress_is_acknowledged = refl

-- after three MAPs the next frame starts at 920
pub three_maps_move_three_frames : next_after pair all ≡ 920
three_maps_move_three_frames = refl

-- the MAPs carry the acknowledge time of their building
pub maps_carry_the_acknowledge_time : IsLegal pair
    (both_heard ++ entry 4 (Build 840) (Built (idle_map pair 880 840)) ∷ [])
maps_carry_the_acknowledge_time = (
  (idle_map pair 800 800, IsNextMap-idle pair [] (lit< tt) (λ sid. refl) refl refl refl, refl),
  (
    refl,
    (
      (
        idle_map pair 840 800,
        IsNextMap-idle pair (entry 0 (Build 760) (Built (idle_map pair 800 800)) ∷ entry 1 (Heard 0 840) Noted ∷ [])
            (lit< tt) (λ sid. refl) refl refl refl,
        refl,
      ),
      (
        refl,
        (
          (idle_map pair 880 840, IsNextMap-idle pair both_heard (lit< tt) (λ sid. refl) refl refl refl, refl),
          tt,
        ),
      ),
    ),
  ),
)

-- a request heard before the progress of its receiver is refused
pub a_request_before_the_progress_is_refused : IsStep pair all (Ask 0 17 (Bytes 10) 839) (Refused (Acked 840))
unfolding sids
a_request_before_the_progress_is_refused = refl

-- progress does not go back
pub progress_does_not_go_back : IsStep pair all (Heard 0 839) (Refused (Backwards 840))
progress_does_not_go_back = refl

-- there is no third receiver
pub a_third_receiver_is_refused : IsStep pair all (Heard 2 839) (Refused BadReceiver)
a_third_receiver_is_refused = refl

-- progress ends where the next frame starts
pub progress_into_the_next_frame_is_refused : IsStep pair all (Heard 0 921) (Refused (Ahead 920))
progress_into_the_next_frame_is_refused = refl
