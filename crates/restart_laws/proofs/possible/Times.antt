-- The time of every legal history: no receiver's progress is below the last acknowledge time, or behind the next frame.
use Rattle.std.proofs.Common.{◌≡◌, ◌∙◌, ℕ, ◌+◌, ◌<◌, ◌≤◌, List, [], ◌∷◌, length, slice_index, length-set, arith}
use Rattle.std.specs.List.{AllByRecursion}
use Rattle.std.proofs.lemmas.List.Elements.{All-from_recursion}
use Rattle.minislots.specs.declared.config.Config.{Config}
use Rattle.minislots.specs.Config.{IsLawful}
use Rattle.sched_calls.specs.declared.reply.Entry.{Entry}
use Rattle.sched_calls.proofs.Insertion.{all-set}
use Rattle.periodic.proofs.Joined.{all-weaker}
use Rattle.flow_book.proofs.InLine.{ack-most}
use Rattle.map_build.specs.Plan.{flows_after}
use Rattle.channel_states.proofs.Opening.{opening-possible}
use Rattle.sched_history.specs.Time.{least}
use Rattle.sched_history.specs.Situation.{Situation, situation_of}
use Rattle.sched_history.specs.History.{IsLegal}
use Rattle.restart_laws.proofs.possible.Effects.{Effect, Handed_in, Described, Skipped, next_left, progress_left}
use Rattle.restart_laws.proofs.possible.Effects.{ack_left}
use Rattle.restart_laws.proofs.possible.Legal.{kept-legal}

-- Neither the next frame nor a receiver's progress is before the channel's start, and each progress is between the last
-- acknowledge time and the next frame
pub record AreTimes (c : Config) (next ack : ℕ) (progress : List ℕ) : Type 0 where
  pub receivers : length progress ≡ c.receivers
  pub started : c.start ≤ next
  pub begun : AllByRecursion (λ slot. c.start ≤ slot) progress
  pub acknowledged : AllByRecursion (λ slot. ack ≤ slot) progress
  pub described : AllByRecursion (λ slot. slot ≤ next) progress

least-each : (ns : List ℕ) → AllByRecursion (λ n. least ns ≤ n) ns
least-each [] = tt
least-each (n ∷ []) = (omega arith, tt)
least-each (n ∷ m ∷ ns) = (
  omega arith,
  all-weaker (λ k. least (m ∷ ns) ≤ k) (λ k. least (n ∷ m ∷ ns) ≤ k) (λ k le. omega (arith, le)) (m ∷ ns)
      (least-each (m ∷ ns)),
)

-- the least of some numbers is at least what each is
pub least-from : (from : ℕ) (ns : List ℕ) → 0 < length ns → AllByRecursion (λ n. from ≤ n) ns → from ≤ least ns
least-from from [] some all = absurd (omega (arith, some))
least-from from (n ∷ []) some all = all.0
least-from from (n ∷ m ∷ ns) some all = omega (arith, all.0, least-from from (m ∷ ns) (omega arith) all.1)

module _ (c : Config) (x : Situation) where
  -- what holds of all that the receivers have handed in holds of what one has
  pub progress-at : (P : ℕ → Type 0) (receiver : ℕ) → receiver < length x.progress → AllByRecursion P x.progress
      → P (slice_index x.progress receiver)
  progress-at P receiver within all = All-from_recursion P x.progress all receiver 0 within

  times-kept : (effect : Effect c x) → AreTimes c x.next x.ack x.progress
      → AreTimes c (next_left c x effect) (ack_left c x effect) (progress_left c x effect)
  times-kept (Handed_in receiver upto may) are =
      let low : x.ack ≤ slice_index x.progress receiver =
      progress-at (λ slot. x.ack ≤ slot) receiver (omega (arith, may.received, are.receivers)) are.acknowledged in
      let late : c.start ≤ slice_index x.progress receiver =
      progress-at (λ slot. c.start ≤ slot) receiver (omega (arith, may.received, are.receivers)) are.begun in
      record {
        receivers = length-set x.progress receiver upto ∙ are.receivers;
        started = are.started;
        begun = all-set (λ slot. c.start ≤ slot) x.progress receiver upto are.begun (omega (arith, late, may.forwards));
        acknowledged = all-set (λ slot. x.ack ≤ slot) x.progress receiver upto are.acknowledged
            (omega (arith, low, may.forwards));
        described = all-set (λ slot. slot ≤ x.next) x.progress receiver upto are.described may.described;
      }
  times-kept (Described plan is) are =
      let flows = flows_after c x.next plan x.flows in
      let most = ack-most c.pending (least x.progress) flows in
      record {
        receivers = are.receivers;
        started = omega (arith, are.started);
        begun = are.begun;
        acknowledged = all-weaker (λ slot. least x.progress ≤ slot)
            (λ slot. ack_left c x (Described plan is) ≤ slot) (λ slot le. omega (arith, le, most)) x.progress
            (least-each x.progress);
        described = all-weaker (λ slot. slot ≤ x.next) (λ slot. slot ≤ x.next + c.frame)
            (λ slot le. omega (arith, le)) x.progress are.described;
      }
  times-kept (Skipped start later) are = record {
    receivers = are.receivers;
    started = omega (arith, are.started, later);
    begun = are.begun;
    acknowledged = are.acknowledged;
    described = all-weaker (λ slot. slot ≤ x.next) (λ slot. slot ≤ start) (λ slot le. omega (arith, le, later))
        x.progress are.described;
  }
  times-kept effect are = are

-- so it is of every legal history
pub times-legal : (c : Config) → IsLawful c → (h : List Entry) → IsLegal c h
    → AreTimes c (situation_of c h).next (situation_of c h).ack (situation_of c h).progress
times-legal c lawful =
    let opens = (opening-possible c lawful).times in
    kept-legal c (λ x. Unit {0}) (λ h legal. tt) (λ x. AreTimes c x.next x.ack x.progress)
    (λ x effect old new are. times-kept c x effect are)
    (record {
      receivers = opens.receivers;
      started = omega arith;
      begun = opens.acknowledged;
      acknowledged = opens.acknowledged;
      described = opens.described;
    })
