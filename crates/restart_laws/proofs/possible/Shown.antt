-- The acknowledge time of the last MAP is held back by no more flows of a legal history than a MAP shows.
use Rattle.std.proofs.Common.{◌≡◌, refl, ap, ℕ, ◌+◌, ◌<◌, ◌≤◌, ◌==◌, nat_lt, ◌^◌, true, not}
use Rattle.std.proofs.Common.{List, [], ◌∷◌, map, filter, length, slice_index, inl, inr}
use Rattle.std.proofs.Common.{arith}
use Rattle.std.specs.List.{AllByRecursion, count_by}
use Rattle.std.proofs.lemmas.Bool.{cond_both, cases_Bool, and_parts, and_from}
use Rattle.std.proofs.lemmas.Bool.Decides.{nat_tests}
use Rattle.minislots.specs.declared.config.Config.{Config}
use Rattle.minislots.specs.Config.{IsLawful}
use Rattle.minislots.proofs.Bounds.{bounds_of}
use Rattle.sched_calls.specs.declared.reply.Entry.{Entry}
use Rattle.sched_calls.specs.declared.spec.FlowSpec.{FlowSpec}
use Rattle.flow_book.specs.Book.{with_flow, changed, new_flow, with_asked, with_replaced, with_spec}
use Rattle.flow_book.specs.Flows.{LiveFlow}
use Rattle.flow_book.specs.Shown.{waits, since, count_before, is_shown, is_hidden, least_with, ack_of}
use Rattle.flow_book.proofs.InLine.{AreSmall, few-shown}
use Rattle.flow_book.proofs.Order.{all-implied}
use Rattle.map_build.specs.Plan.{flows_after}
use Rattle.map_build.specs.Spots.{IsFlowSid, AreOfChannel}
use Rattle.sched_history.specs.Facts.{IsWithinAsked}
use Rattle.sched_history.specs.Time.{least}
use Rattle.sched_history.specs.Situation.{Situation, situation_of}
use Rattle.sched_history.specs.History.{IsLegal}
use Rattle.sched_history.proofs.facts.SoundLives.{within_asked}
use Rattle.sched_history.proofs.lives.Finding.{flows_of-channel}
use Rattle.restart_laws.proofs.possible.Counts.{count-where, count-left, count-with, count-changed}
use Rattle.restart_laws.proofs.possible.Effects.{Effect, Begun, Placed_first, Ended, Asked, Replaced, Changed}
use Rattle.restart_laws.proofs.possible.Effects.{Placed_anew, Kept_place, Described, IsHeard, flows_left, ack_left}
use Rattle.restart_laws.proofs.possible.Effects.{left}
use Rattle.restart_laws.proofs.possible.Flows.{flows-legal}
use Rattle.restart_laws.proofs.possible.Legal.{kept-legal}
use Rattle.restart_laws.proofs.possible.Live.{IsPossibleLive}
use Rattle.restart_laws.proofs.possible.Times.{AreTimes, least-from, progress-at, times-legal}
use Rattle.restart_laws.proofs.possible.Since.{waits_before, asked-before, replaced-before, since-start}

-- The acknowledge time is not before the channel's start, and no more flows wait since before it than a MAP shows
pub record HoldBack (c : Config) (ack : ℕ) (flows : List LiveFlow) : Type 0 where
  pub least : c.start ≤ ack
  pub few : count_by (waits_before ack) flows ≤ c.pending

module _ (most progress : ℕ) (all : List LiveFlow) where
  abbrev held : List LiveFlow → ℕ
  held flows = least_with progress (map since (filter (is_hidden most all) flows))

  held-from : (from : ℕ) → from ≤ progress → (flows : List LiveFlow)
      → AllByRecursion (λ f. waits f ≡ true → from ≤ since f) flows → from ≤ held flows
  held-from from le [] each = le
  held-from from le (f ∷ flows) each =
      let rest = held-from from le flows each.1 in
      cond_both (is_hidden most all f) (f ∷ filter (is_hidden most all) flows) (filter (is_hidden most all) flows)
      (λ fs. from ≤ least_with progress (map since fs))
      (λ hidden. omega (arith, rest, each.0 (and_parts (waits f) _ hidden).0)) (λ seen. rest)

  held-first : (f : LiveFlow) (flows : List LiveFlow) → held (f ∷ flows) ≤ held flows
  held-first f flows =
      cond_both (is_hidden most all f) (f ∷ filter (is_hidden most all) flows) (filter (is_hidden most all) flows)
      (λ fs. least_with progress (map since fs) ≤ held flows) (λ hidden. omega arith) (λ seen. omega arith)

  held-own : (f : LiveFlow) (flows : List LiveFlow) → is_hidden most all f ≡ true → held (f ∷ flows) ≤ since f
  held-own f flows hidden = rw hidden (omega arith)

  -- each flow that is hidden holds back
  held-each : (flows : List LiveFlow) → AllByRecursion (λ f. is_hidden most all f ≡ true → held flows ≤ since f) flows
  held-each [] = tt
  held-each (f ∷ flows) = (
    held-own f flows,
    all-implied (λ g. is_hidden most all g ≡ true → held flows ≤ since g)
        (λ g. is_hidden most all g ≡ true → held (f ∷ flows) ≤ since g) flows
        (λ g is hidden. omega (arith, is hidden, held-first f flows)) (held-each flows),
  )

  -- so one that waits since before the acknowledge time is shown
  seen-before : (f : LiveFlow) → (is_hidden most all f ≡ true → held all ≤ since f)
      → waits_before (held all) f ≡ true → is_shown most all f ≡ true
  seen-before f is before =
      let parts = and_parts (waits f) (nat_lt (since f) (held all)) before in
      elim (cases_Bool (nat_lt (count_before all f) most)) [
        | inl low ↦ and_from (waits f) (nat_lt (count_before all f) most) parts.0 low
        | inr high ↦ absurd (
            let hidden : is_hidden most all f ≡ true =
            and_from (waits f) (not (nat_lt (count_before all f) most)) parts.0 (ap not high) in
            let late = is hidden in
            let early : since f < held all = grind (arith, nat_tests, parts.1) in
            omega (arith, late, early))
      ]

  few-before : count_by (waits_before (held all)) all ≤ count_by (is_shown most all) all
  few-before =
      count-where (waits_before (held all)) (is_shown most all) all
      (all-implied (λ f. is_hidden most all f ≡ true → held all ≤ since f)
      (λ f. waits_before (held all) f ≡ true → is_shown most all f ≡ true) all seen-before (held-each all))

-- What is known of the times and of the flows of a legal history
record IsWaitingOf (c : Config) (x : Situation) : Type 0 where
  times : AreTimes c x.next x.ack x.progress
  within : AllByRecursion IsWithinAsked x.flows
  live : AllByRecursion (IsPossibleLive c x.next) x.flows
  channel : AreOfChannel x.flows

small : (flows : List LiveFlow) → AllByRecursion (λ f. IsFlowSid f.sid) flows → AreSmall flows
small flows =
    all-implied (λ f. IsFlowSid f.sid) (λ f. f.sid < 2 ^ 16) flows (λ f is. omega (arith, is.1))

module _ (c : Config) (lawful : IsLawful c) (x : Situation) (known : IsWaitingOf c x) where
  heard-late : (receiver heard : ℕ) → IsHeard c x receiver heard → x.ack ≤ heard
  heard-late receiver heard is =
      let times : AreTimes c x.next x.ack x.progress = known.times in
      let late : x.ack ≤ slice_index x.progress receiver =
      progress-at c x (λ slot. x.ack ≤ slot) receiver (omega (arith, is.received, times.receivers))
      times.acknowledged in
      omega (arith, late, is.unacked)

  described : (flows : List LiveFlow) → AllByRecursion (IsPossibleLive c (x.next + c.frame)) flows
      → AreOfChannel flows → HoldBack c (ack_of c.pending (least x.progress) flows) flows
  described flows live channel =
      let times : AreTimes c x.next x.ack x.progress = known.times in
      let some : 0 < length x.progress = omega (arith, times.receivers, (bounds_of c lawful).receivers_positive) in
      record {
        least = held-from c.pending (least x.progress) flows c.start
            (least-from c.start x.progress some times.begun) flows
            (all-implied (IsPossibleLive c (x.next + c.frame)) (λ f. waits f ≡ true → c.start ≤ since f) flows
            (since-start c (x.next + c.frame)) live);
        few = omega (
          arith,
          few-before c.pending (least x.progress) flows,
          few-shown c.pending flows channel.ascend (small flows channel.sids),
        );
      }

  module _ (is : HoldBack c x.ack x.flows) where
    begun : (sid : ℕ) (spec : FlowSpec) → HoldBack c x.ack (with_flow (new_flow sid spec) x.flows)
    begun sid spec = record {
      least = is.least;
      few = omega (arith, is.few, count-with (waits_before x.ack) (new_flow sid spec) refl x.flows);
    }

    turned : (sid : ℕ) (k : LiveFlow → LiveFlow)
        → ((f : LiveFlow) → IsWithinAsked f → waits_before x.ack (k f) ≡ true → waits_before x.ack f ≡ true)
        → HoldBack c x.ack (changed sid k x.flows)
    turned sid k each = record {
      least = is.least;
      few = omega (
        arith,
        is.few,
        count-changed (waits_before x.ack) sid k x.flows
            (all-implied IsWithinAsked (λ f. waits_before x.ack (k f) ≡ true → waits_before x.ack f ≡ true) x.flows
            each known.within),
      );
    }

  shown-kept : (effect : Effect c x) → IsWaitingOf c (left c x effect) → HoldBack c x.ack x.flows
      → HoldBack c (ack_left c x effect) (flows_left c x effect)
  shown-kept (Begun sid spec may) new is = begun is sid spec
  shown-kept (Placed_first sid spec p may periodic at) new is = begun is sid spec
  shown-kept (Ended sid) new is = record {
    least = is.least;
    few = omega (arith, is.few, count-left (waits_before x.ack) (λ f. not (f.sid == sid)) x.flows);
  }
  shown-kept (Asked receiver sid bytes heard may some) new is =
      turned is sid (with_asked bytes heard) (asked-before x.ack bytes heard (heard-late receiver heard may))
  shown-kept (Replaced receiver sid bytes heard may) new is =
      turned is sid (with_replaced bytes heard)
      (λ f within. replaced-before x.ack bytes heard (heard-late receiver heard may) f)
  shown-kept (Changed sid spec may) new is = turned is sid (with_spec spec) (λ f within waiting. waiting)
  shown-kept (Placed_anew sid spec p may periodic at) new is =
      turned is sid (with_spec spec) (λ f within waiting. waiting)
  shown-kept (Kept_place sid spec p given has may same told) new is =
      turned is sid (with_spec spec) (λ f within waiting. waiting)
  shown-kept (Described plan lawful') new is = described (flows_after c x.next plan x.flows) new.live new.channel
  shown-kept effect new is = is

-- so it is of every legal history
pub shown-legal : (c : Config) → IsLawful c → (h : List Entry) → IsLegal c h
    → HoldBack c (situation_of c h).ack (situation_of c h).flows
shown-legal c lawful =
    kept-legal c (IsWaitingOf c)
    (λ h legal. record {
      times = times-legal c lawful h legal;
      within = within_asked c h legal;
      live = flows-legal c lawful h legal;
      channel = flows_of-channel c h;
    })
    (λ x. HoldBack c x.ack x.flows) (λ x effect old new is. shown-kept c lawful x old effect new is)
    (record { least = omega arith; few = omega arith })
