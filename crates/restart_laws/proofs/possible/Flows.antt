-- Each live flow of every legal history is one that may be.
use Rattle.std.proofs.Common.{◌≡◌, ℕ, ◌+◌, ◌≤◌, ◌==◌, List, [], ◌∷◌, slice_index}
use Rattle.std.proofs.Common.{map, not, None, arith}
use Rattle.std.specs.List.{AllByRecursion}
use Rattle.std.proofs.lemmas.Bool.{cond_both}
use Rattle.minislots.specs.declared.config.Config.{Config}
use Rattle.minislots.specs.Config.{IsLawful}
use Rattle.sched_calls.specs.declared.reply.Entry.{Entry}
use Rattle.sched_calls.specs.declared.spec.FlowSpec.{FlowSpec}
use Rattle.sched_calls.specs.FlowSpec.{first_fault}
use Rattle.sched_calls.proofs.Insertion.{all-put_in}
use Rattle.sched_calls.proofs.Removal.{all-filter}
use Rattle.flow_book.specs.Book.{with_flow, new_flow, changed, with_asked, with_replaced, with_spec}
use Rattle.flow_book.specs.Flows.{LiveFlow}
use Rattle.flow_book.proofs.Order.{all-implied}
use Rattle.flow_book.proofs.Started.{all-changed}
use Rattle.periodic.proofs.Joined.{all-map}
use Rattle.map_build.specs.declared.purpose.Allocation.{Allocation}
use Rattle.map_build.specs.Plan.{grants_to, flow_after, IsPlan}
use Rattle.channel_states.specs.PossibleFlow.{IsDescribed}
use Rattle.sched_history.specs.Facts.{IsWithinAsked}
use Rattle.sched_history.specs.Situation.{Situation, situation_of}
use Rattle.sched_history.specs.History.{demand_in, IsLegal}
use Rattle.sched_history.proofs.facts.SoundLives.{within_asked}
use Rattle.sched_history.proofs.flows.MapGrants.{plan-HasBytes}
use Rattle.sched_history.proofs.plans.PlanOffsets.{plan-offsets}
use Rattle.restart_laws.proofs.possible.Effects.{Effect, Begun, Placed_first, Ended, Asked, Replaced, Changed}
use Rattle.restart_laws.proofs.possible.Effects.{Placed_anew, Kept_place, Described, Skipped, IsHeard, flows_left}
use Rattle.restart_laws.proofs.possible.Effects.{next_left}
use Rattle.restart_laws.proofs.possible.Legal.{kept-legal}
use Rattle.restart_laws.proofs.possible.Live.{IsPossibleLive, live-later, live-granted, live-new, live-spec}
use Rattle.restart_laws.proofs.possible.Live.{live-asked, live-replaced, grants-possible}
use Rattle.restart_laws.proofs.possible.Times.{AreTimes, progress-at, times-legal}

-- What is known of times and flows of a legal history
record IsKnownOf (c : Config) (x : Situation) : Type 0 where
  times : AreTimes c x.next x.ack x.progress
  within : AllByRecursion IsWithinAsked x.flows

known-legal : (c : Config) → IsLawful c → (h : List Entry) → IsLegal c h → IsKnownOf c (situation_of c h)
known-legal c lawful h legal =
    record { times = times-legal c lawful h legal; within = within_asked c h legal }

-- what holds of each flow holds of each after a change that keeps it where something else holds of it
changed-where : (W Q : LiveFlow → Type 0) (sid : ℕ) (k : LiveFlow → LiveFlow)
    → ((f : LiveFlow) → W f → Q f → Q (k f)) → (flows : List LiveFlow) → AllByRecursion W flows
    → AllByRecursion Q flows → AllByRecursion Q (changed sid k flows)
changed-where W Q sid k keeps [] known all = tt
changed-where W Q sid k keeps (f ∷ flows) known all = (
  cond_both (f.sid == sid) (k f) f Q (λ own. keeps f known.0 all.0) (λ other. all.0),
  changed-where W Q sid k keeps flows known.1 all.1,
)

module _ (c : Config) (x : Situation) (known : IsKnownOf c x) where
  -- a request was heard in a described frame
  heard-described : (receiver heard : ℕ) → IsHeard c x receiver heard → IsDescribed c x.next heard
  heard-described receiver heard is =
      let times : AreTimes c x.next x.ack x.progress = known.times in
      let late : c.start ≤ slice_index x.progress receiver =
      progress-at c x (λ slot. c.start ≤ slot) receiver (omega (arith, is.received, times.receivers)) times.begun in
      (omega (arith, late, is.unacked), is.described)

  -- each flow may be live
  abbrev AreLive : ℕ → List LiveFlow → Type 0
  AreLive next flows = AllByRecursion (IsPossibleLive c next) flows

  granted : (plan : List Allocation) → IsPlan c (demand_in c x) plan → AreLive x.next x.flows
      → AreLive (x.next + c.frame) (map (flow_after c x.next plan) x.flows)
  granted plan is all =
      let offsets = plan-offsets c (demand_in c x) plan is in
      let has = plan-HasBytes c (demand_in c x) plan is in
      all-map (IsPossibleLive c (x.next + c.frame)) (flow_after c x.next plan) x.flows
      (all-implied (IsPossibleLive c x.next) (λ f. IsPossibleLive c (x.next + c.frame) (flow_after c x.next plan f))
      x.flows (λ f live. live-granted c x.next (x.next + c.frame) (omega arith) (grants_to x.next f.sid plan) f
      (grants-possible c c.frame x.next f.sid known.times.started plan offsets has) live) all)

  begun : (sid : ℕ) (spec : FlowSpec) → first_fault c spec ≡ None → AreLive x.next x.flows
      → AreLive x.next (with_flow (new_flow sid spec) x.flows)
  begun sid spec none all =
      all-put_in (λ f. f.sid) (IsPossibleLive c x.next) (new_flow sid spec) x.flows
      (live-new c x.next sid spec none) all

  given : (sid : ℕ) (spec : FlowSpec) → first_fault c spec ≡ None → AreLive x.next x.flows
      → AreLive x.next (changed sid (with_spec spec) x.flows)
  given sid spec none all =
      all-changed (IsPossibleLive c x.next) sid (with_spec spec) x.flows
      (λ f live. live-spec c x.next spec f none live) all

  flows-kept : (effect : Effect c x) → AreLive x.next x.flows → AreLive (next_left c x effect) (flows_left c x effect)
  flows-kept (Begun sid spec may) all = begun sid spec may.no_fault all
  flows-kept (Placed_first sid spec p may periodic lawful) all = begun sid spec may.no_fault all
  flows-kept (Ended sid) all = all-filter (IsPossibleLive c x.next) (λ f. not (f.sid == sid)) x.flows all
  flows-kept (Asked receiver sid bytes heard may some) all =
      changed-where IsWithinAsked (IsPossibleLive c x.next) sid (with_asked bytes heard)
      (λ f within live. live-asked c x.next bytes heard (heard-described receiver heard may) f some within live)
      x.flows known.within all
  flows-kept (Replaced receiver sid bytes heard may) all =
      all-changed (IsPossibleLive c x.next) sid (with_replaced bytes heard) x.flows
      (live-replaced c x.next bytes heard (heard-described receiver heard may)) all
  flows-kept (Changed sid spec may) all = given sid spec may.no_fault all
  flows-kept (Placed_anew sid spec p may periodic lawful) all = given sid spec may.no_fault all
  flows-kept (Kept_place sid spec p has is may same told) all = given sid spec may.no_fault all
  flows-kept (Described plan is) all = granted plan is all
  flows-kept (Skipped start later) all =
      all-implied (IsPossibleLive c x.next) (IsPossibleLive c start) x.flows
      (live-later c x.next start later) all
  flows-kept effect all = all

-- so it is of every legal history
pub flows-legal : (c : Config) → IsLawful c → (h : List Entry) → IsLegal c h
    → AllByRecursion (IsPossibleLive c (situation_of c h).next) (situation_of c h).flows
flows-legal c lawful =
    kept-legal c (IsKnownOf c) (known-legal c lawful) (λ x. AllByRecursion (IsPossibleLive c x.next) x.flows)
    (λ x effect old new all. flows-kept c x old effect all) tt
