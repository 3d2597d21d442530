-- The numbers of a legal history fit the types of their fields where those of its calls do, and no reply is long.
use Rattle.std.proofs.Common.{◌≡◌, ℕ, ◌+◌, ◌*◌, ◌^◌, ◌<◌, ◌≤◌, Bool, true, false, cond, if◌then◌else◌, find, ◌==◌}
use Rattle.std.proofs.Common.{List, [], ◌∷◌, length, slice_index, Option, None, Some, refl, sym, ap, ◌∙◌, subst, inl}
use Rattle.std.proofs.Common.{inr, arith}
use Rattle.std.specs.List.{AllByRecursion}
use Rattle.std.specs.Option.{IsSomeAnd, MatchOption}
use Rattle.minislots.specs.declared.config.Config.{Config}
use Rattle.minislots.specs.Config.{IsLawful}
use Rattle.minislots.proofs.Bounds.{bounds_of}
use Rattle.sched_calls.specs.declared.spec.FlowSpec.{FlowSpec}
use Rattle.sched_calls.specs.declared.spec.FlowSpec.TheVariants.{Unsolicited, Polled, BestEffort}
use Rattle.sched_calls.specs.FlowSpec.{has_place_of, takes_requests}
use Rattle.flow_book.specs.Flows.{LiveFlow, flow_of, granted, outstanding}
use Rattle.sched_calls.specs.declared.placement.Placement.{Placement}
use Rattle.periodic.specs.Placement.{Placed, IsPlacement, IsToldFrom}
use Rattle.periodic.specs.Table.{without}
use Rattle.periodic.proofs.Parameters.{HasPlaces, places_of}
use Rattle.periodic.proofs.Told.{alike-placed, placement-told}
use Rattle.sched_calls.specs.declared.call.Call.{Call}
use Rattle.sched_calls.specs.declared.call.Call.TheVariants as calls
use Rattle.sched_calls.specs.declared.reply.Refusal.{Refusal}
use Rattle.sched_calls.specs.declared.reply.Reply.{Reply}
use Rattle.sched_calls.specs.declared.reply.Reply.TheVariants as replies
use Rattle.sched_calls.specs.declared.reply.Entry.{Entry}
use Rattle.sched_calls.specs.declared.reply.TheConstants.{MAX_WHOLE_HISTORY}
use Rattle.sched_history.specs.Life.{Admission, flows_of, table_of}
use Rattle.sched_history.specs.Time.{next_after, IsFirstStart}
use Rattle.sched_history.specs.Situation.{situation_of, given_of}
use Rattle.sched_history.specs.Refusal.{refusal_of, most_bytes}
use Rattle.sched_history.specs.History.{PlacesOrRefuses, AnswersAdmit, PlacesAnew, AnswersChange, flow_status, Answers}
use Rattle.sched_history.specs.History.{IsStep, IsLegal}
use Rattle.sched_history.specs.Facts.{IsWithinAsked}
use Rattle.sched_history.proofs.lives.Left.{progress-below}
use Rattle.sched_history.proofs.facts.Orderly.{next_orderly}
use Rattle.sched_history.proofs.facts.SoundLives.{within_asked}
use Rattle.sched_history.proofs.steps.LegalBounds.{next_after-most, flows_of-asked}
use Rattle.sched_history.proofs.placements.PlacedLives.{WasPlacedIn, given_placed}
use Rattle.sched_history.proofs.steps.Passed.{passed-admit, passed-change, passed-skip}
use Rattle.sched_history.proofs.time.FirstStarts.{first_start-near}
use Rattle.history_writing.specs.Fits.{CallFits, ConfigFits, PlacementFits, ReplyFits}
use Rattle.laws.proofs.EntryRoom.{IsShort}
use Rattle.laws.proofs.Times.{progress_of-most}
use Rattle.laws.proofs.Refusals.{RefusalFits, refusal_fits}
use Rattle.laws.proofs.Places.{starts-few, starts-small, reference-near}
use Rattle.laws.proofs.Maps.{next_fits}

-- The numbers of a reply fit, and it is short
pub record IsGood (reply : Reply) : Type 0 where
  pub fits : ReplyFits reply
  pub short : IsShort reply

found-here : {X : Type 0} (P : X → Type 0) (y x : X) (rest : Option X) (b : Bool) → P y → (rest ≡ Some x → P x)
    → cond b (Some y) rest ≡ Some x → P x
found-here P y x rest true here later is = let same : y ≡ x = cc in subst P same here
found-here P y x rest false here later is = later is

-- what holds of all holds of what is found
found-holds : {X : Type 0} (P : X → Type 0) (test : X → Bool) (xs : List X) (x : X) → AllByRecursion P xs
    → find test xs ≡ Some x → P x
found-holds P test [] x all is = absurd (cc)
found-holds P test (y ∷ xs) x all is =
    found-here P y x (find test xs) (test y) all.0 (found-holds P test xs x all.1) is

module _ (c : Config) (lawful : IsLawful c) (config_fits : ConfigFits c) (h : List Entry) (legal : IsLegal c h)
    (fits : AllByRecursion (λ e. CallFits e.call) h) (few : length h ≤ MAX_WHOLE_HISTORY) where
  next-small : next_after c h < 2 ^ 64
  next-small = omega (arith, next_after-most c lawful h legal)

  progress-small : (receiver : ℕ) → slice_index (situation_of c h).progress receiver < 2 ^ 64
  progress-small = progress-below c h (2 ^ 64) (omega arith)
      (λ receiver. omega (arith, next_after-most c lawful h legal, progress_of-most c h legal receiver))

  -- a placement that was lawful beside some flows, from the next frame on
  place-good : (table : List Placed) (spec : FlowSpec) (p : Placement) → HasPlaces c spec
      → IsPlacement c table spec (next_after c h) p → PlacementFits (Some p) × (length p.starts ≤ 512)
  place-good table spec p places lawful_place =
      let bounds = bounds_of c lawful in
      let near = reference-near c bounds table spec places (next_after c h) p lawful_place in (
        (
          omega (arith, near, next_after-most c lawful h legal),
          starts-small c bounds table spec places (next_after c h) p lawful_place,
        ),
        starts-few c bounds table spec places (next_after c h) p lawful_place,
      )

  placed-good : (spec : FlowSpec) (reply : Reply) → HasPlaces c spec
      → PlacesOrRefuses c (situation_of c h) spec reply → IsGood reply
  placed-good spec reply places (inl (p, lawful_place, is)) =
      let good = place-good (table_of h) spec p places lawful_place in
      subst IsGood (sym is) (record { fits = good.0; short = good.1 })
  placed-good spec reply places (inr (never, is)) = subst IsGood (sym is) (record { fits = tt; short = tt })

  -- one of a change
  moved-good : (table : List Placed) (spec : FlowSpec) (p : Placement) (reply : Reply) → HasPlaces c spec
      → IsPlacement c table spec (next_after c h) p → reply ≡ replies.Changed (Some p) → IsGood reply
  moved-good table spec p reply places lawful_place is =
      let good = place-good table spec p places lawful_place in
      subst IsGood (sym is) (record { fits = good.0; short = good.1 })

  anew-good : (sid : ℕ) (spec : FlowSpec) (reply : Reply) → HasPlaces c spec
      → PlacesAnew c (situation_of c h) sid spec reply
      → IsGood reply
  anew-good sid spec reply places (inl (p, lawful_place, is)) =
      moved-good (without sid (table_of h)) spec p reply places lawful_place is
  anew-good sid spec reply places (inr (never, is)) = subst IsGood (sym is) (record { fits = tt; short = tt })

  -- a placement that is kept was lawful when it was made
  kept-placed : (given : Admission) (spec : FlowSpec) (p : Placement) (stood : Option Placement)
      → given.placement ≡ stood → WasPlacedIn c (next_after c h) given → has_place_of given.spec spec ≡ true
      → IsSomeAnd stood (λ stands. IsToldFrom c spec (next_after c h) stands p)
      → (table : List Placed) × IsPlacement c table spec (next_after c h) p
  kept-placed given spec p None at was same told = absurd told
  kept-placed given spec p (Some stands) at was same told =
      let lay = was stands at in (
        lay.table,
        placement-told c given.spec spec stands p (next_after c h) (alike-placed c given.spec spec same) told
            lay.table lay.since lay.lawful,
      )

  given-good : (sid : ℕ) (given : Admission) (spec : FlowSpec) (reply : Reply)
      → refusal_of c h (calls.Change sid spec) ≡ None → WasPlacedIn c (next_after c h) given
      → AnswersChange c (situation_of c h) sid given spec reply → IsGood reply
  given-good sid given spec reply none was (inl (same, (p, told, is))) =
      let periodic = (alike-placed c given.spec spec same).periodic in
      let places = places_of c spec lawful periodic (passed-change c (situation_of c h) sid spec none).no_fault in
      let kept = kept-placed given spec p given.placement refl was same told in
      moved-good kept.0 spec p reply places kept.1 is
  given-good sid given spec reply none was (inr (inl (other, periodic, answers))) =
      anew-good sid spec reply (places_of c spec lawful periodic (passed-change c
      (situation_of c h) sid spec none).no_fault) answers
  given-good sid given spec reply none was (inr (inr (aperiodic, is))) =
      subst IsGood (sym is) (record { fits = tt; short = tt })

  change-good : (sid : ℕ) (spec : FlowSpec) (o : Option Admission) (reply : Reply)
      → given_of sid (situation_of c h) ≡ o → refusal_of c h (calls.Change sid spec) ≡ None
      → MatchOption o ⊥ (λ given. AnswersChange c (situation_of c h) sid given spec reply) → IsGood reply
  change-good sid spec None reply is none answers = absurd answers
  change-good sid spec (Some given) reply is none answers =
      let good = (passed-change c (situation_of c h) sid spec none).known.good in
      given-good sid given spec reply none (given_placed c h legal sid good given is) answers

  admit-good : (sid : ℕ) (spec : FlowSpec) (reply : Reply) → refusal_of c h (calls.Admit sid spec) ≡ None
      → AnswersAdmit c (situation_of c h) spec reply → IsGood reply
  admit-good sid (Unsolicited size interval jitter grants) reply none answers =
      let spec = Unsolicited size interval jitter grants in
      placed-good spec reply (places_of c spec lawful refl (passed-admit c
      (situation_of c h) sid spec none).no_fault) answers
  admit-good sid (Polled interval jitter rate burst peak) reply none answers =
      let spec = Polled interval jitter rate burst peak in
      placed-good spec reply (places_of c spec lawful refl (passed-admit c
      (situation_of c h) sid spec none).no_fault) answers
  admit-good sid (BestEffort priority rate burst peak reserved reserved-burst) reply none answers =
      subst IsGood (sym answers) (record { fits = tt; short = tt })

  sums-good : (f : LiveFlow) (b : Bool) → f.asked ≤ most_bytes * length h → granted f ≤ f.asked
      → IsGood (if b then replies.Flow f.asked (granted f) (outstanding f) else replies.Flow 0 0 0)
  sums-good f true asked within =
      let all : f.asked < 2 ^ 64 = omega (arith, asked, few) in
      record { fits = (all, omega (arith, all, within), omega (arith, all)); short = tt }
  sums-good f false asked within = record { fits = (omega arith, omega arith, omega arith); short = tt }

  live-good : (sid : ℕ) (o : Option LiveFlow) (reply : Reply) → flow_of sid (flows_of c h) ≡ o
      → MatchOption o ⊥ (λ f. reply ≡ flow_status f) → IsGood reply
  live-good sid None reply is answers = absurd answers
  live-good sid (Some f) reply is answers =
      let asked = found-holds (λ f. f.asked ≤ most_bytes * length h) (λ f. f.sid == sid) (flows_of c h) f
      (flows_of-asked c lawful h legal) is in
      let within = found-holds IsWithinAsked (λ f. f.sid == sid) (flows_of c h) f (within_asked c h legal) is in
      subst IsGood (sym answers) (sums-good f (takes_requests f.spec) asked within)

  plain-good : (reply said : Reply) → reply ≡ said → IsGood said → IsGood reply
  plain-good reply said is good = subst IsGood (sym is) good

  skip-good : (now start : ℕ) → refusal_of c h (calls.Skip now) ≡ None → IsFirstStart c (now + c.lead) start
      → IsGood (replies.Skipped start)
  skip-good now start none first =
      let bounds = bounds_of c lawful in
      let near = first_start-near c (now + c.lead) (omega (arith, bounds.frame_least)) start first in
      let clock = (passed-skip c (situation_of c h) now none).clock in
      record { fits = omega (arith, near, clock, bounds.lead_most); short = tt }

  answer-good : (call : Call) (reply : Reply) → refusal_of c h call ≡ None → Answers c h call reply → IsGood reply
  answer-good (calls.Admit sid spec) reply none answers = admit-good sid spec reply none answers
  answer-good (calls.Remove sid) reply none answers =
      plain-good reply replies.Removed answers (record { fits = tt; short = tt })
  answer-good (calls.Ask receiver sid amount heard) reply none answers =
      plain-good reply replies.Taken answers (record { fits = tt; short = tt })
  answer-good (calls.Heard receiver upto) reply none answers =
      plain-good reply replies.Noted answers (record { fits = tt; short = tt })
  answer-good (calls.Build now) reply none (m, next, is) =
      let orderly = next_orderly c lawful h m legal next in
      plain-good reply (replies.Built m) is (record {
        fits = next_fits c h m lawful config_fits legal fits next;
        short = (omega (arith, orderly.counted, orderly.within), orderly.within);
      })
  answer-good (calls.Skip now) reply none (start, first, is) =
      plain-good reply (replies.Skipped start) is (skip-good now start none first)
  answer-good (calls.Status sid) reply none answers = live-good sid (flow_of sid (flows_of c h)) reply refl answers
  answer-good (calls.Reserve usage slots) reply none answers =
      plain-good reply replies.Reserved answers (record { fits = tt; short = tt })
  answer-good (calls.Header header) reply none answers =
      plain-good reply replies.Noted answers (record { fits = tt; short = tt })
  answer-good (calls.Replace receiver sid amount heard) reply none answers =
      plain-good reply replies.Taken answers (record { fits = tt; short = tt })
  answer-good (calls.Change sid spec) reply none answers =
      change-good sid spec (given_of sid (situation_of c h)) reply refl none answers
  answer-good (calls.Rest sid) reply none answers =
      plain-good reply replies.Noted answers (record { fits = tt; short = tt })
  answer-good (calls.Wake sid) reply none answers =
      plain-good reply replies.Noted answers (record { fits = tt; short = tt })

  refused-good : (refusal : Refusal) → RefusalFits refusal → IsGood (replies.Refused refusal)
  refused-good refusal fits = record { fits = fits; short = tt }

  step-good : (call : Call) (reply : Reply) (o : Option Refusal) → refusal_of c h call ≡ o
      → MatchOption o (Answers c h call reply) (λ refusal. reply ≡ replies.Refused refusal) → IsGood reply
  step-good call reply None is step = answer-good call reply is step
  step-good call reply (Some refusal) is step =
      plain-good reply (replies.Refused refusal) step
      (refused-good refusal (refusal_fits c (situation_of c h) next-small progress-small call refusal is))

  -- the reply that may follow is good
  pub reply-good : (call : Call) (reply : Reply) → IsStep c h call reply → IsGood reply
  reply-good call reply step = step-good call reply (refusal_of c h call) refl step
