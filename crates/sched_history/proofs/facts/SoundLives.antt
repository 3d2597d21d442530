-- The live flows of a legal history: each was granted at most what it asked, within its ceilings.
use Rattle.std.proofs.Common.{◌≡◌, ℕ, ◌+◌, ◌≤◌, Bool, true, false, not, if◌then◌else◌, List, [], ◌∷◌, ◌++◌}
use Rattle.std.proofs.Common.{Option, None}
use Rattle.std.proofs.Common.{Some, refl, sym, ap, ◌∙◌, subst, Contains, arith}
use Rattle.std.specs.List.{AllByRecursion}
use Rattle.std.specs.Option.{option_map, option_map_or}
use Rattle.std.proofs.lemmas.Bool.Decides.{nat_tests}
use Rattle.std.proofs.lemmas.List.{append-nil}
use Rattle.minislots.specs.declared.config.Config.{Config}
use Rattle.flow_book.specs.declared.batches.Batches.{Batches}
use Rattle.sched_calls.specs.declared.spec.FlowSpec.{FlowSpec}
use Rattle.sched_calls.specs.FlowSpec.{rate_of, burst_of, peak_of, reserved_of, reserved_burst_of}
use Rattle.sched_calls.specs.declared.spec.TheConstants.{PEAK_BURST}
use Rattle.flow_book.specs.Flows.{LiveFlow, Charge, charges_of, granted}
use Rattle.flow_book.specs.Book.{has_ceiling_of, has_peak_of, has_reserve_of}
use Rattle.flow_book.specs.Ceiling.{KeepsCeiling}
use Rattle.flow_book.specs.Entry.{IsSoundFlow}
use Rattle.sched_calls.specs.declared.frame_map.FrameMap.{FrameMap}
use Rattle.map_build.specs.declared.purpose.Allocation.{Allocation}
use Rattle.map_build.specs.Plan.{Demand, grants_to, with_grants}
use Rattle.map_build.proofs.FlowsAfter.{with_grants-is}
use Rattle.sched_calls.specs.declared.call.Call.{Call}
use Rattle.sched_calls.specs.declared.call.Call.TheVariants as calls
use Rattle.sched_calls.specs.declared.reply.Reply.{Reply}
use Rattle.sched_calls.specs.declared.reply.Reply.TheVariants as replies
use Rattle.sched_calls.specs.declared.reply.Entry.{Entry}
use Rattle.sched_history.specs.Life.{Admission, Turn, Begins, Ends, turn_by, added_by, replaced_by, change_by}
use Rattle.sched_history.specs.Life.{grants_by, grants_of_map}
use Rattle.sched_history.specs.Life.{Life, life_of, flow_in_life, sids, flows_of}
use Rattle.sched_history.specs.Time.{next_after, ack_after}
use Rattle.sched_history.specs.Reserves.{header_after}
use Rattle.sched_history.specs.History.{demand_after, IsNextMap, map_by, IsStep, IsLegal}
use Rattle.sched_history.specs.Facts.{IsWithinAsked, IsWithinRate, IsWithinPeak, IsWithinReserved}
use Rattle.sched_history.proofs.steps.LegalHistories as legal
use Rattle.sched_history.proofs.steps.LegalHistories.{change_by_step, legal_induction}
use Rattle.sched_history.proofs.lives.LivesAfter.{with_since, life_of-stays, life_of-begins, life_of-ends}
use Rattle.sched_history.proofs.lives.FlowsAfter.{grown_by, flow_in_life-more}
use Rattle.sched_history.proofs.lists.Members.{IsImage, Contains-filter_map, all-chosen}
use Rattle.sched_history.proofs.plans.SoundPlans.{sound_plan}
use Rattle.sched_history.proofs.flows.MapGrants.{plan-HasBytes, grants_of_map-plan}

-- the life of every SID is sound
abbrev HasSoundLives : Config → List Entry → Type 0
HasSoundLives c h = (sid : ℕ) (life : Life) → life_of sid h ≡ Some life → IsSoundFlow c (flow_in_life c sid life)

-- a flow in a live SID's life
flow_said : (c : Config) (sid : ℕ) (o : Option Life) (f : LiveFlow) → option_map (flow_in_life c sid) o ≡ Some f
    → (life : Life) × (o ≡ Some life)
    × (flow_in_life c sid life ≡ f)
flow_said c sid None f is = absurd (cc)
flow_said c sid (Some life) f is = (life, refl, cc)

-- the live flow of a SID is the one of its life
pub flows_of-alone : (c : Config) (h : List Entry) (sid : ℕ) (life : Life) → life_of sid h ≡ Some life → (g : LiveFlow)
    → Contains (flows_of c h) g
    → g.sid ≡ sid → g ≡ flow_in_life c sid life
flows_of-alone c h sid life lives g member same =
    let image : IsImage (λ sid. option_map (flow_in_life c sid) (life_of sid h)) sids (Some g) =
    Contains-filter_map (λ sid. option_map (flow_in_life c sid) (life_of sid h)) sids g member in
    let said : (life : Life) × (life_of image.origin h ≡ Some life) × (flow_in_life c image.origin life ≡ g) =
    flow_said c image.origin (life_of image.origin h) g image.same in
    let number : image.origin ≡ sid = ap (λ (g : LiveFlow). g.sid) said.2 ∙ same in
    let lives' : life_of sid h ≡ Some said.0 = subst (λ s. life_of s h ≡ Some said.0) number said.1 in
    let them : said.0 ≡ life = cc in
    sym said.2
    ∙ (subst (λ s. flow_in_life c image.origin said.0 ≡ flow_in_life c s life) number
    (ap (flow_in_life c image.origin) them))

within-then : (o : Option ℕ) (granted asked more : ℕ) → granted ≤ asked
    → granted ≤ option_map_or (λ bytes. granted + bytes) o (asked + more)
within-then None granted asked more le = omega (arith, le)
within-then (Some bytes) granted asked more le = omega arith

-- flows that are the same by the test have this rate and burst in common
abbrev AreCommon : (FlowSpec → FlowSpec → Bool) → (FlowSpec → ℕ) → (FlowSpec → ℕ) → Type 0
AreCommon same rate burst =
    (spec other : FlowSpec) → same spec other ≡ true → (rate spec ≡ rate other) × (burst spec ≡ burst other)

ceilings-common : AreCommon has_ceiling_of rate_of burst_of
ceilings-common spec other same = (grind (arith, nat_tests), grind (arith, nat_tests))

peaks-common : AreCommon has_peak_of peak_of (λ spec. PEAK_BURST)
peaks-common spec other same = (grind (arith, nat_tests), refl)

reserves-common : AreCommon has_reserve_of reserved_of reserved_burst_of
reserves-common spec other same = (grind (arith, nat_tests), grind (arith, nat_tests))

module _ (c : Config) (same : FlowSpec → FlowSpec → Bool) (rate burst : FlowSpec → ℕ)
    (common : AreCommon same rate burst) (charges : List Charge) where
  -- charges keep the ceiling of these parameters
  abbrev Keeps : FlowSpec → List Charge → Type 0
  Keeps spec charged = KeepsCeiling c (rate spec) (burst spec) charged

  keeps-given : (spec other : FlowSpec) (stays : Bool) → same spec other ≡ stays → Keeps spec charges
      → Keeps other (if not stays then [] else charges)
  keeps-given spec other true is keeps = let ceiling = common spec other is in rw (← ceiling.0, ← ceiling.1) keeps
  keeps-given spec other false is keeps = λ some i j le within. absurd (omega arith)

  keeps-then : (spec : FlowSpec) (o : Option Admission) → Keeps spec charges
      → Keeps (option_map_or (λ a. a.spec) o spec)
      (if option_map_or (λ a. not (same spec a.spec)) o false then [] else charges)
  keeps-then spec None keeps = keeps
  keeps-then spec (Some a) keeps = keeps-given spec a.spec (same spec a.spec) refl keeps

-- a flow is sound with what an entry asks for it and gives to it
sound_then : (c : Config) (f : LiveFlow) (given : Option Admission) (replaced : Option ℕ) (more : ℕ) (batches : Batches)
    → IsSoundFlow c f → IsSoundFlow c (record f {
      spec = option_map_or (λ a. a.spec) given f.spec;
      asked = option_map_or (λ bytes. granted f + bytes) replaced (f.asked + more);
      batches = batches;
      sustained = if option_map_or (λ a. not (has_ceiling_of f.spec a.spec)) given false then [] else f.sustained;
      peak = if option_map_or (λ a. not (has_peak_of f.spec a.spec)) given false then [] else f.peak;
      reserved = if option_map_or (λ a. not (has_reserve_of f.spec a.spec)) given false then [] else f.reserved;
    })
sound_then c f given replaced more batches is = record {
  within = within-then replaced (granted f) f.asked more is.within;
  kept = keeps-then c has_ceiling_of rate_of burst_of ceilings-common f.sustained f.spec given is.kept;
  peak_kept = keeps-then c has_peak_of peak_of (λ spec. PEAK_BURST) peaks-common f.peak f.spec given is.peak_kept;
  reserved_kept = keeps-then c has_reserve_of reserved_of reserved_burst_of reserves-common f.reserved f.spec given
      is.reserved_kept;
}

-- a flow whose grants a MAP has more of is sound
sound_more : (c : Config) (f : LiveFlow) (more : ℕ) (batches : Batches) → IsSoundFlow c f
    → IsSoundFlow c (record f { asked = f.asked + more; batches = batches })
sound_more c f more batches is = record {
  within = omega (arith, is.within);
  kept = is.kept;
  peak_kept = is.peak_kept;
  reserved_kept = is.reserved_kept;
}

-- a flow without grants is sound
sound_new : (c : Config) (sid : ℕ) (life : Life) → life.since ≡ [] → IsSoundFlow c (flow_in_life c sid life)
sound_new c sid life new = rw new (record {
  within = omega arith;
  kept = λ some i j le within. absurd (omega arith);
  peak_kept = λ some i j le within. absurd (omega arith);
  reserved_kept = λ some i j le within. absurd (omega arith);
})

ungranted : (sid : ℕ) (reply : Reply) → map_by reply ≡ None → grants_by sid reply ≡ []
ungranted sid (replies.Built m) none = absurd (cc)
ungranted sid reply none = refl

module _ (c : Config) (h : List Entry) (sid : ℕ) (life : Life) (lives : life_of sid h ≡ Some life)
    (sound : IsSoundFlow c (flow_in_life c sid life)) where
  -- the grants of the next MAP keep a live flow sound
  sound_map : (m : FrameMap) → IsNextMap c h m
      → IsSoundFlow c (with_grants c (grants_of_map sid m) (flow_in_life c sid life))
  sound_map m next =
      let plan : List Allocation = next.0 in
      let d : Demand = demand_after c h in
      let grants : grants_of_map sid m ≡ grants_to (next_after c h) sid plan =
      ap (grants_of_map sid) next.2 ∙ grants_of_map-plan sid c d (header_after c h) (ack_after c h) plan
      (plan-HasBytes c d plan next.1) in
      rw grants
      (sound_plan c d (flow_in_life c sid life)
      (flows_of-alone c h sid life lives) [] plan next.1.each sound)

  sound_still : (e : Entry) → map_by e.reply ≡ None → IsSoundFlow c (grown_by c e (flow_in_life c sid life))
  sound_still e none =
      let f : LiveFlow = flow_in_life c sid life in
      rw (ungranted sid e.reply none, append-nil f.grants, append-nil f.sustained, append-nil f.peak)
      (sound_then c f (change_by sid e.call e.reply) (replaced_by c sid e.call e.reply)
      (added_by c sid e.call e.reply) _ sound)

  -- a MAP answers no request, and no change
  unasked : (call : Call) (m : FrameMap) → (replaced_by c sid call (replies.Built m) ≡ None)
      × (change_by sid call (replies.Built m) ≡ None)
  unasked (calls.Replace receiver other amount heard) m = (refl, refl)
  unasked (calls.Change other spec) m = (refl, refl)
  unasked call m = (refl, refl)

  sound_built : (e : Entry) (m : FrameMap) → IsNextMap c h m → e.reply ≡ replies.Built m
      → IsSoundFlow c (grown_by c e (flow_in_life c sid life))
  sound_built e m next is =
      rw (is, (unasked e.call m).0, (unasked e.call m).1)
      (sound_more c (record (flow_in_life c sid life) {
        grants = (flow_in_life c sid life).grants ++ grants_of_map sid m;
        sustained = (flow_in_life c sid life).sustained ++ charges_of (grants_of_map sid m);
        peak = (flow_in_life c sid life).peak ++ charges_of (grants_of_map sid m);
        reserved = (with_grants c (grants_of_map sid m) (flow_in_life c sid life)).reserved;
      }) (added_by c sid e.call (replies.Built m)) _
      (subst (IsSoundFlow c) (with_grants-is c (grants_of_map sid m) (flow_in_life c sid life)) (sound_map m next)))

  -- so does each legal entry
  sound_grown : (e : Entry) → IsStep c h e.call e.reply → IsSoundFlow c (grown_by c e (flow_in_life c sid life))
  sound_grown e step = elim (change_by_step c h e.call e.reply step) [
    | legal.Builds m next same ↦ sound_built e m next same
    | legal.Skips now start is first same ↦ sound_still e (ap map_by same)
    | legal.Stays still ↦ sound_still e still.0
  ]

module _ (c : Config) where
  -- a life that goes on
  goes_on : (h : List Entry) (e : Entry) (sid : ℕ) (old : Option Life) (life : Life) → life_of sid h ≡ old
      → option_map (with_since e) old ≡ Some life
      → IsStep c h e.call e.reply → HasSoundLives c h → IsSoundFlow c (flow_in_life c sid life)
  goes_on h e sid None life was is step sound = absurd (cc)
  goes_on h e sid (Some old) life was is step sound =
      let them : with_since e old ≡ life = cc in
      subst (λ l. IsSoundFlow c (flow_in_life c sid l)) them
      (rw (flow_in_life-more c sid e old) (sound_grown c h sid old was (sound sid old was) e step))

  turned : (h : List Entry) (e : Entry) (sid : ℕ) (turn : Option Turn) (life : Life) → turn_by sid e.call e.reply ≡ turn
      → life_of sid (h ++ e ∷ []) ≡ Some life
      → IsStep c h e.call e.reply → HasSoundLives c h → IsSoundFlow c (flow_in_life c sid life)
  turned h e sid None life is lives step sound = goes_on h e sid (life_of sid h) life refl
      (sym (life_of-stays sid h e is) ∙ lives) step sound
  turned h e sid (Some (Begins admission)) life is lives step sound =
      let begun : Some (record { admission = admission; since = [] }) ≡ Some life =
      sym (life_of-begins sid h e admission is) ∙ lives in
      sound_new c sid life
      (ap (λ (l : Life). l.since) (let same : life ≡ record { admission = admission; since = [] } = cc in same))
  turned h e sid (Some Ends) life is lives step sound =
      absurd (let none : None ≡ Some life = sym (life_of-ends sid h e is) ∙ lives in cc)

  -- every life of a legal history is sound
  lives_sound : (h : List Entry) → IsLegal c h → HasSoundLives c h
  lives_sound = legal_induction c (HasSoundLives c)
      (λ h e legal step sound sid life lives. turned h e sid (turn_by sid e.call e.reply) life refl lives step sound)
      (λ sid life none. absurd (cc))

  -- and so every live flow
  flow_sound : (h : List Entry) (sid : ℕ) (f : LiveFlow) → IsLegal c h
      → option_map (flow_in_life c sid) (life_of sid h) ≡ Some f
      → IsSoundFlow c f
  flow_sound h sid f legal is =
      let said : (life : Life) × (life_of sid h ≡ Some life) × (flow_in_life c sid life ≡ f) =
      flow_said c sid (life_of sid h) f is in
      subst (IsSoundFlow c) said.2 (lives_sound h legal sid said.0 said.1)

  -- no live flow was granted more than it asked
  pub within_asked : (h : List Entry) → IsLegal c h → AllByRecursion IsWithinAsked (flows_of c h)
  within_asked h legal = all-chosen IsWithinAsked (λ sid. option_map (flow_in_life c sid) (life_of sid h)) sids
      (λ sid f is. (flow_sound h sid f legal is).within)

  -- the grants of each keep its rate ceiling
  pub within_rate : (h : List Entry) → IsLegal c h → AllByRecursion (IsWithinRate c) (flows_of c h)
  within_rate h legal = all-chosen (IsWithinRate c) (λ sid. option_map (flow_in_life c sid) (life_of sid h)) sids
      (λ sid f is. (flow_sound h sid f legal is).kept)

  -- and its peak rate
  pub within_peak : (h : List Entry) → IsLegal c h → AllByRecursion (IsWithinPeak c) (flows_of c h)
  within_peak h legal = all-chosen (IsWithinPeak c) (λ sid. option_map (flow_in_life c sid) (life_of sid h)) sids
      (λ sid f is. (flow_sound h sid f legal is).peak_kept)

  -- and its reserved grants its reservation
  pub within_reserved : (h : List Entry) → IsLegal c h → AllByRecursion (IsWithinReserved c) (flows_of c h)
  within_reserved h legal =
      all-chosen (IsWithinReserved c) (λ sid. option_map (flow_in_life c sid) (life_of sid h)) sids
      (λ sid f is. (flow_sound h sid f legal is).reserved_kept)
