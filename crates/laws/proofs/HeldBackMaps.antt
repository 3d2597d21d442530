-- The acknowledge time and the pending grants of the MAP that an entry builds, by the flows after it.
use Rattle.std.proofs.Common.{◌≡◌, ℕ, zero, suc, ◌+◌, ◌<◌, ◌≤◌, ◌^◌, Bool, true, List, [], ◌∷◌, ◌++◌, map, filter}
use Rattle.std.proofs.Common.{length, get_or, Contains, None, refl, sym, ap, ◌∙◌, subst, cond}
use Rattle.std.proofs.Common.{arith}
use Rattle.std.specs.List.{AllByRecursion, count_by}
use Rattle.std.proofs.lemmas.Bool.{cond_both}
use Rattle.std.proofs.lemmas.List.Sums.{sum_by-cons}
use Rattle.minislots.specs.declared.config.Config.{Config}
use Rattle.map_codec.specs.declared.element.Element.{Element}
use Rattle.flow_book.specs.declared.batches.Batches.{Batches}
use Rattle.flow_book.specs.Flows.{LiveFlow, granted}
use Rattle.flow_book.specs.Shown.{waits, is_shown, ack_of}
use Rattle.flow_book.proofs.Order.{all-implied}
use Rattle.flow_book.proofs.InLine.{AreSmall, few-wait, few-shown, ack-is}
use Rattle.sched_calls.specs.declared.frame_map.FrameMap.{FrameMap}
use Rattle.map_build.specs.Spots.{IsFlowSid}
use Rattle.map_build.specs.Purpose.{element_of}
use Rattle.map_build.specs.declared.purpose.Allocation.{Allocation}
use Rattle.map_build.specs.Plan.{grants_to, flow_after, flows_after}
use Rattle.map_build.specs.FrameMap.{head_of, null_element, pending_of, pending}
use Rattle.map_build.proofs.FlowsAfter.{with_grants-is}
use Rattle.map_build.proofs.SameSpots.{all-members}
use Rattle.sched_calls.specs.declared.call.Call.{Call}
use Rattle.sched_calls.specs.declared.call.Call.TheVariants as calls
use Rattle.sched_calls.specs.declared.reply.Reply.TheVariants as replies
use Rattle.sched_calls.specs.declared.reply.Entry.{Entry}
use Rattle.sched_history.specs.Life.{turn_by, added_by, replaced_by, change_by, grants_of_map, batches_by}
use Rattle.sched_history.specs.Life.{flows_of}
use Rattle.sched_history.specs.Time.{next_after, ack_after}
use Rattle.sched_history.specs.Reserves.{header_after}
use Rattle.sched_history.specs.History.{demand_after, IsNextMap}
use Rattle.sched_history.proofs.lists.Members.{Contains-first, Contains-later}
use Rattle.sched_history.proofs.lives.Finding.{flows_of-channel}
use Rattle.sched_history.proofs.lives.FlowsAfter.{grown_by, flows_of-grown}
use Rattle.sched_history.proofs.flows.FlowCalls.{map-each}
use Rattle.sched_history.proofs.flows.MapGrants.{plan-HasBytes, grants_of_map-plan}
use Rattle.laws.specs.Waiting.{HasPending}
use Rattle.laws.proofs.HeldBack.{late, late-shown, few-late}
use Rattle.laws.proofs.LateFlows.{one-weaker}

count-implied : {X : Type 0} (p q : X → Bool) (xs : List X) → AllByRecursion (λ x. p x ≡ true → q x ≡ true) xs
    → count_by p xs ≤ count_by q xs
count-implied p q [] all = omega arith
count-implied p q (x ∷ xs) all =
    omega (
      arith,
      sum_by-cons (λ y. cond {A = ℕ} (p y) 1 0) x xs,
      sum_by-cons (λ y. cond {A = ℕ} (q y) 1 0) x xs,
      one-weaker (p x) (q x) all.0,
      count-implied p q xs all.1,
    )

contains-kept : (p : LiveFlow → Bool) (k : LiveFlow → Element) (g : LiveFlow) (fs : List LiveFlow) (i : ℕ)
    → i < length fs → get_or fs i g ≡ g → p g ≡ true → Contains (map k (filter p fs)) (k g)
contains-kept p k g [] i lt at takes = absurd (omega arith)
contains-kept p k g (f ∷ fs) zero lt at takes =
    let here : p f ≡ true = ap p at ∙ takes in
    rw here (subst (λ x. Contains (k f ∷ map k (filter p fs)) (k x)) at (Contains-first (k f) (map k (filter p fs))))
contains-kept p k g (f ∷ fs) (suc i) lt at takes =
    cond_both (p f) (f ∷ filter p fs) (filter p fs) (λ gs. Contains (map k gs) (k g))
    (λ yes'. Contains-later (k f) (map k (filter p fs)) (k g) (contains-kept p k g fs i (omega arith) at takes))
    (λ no'. contains-kept p k g fs i (omega arith) at takes)

-- an entry that builds a MAP begins and ends no life, and asks for nothing
turn-built : (sid : ℕ) (call : Call) (m : FrameMap) → turn_by sid call (replies.Built m) ≡ None
turn-built sid (calls.Admit other spec) m = refl
turn-built sid (calls.Remove other) m = refl
turn-built sid call m = refl

added-built : (c : Config) (sid : ℕ) (call : Call) (m : FrameMap) → added_by c sid call (replies.Built m) ≡ 0
added-built c sid (calls.Ask receiver other amount heard) m = refl
added-built c sid call m = refl

replaced-built : (c : Config) (sid : ℕ) (call : Call) (m : FrameMap) → replaced_by c sid call (replies.Built m) ≡ None
replaced-built c sid (calls.Replace receiver other amount heard) m = refl
replaced-built c sid call m = refl

-- nor does it change a flow
changed-built : (sid : ℕ) (call : Call) (m : FrameMap) → change_by sid call (replies.Built m) ≡ None
changed-built sid (calls.Change other spec) m = refl
changed-built sid call m = refl

batches-built : (c : Config) (sid : ℕ) (call : Call) (m : FrameMap) (b : Batches) (asked granted : ℕ)
    → batches_by c sid call (replies.Built m) b asked granted ≡ b
batches-built c sid (calls.Ask receiver other amount heard) m b asked granted = refl
batches-built c sid (calls.Replace receiver other amount heard) m b asked granted = refl
batches-built c sid call m b asked granted = refl

module _ (c : Config) (h : List Entry) (e : Entry) (m : FrameMap) (same : e.reply ≡ replies.Built m)
    (next : IsNextMap c h m) where
  abbrev plan : List Allocation
  plan = next.0

  abbrev after : List LiveFlow
  after = flows_of c (h ++ e ∷ [])

  reads : (sid : ℕ) → grants_of_map sid m ≡ grants_to (next_after c h) sid plan
  reads sid =
      ap (grants_of_map sid) next.2
      ∙ grants_of_map-plan sid c (demand_after c h) (header_after c h) (ack_after c h) plan
      (plan-HasBytes c (demand_after c h) plan next.1)

  grown-built : (f : LiveFlow) → grown_by c e f ≡ flow_after c (next_after c h) plan f
  grown-built f =
      let none : f.asked + 0 ≡ f.asked = omega arith in
      let batches = batches-built c f.sid e.call m f.batches f.asked (granted f) in
      rw (
        same,
        changed-built f.sid e.call m,
        replaced-built c f.sid e.call m,
        added-built c f.sid e.call m,
        batches,
        none,
        reads f.sid,
      ) (sym (with_grants-is c (grants_to (next_after c h) f.sid plan) f))

  -- the flows after the MAP
  flows-built : after ≡ flows_after c (next_after c h) plan (flows_of c h)
  flows-built =
      flows_of-grown c h e (λ sid. ap (turn_by sid e.call) same ∙ turn-built sid e.call m)
      ∙ map-each (grown_by c e) (flow_after c (next_after c h) plan) (flows_of c h) grown-built

  pub ack-built : m.ack ≡ ack_of c.pending (ack_after c h) after
  ack-built = ap (λ (n : FrameMap). n.ack) next.2 ∙ ap (ack_of c.pending (ack_after c h)) (sym flows-built)

  elements-built : m.wire.elements
      ≡ (head_of c (demand_after c h) ∷ map (element_of c) plan) ++ null_element c ∷ pending c after
  elements-built = ap (λ (n : FrameMap). n.wire.elements) next.2
      ∙ ap (λ fs. head_of c (demand_after c h) ∷ (map (element_of c) plan ++ null_element c ∷ pending c fs))
      (sym flows-built)

  small : AreSmall after
  small = all-implied (λ f. IsFlowSid f.sid) (λ f. f.sid < 2 ^ 16) after (λ f is. omega (arith, is.1))
      (flows_of-channel c (h ++ e ∷ [])).sids

  -- few wait since before its acknowledge time
  pub few-built : count_by (late m.ack) after ≤ c.pending
  few-built =
      let shown = few-shown c.pending after (flows_of-channel c (h ++ e ∷ [])).ascend small in
      let fewer : count_by (late (ack_of c.pending (ack_after c h) after)) after
      ≤ count_by (is_shown c.pending after) after =
      count-implied (late (ack_of c.pending (ack_after c h) after)) (is_shown c.pending after) after
      (all-members (λ f. late (ack_of c.pending (ack_after c h) after) f ≡ true → is_shown c.pending after f ≡ true)
      after (λ f has is. late-shown c.pending (ack_after c h) after f has is)) in
      rw ack-built (omega (arith, shown, fewer))

  pub whole-progress : count_by waits after ≤ c.pending → m.ack ≡ ack_after c h
  whole-progress few =
      let ascend = (flows_of-channel c (h ++ e ∷ [])).ascend in
      ack-built
      ∙ sym (ack-is c.pending after ascend small None (ack_after c h) (few-wait c.pending after ascend small few))

  -- no later than it is a minislot since before which few wait
  pub falls-not : (slot : ℕ) → slot ≤ ack_after c h → count_by (late slot) after ≤ c.pending → slot ≤ m.ack
  falls-not slot le few = rw ack-built (few-late c.pending (ack_after c h) after slot le few)

  pub shows : (f : LiveFlow) → Contains after f → late m.ack f ≡ true → HasPending c m f
  shows f has is = record {
    front = head_of c (demand_after c h) ∷ map (element_of c) plan;
    behind = pending c after;
    whole = elements-built;
    pending = contains-kept (is_shown c.pending after) (pending_of c) f after has.0 has.1 has.2
        (late-shown c.pending (ack_after c h) after f has (rw ack-built at is));
  }
