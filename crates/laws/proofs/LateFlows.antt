-- How many flows wait since before a minislot, after one entry more.
use Rattle.std.proofs.Common.{◌≡◌, ℕ, ◌+◌, ◌<◌, ◌≤◌, Bool, true, false, ◌==◌, if◌then◌else◌, cond}
use Rattle.std.proofs.Common.{List, [], ◌∷◌, ◌++◌, Option, None, Some, refl, sym, ◌∙◌, subst, append-nil, arith}
use Rattle.std.specs.List.{count_by, filter_map, cons_option}
use Rattle.std.specs.Option.{option_map, option_map_or}
use Rattle.std.proofs.lemmas.Bool.Decides.{nat_tests}
use Rattle.std.proofs.lemmas.List.Sums.{sum_by-append, sum_by-cons}
use Rattle.minislots.specs.declared.config.Config.{Config}
use Rattle.sched_calls.specs.Amount.{requested}
use Rattle.flow_book.specs.declared.batches.Batches.{Batches}
use Rattle.flow_book.specs.declared.flow.Grant.{Grant}
use Rattle.flow_book.specs.Batches.{with_request, since_of}
use Rattle.flow_book.specs.Flows.{LiveFlow, granted, bytes_of}
use Rattle.flow_book.specs.Shown.{waits}
use Rattle.sched_calls.specs.declared.call.Call.{Call}
use Rattle.sched_calls.specs.declared.call.Call.TheVariants as calls
use Rattle.sched_calls.specs.declared.reply.Reply.{Reply}
use Rattle.sched_calls.specs.declared.reply.Reply.TheVariants as replies
use Rattle.sched_calls.specs.declared.reply.Entry.{Entry}
use Rattle.sched_history.specs.Life.{Turn, Begins, Ends, turn_by, Life, life_of, added_by, replaced_by, grants_by}
use Rattle.sched_history.specs.Life.{batches_by}
use Rattle.sched_history.specs.Life.{flow_in_life, sids, flows_of}
use Rattle.sched_history.proofs.lives.LivesAfter.{life_of-begins, life_of-ends}
use Rattle.sched_history.proofs.lives.Finding.{flow_at}
use Rattle.sched_history.proofs.lives.FlowsAfter.{grown_by, flow_at-stays}
use Rattle.laws.proofs.Since.{since-rises, alone-since, waited}
use Rattle.laws.proofs.WaitingLives.{HaveBatches}
use Rattle.laws.proofs.HeldBack.{late, late-parts, late-is}

-- what is there now passes the test only where what was there before does
abbrev AddsNone : {Y : Type 0} → (Y → Bool) → Option Y → Option Y → Type 0
AddsNone p None None = Unit {0}
AddsNone p None (Some y) = p y ≡ false
AddsNone p (Some x) None = Unit {0}
AddsNone p (Some x) (Some y) = p y ≡ true → p x ≡ true

abbrev one_of : {Y : Type 0} → (Y → Bool) → Option Y → ℕ
one_of p None = 0
one_of p (Some y) = cond (p y) 1 0

pub one-weaker : (a b : Bool) → (a ≡ true → b ≡ true) → cond {A = ℕ} a 1 0 ≤ cond {A = ℕ} b 1 0
one-weaker true b weaker = rw (weaker refl) (omega arith)
one-weaker false b weaker = omega arith

module _ {Y : Type 0} (p : Y → Bool) where
  count-cons_option : (o : Option Y) (ys : List Y) → count_by p (cons_option o ys) ≡ one_of p o + count_by p ys
  count-cons_option None ys = omega arith
  count-cons_option (Some y) ys = sum_by-cons (λ z. cond (p z) 1 0) y ys

  no_more : (old new : Option Y) → AddsNone p old new → one_of p new ≤ one_of p old
  no_more None None adds = omega arith
  no_more None (Some y) adds = rw adds (omega arith)
  no_more (Some x) None adds = omega arith
  no_more (Some x) (Some y) adds = one-weaker (p y) (p x) adds

  -- then no more of what is chosen pass it
  count-chosen : {X : Type 0} (f g : X → Option Y) (xs : List X) → ((x : X) → AddsNone p (f x) (g x))
      → count_by p (filter_map g xs) ≤ count_by p (filter_map f xs)
  count-chosen f g [] adds = omega arith
  count-chosen f g (x ∷ xs) adds =
      omega (
        arith,
        count-cons_option (f x) (filter_map f xs),
        count-cons_option (g x) (filter_map g xs),
        no_more (f x) (g x) (adds x),
        count-chosen f g xs adds,
      )

  adds-fails : (old : Option Y) (y : Y) → p y ≡ false → AddsNone p old (Some y)
  adds-fails None y fails = fails
  adds-fails (Some x) y fails = λ passes. absurd (let never : true ≡ false = sym passes ∙ fails in cc)

  adds-nothing : (old : Option Y) → AddsNone p old None
  adds-nothing None = tt
  adds-nothing (Some x) = tt

-- a request that an entry accepts was heard at or after this minislot
abbrev pub IsHeardFrom : ℕ → Call → Reply → Type 0
IsHeardFrom slot (calls.Ask receiver sid amount heard) replies.Taken = slot ≤ heard
IsHeardFrom slot (calls.Replace receiver sid amount heard) replies.Taken = slot ≤ heard
IsHeardFrom slot call reply = Unit {0}

waits-by : (f : LiveFlow) → granted f < f.asked → waits f ≡ true
waits-by f lt = grind (arith, nat_tests)

waits-parts : (f : LiveFlow) → waits f ≡ true → granted f < f.asked
waits-parts f waiting = grind (arith, nat_tests, waiting)

module _ (c : Config) (slot : ℕ) (f : LiveFlow) (ends : f.batches.end ≤ f.asked) where
  -- a flow with these bytes asked, these batches and grants more
  abbrev grown : ℕ → Batches → List Grant → LiveFlow
  grown asked batches grants = record f { asked = asked; batches = batches; grants = f.grants ++ grants }

  late-granted : (grants : List Grant) → late slot (grown (f.asked + 0) f.batches grants) ≡ true → late slot f ≡ true
  late-granted grants is =
      let g : LiveFlow = grown (f.asked + 0) f.batches grants in
      let parts = late-parts slot g is in
      let more = sum_by-append (λ (x : Grant). x.bytes) f.grants grants in
      late-is slot f (waits-by f (omega (arith, waits-parts g parts.0, more)))
      (omega (arith, parts.1, since-rises f.batches (granted f) (granted g) (omega (arith, more))))

  late-cond : (same : Bool) (bytes heard : ℕ) → slot ≤ heard
      → late slot (grown (f.asked + cond same bytes 0)
      (cond same (with_request f.batches f.asked (granted f) bytes heard) f.batches) []) ≡ true
      → late slot f ≡ true
  late-cond true bytes heard le is =
      let now : Batches = with_request f.batches f.asked (granted f) bytes heard in
      let parts = late-parts slot (grown (f.asked + bytes) now []) is in
      let none : f.grants ++ [] ≡ f.grants = append-nil f.grants in
      let before = waited f.batches f.asked (granted f) bytes heard ends slot le
      (subst (λ gs. since_of now (bytes_of gs) < slot) none parts.1) in
      late-is slot f (waits-by f before.0) before.1
  late-cond false bytes heard le is = late-granted [] is

  -- one whose requests were replaced waits since the minislot of the one that did
  late-replaced : (same : Bool) (bytes heard : ℕ) → slot ≤ heard
      → late slot (grown (option_map_or (λ n. granted f + n) (if same then Some bytes else None) (f.asked + 0))
      (cond same (with_request f.batches (granted f) (granted f) bytes heard) f.batches) []) ≡ true
      → late slot f ≡ true
  late-replaced true bytes heard le is =
      let now : Batches = with_request f.batches (granted f) (granted f) bytes heard in
      let parts = late-parts slot (grown (granted f + bytes) now []) is in
      let test : (granted f == granted f) ≡ true = grind (arith, nat_tests) in
      let fresh : now ≡ record { end = granted f + bytes; first = heard; second = None } = rw test refl in
      let all : ℕ = bytes_of (f.grants ++ []) in
      absurd (omega (
        arith,
        le,
        alone-since (granted f + bytes) heard all,
        subst (λ k. since_of k all < slot) fresh parts.1,
      ))
  late-replaced false bytes heard le is = late-granted [] is

  late-by : (call : Call) (reply : Reply) → IsHeardFrom slot call reply
      → late slot (grown (option_map_or (λ n. granted f + n) (replaced_by c f.sid call reply)
      (f.asked + added_by c f.sid call reply)) (batches_by c f.sid call reply f.batches f.asked (granted f))
      (grants_by f.sid reply)) ≡ true
      → late slot f ≡ true
  late-by (calls.Ask receiver other amount heard) replies.Taken le is =
      late-cond (other == f.sid) (requested c amount) heard le is
  late-by (calls.Replace receiver other amount heard) replies.Taken le is =
      late-replaced (other == f.sid) (requested c amount) heard le is
  late-by call reply le is = late-granted (grants_by f.sid reply) is

module _ (c : Config) (slot : ℕ) (h : List Entry) (e : Entry) (have : HaveBatches c h)
    (heard : IsHeardFrom slot e.call e.reply) where
  grows : (sid : ℕ) (o : Option Life) → life_of sid h ≡ o
      → AddsNone (late slot) (option_map (flow_in_life c sid) o)
      (option_map (grown_by c e) (option_map (flow_in_life c sid) o))
  grows sid None is = tt
  grows sid (Some life) is = λ passes.
      late-by c slot (flow_in_life c sid life) (have sid life is).within e.call e.reply heard passes

  adds : (sid : ℕ) (turn : Option Turn) → turn_by sid e.call e.reply ≡ turn
      → AddsNone (late slot) (flow_at c h sid) (flow_at c (h ++ e ∷ []) sid)
  adds sid None is = rw (flow_at-stays c h e sid is) (grows sid (life_of sid h) refl)
  adds sid (Some (Begins admission)) is =
      rw (life_of-begins sid h e admission is)
      (adds-fails (late slot) (flow_at c h sid)
      (flow_in_life c sid (record { admission = admission; since = [] })) refl)
  adds sid (Some Ends) is = rw (life_of-ends sid h e is) (adds-nothing (late slot) (flow_at c h sid))

  -- where no request is heard before it, no more wait since before it
  pub no_more_late : count_by (late slot) (flows_of c (h ++ e ∷ [])) ≤ count_by (late slot) (flows_of c h)
  no_more_late = count-chosen (late slot) (flow_at c h) (flow_at c (h ++ e ∷ [])) sids
      (λ sid. adds sid (turn_by sid e.call e.reply) refl)
