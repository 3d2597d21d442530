-- The requests of every life of a legal history stand in the batches of its flow.
use Rattle.std.proofs.Common.{◌≡◌, ℕ, ◌+◌, ◌<◌, ◌≤◌, Bool, true, false, ◌==◌, if◌then◌else◌, cond, List, [], ◌∷◌, ◌++◌}
use Rattle.std.proofs.Common.{Option, None, Some, refl, sym, ◌∙◌, subst, append-nil, append_assoc, arith}
use Rattle.std.specs.Option.{option_map, option_map_or}
use Rattle.std.proofs.lemmas.Bool.Decides.{nat_tests}
use Rattle.std.proofs.lemmas.List.Sums.{sum_by-append}
use Rattle.minislots.specs.declared.config.Config.{Config}
use Rattle.sched_calls.specs.Amount.{requested}
use Rattle.flow_book.specs.declared.batches.Batches.{Batches}
use Rattle.flow_book.specs.declared.flow.Grant.{Grant}
use Rattle.flow_book.specs.Batches.{with_request}
use Rattle.flow_book.specs.Flows.{bytes_of}
use Rattle.sched_calls.specs.declared.call.Call.{Call}
use Rattle.sched_calls.specs.declared.call.Call.TheVariants as calls
use Rattle.sched_calls.specs.declared.reply.Reply.{Reply}
use Rattle.sched_calls.specs.declared.reply.Reply.TheVariants as replies
use Rattle.sched_calls.specs.declared.reply.Entry.{Entry}
use Rattle.sched_history.specs.Life.{Admission, Turn, Begins, Ends, turn_by, Life, life_of, added_by, replaced_by}
use Rattle.sched_history.specs.Latest.{latest}
use Rattle.sched_history.specs.Life.{asked_in, grants_by, grants_since, batches_by, batches_in}
use Rattle.sched_history.specs.Situation.{situation_of}
use Rattle.sched_history.specs.Refusal.{bad_sid}
use Rattle.sched_history.specs.History.{IsStep, IsLegal}
use Rattle.sched_history.proofs.steps.LegalHistories.{accepted, legal_induction}
use Rattle.sched_history.proofs.steps.Passed.{passed-admit, passed-ask}
use Rattle.sched_history.proofs.lives.LivesAfter.{with_since, life_of-stays, life_of-begins, life_of-ends}
use Rattle.sched_history.proofs.lists.Latests.{with_after, latest-says, latest-silent}
use Rattle.sched_history.proofs.lives.FlowsAfter.{asked_then, asked_in-push, batches_in-push, grants_since-push}
use Rattle.laws.specs.Waiting.{HoldsWhereHeard, EachBetween, IsUnreplaced}
use Rattle.laws.proofs.Since.{IsIn, in-granted, ends-new, in-new, in-last}

-- what follows of each minislot
pub heard-implied : (sid : ℕ) (P Q : ℕ → Type 0) → ((heard : ℕ) → P heard → Q heard) → (call : Call) (reply : Reply)
    → HoldsWhereHeard sid P call reply → HoldsWhereHeard sid Q call reply
heard-implied sid P Q step (calls.Ask receiver other amount heard) replies.Taken holds = λ same. step heard (holds same)
heard-implied sid P Q step (calls.Replace receiver other amount heard) replies.Taken holds =
    λ same. step heard (holds same)
heard-implied sid P Q step call reply holds = tt

-- what follows of each member
pub each-implied : {X : Type 0} (P Q : List X → X → List X → Type 0)
    → ((before : List X) (x : X) (after : List X) → P before x after → Q before x after)
    → (before xs : List X) → EachBetween P before xs → EachBetween Q before xs
each-implied P Q step before [] each = tt
each-implied P Q step before (x ∷ xs) each =
    (step before x xs each.0, each-implied P Q step (before ++ x ∷ []) xs each.1)

-- and with one member more behind
each-push : {X : Type 0} (P Q : List X → X → List X → Type 0) (e : X)
    → ((before : List X) (x : X) (after : List X) → P before x after → Q before x (after ++ e ∷ []))
    → (before xs : List X) → EachBetween P before xs → Q (before ++ xs) e [] → EachBetween Q before (xs ++ e ∷ [])
each-push P Q e step before [] each last = (rw append-nil at last, tt)
each-push P Q e step before (x ∷ xs) each last =
    (step before x xs each.0, each-push P Q e step (before ++ x ∷ []) xs each.1 (rw append_assoc last))

unmapped : {X Y : Type 0} (f : X → Y) (o : Option X) → option_map f o ≡ None → o ≡ None
unmapped f None is = refl
unmapped f (Some x) is = absurd cc

-- where none of these entries and one more replaces a request, neither these do nor that
still-by : (c : Config) (sid : ℕ) (e : Entry) (o : Option ℕ) (after : List Entry)
    → replaced_by c sid e.call e.reply ≡ o → IsUnreplaced c sid (after ++ e ∷ [])
    → (replaced_by c sid e.call e.reply ≡ None) × IsUnreplaced c sid after
still-by c sid e None after silent none = (
  silent,
  unmapped (with_after e) (latest (λ x. replaced_by c sid x.call x.reply) after)
      (sym (latest-silent (λ x. replaced_by c sid x.call x.reply) after e silent) ∙ none),
)
still-by c sid e (Some bytes) after says none =
    absurd (let some = sym (latest-says (λ x. replaced_by c sid x.call x.reply) after e bytes says) ∙ none in cc)

-- an accepted request has asked for some bytes
abbrev AsksSome : Config → Call → Reply → Type 0
AsksSome c (calls.Ask receiver sid amount heard) replies.Taken = 0 < requested c amount
AsksSome c call reply = Unit {0}

asks_some : (c : Config) (h : List Entry) (call : Call) (reply : Reply) → IsStep c h call reply → AsksSome c call reply
asks_some c h (calls.Ask receiver sid amount heard) replies.Taken step =
    (passed-ask c (situation_of c h) receiver sid amount heard
    (accepted c h (calls.Ask receiver sid amount heard) replies.Taken (λ r refuses. cc) step).0).some_bytes
asks_some c h call reply step = tt

-- an entry's request, with so many bytes asked up to it, stands in these batches
abbrev IsRequestIn : ℕ → Batches → ℕ → ℕ → ℕ → Entry → Type 0
IsRequestIn sid b asked granted upto e = HoldsWhereHeard sid (IsIn b asked granted upto) e.call e.reply

own_turn : (same : Bool) (turn : Turn) {begun : Turn} → (if same then Some turn else None) ≡ Some begun → same ≡ true
own_turn true turn is = refl
own_turn false turn is = absurd cc

ends_no : (same : Bool) (admission : Admission) → (if same then Some Ends else None) ≡ Some (Begins admission) → ⊥
ends_no true admission is = absurd cc
ends_no false admission is = absurd cc

-- where a life begins the SID is one that a flow may have
begins-good : (c : Config) (h : List Entry) (sid : ℕ) (call : Call) (reply : Reply) (admission : Admission)
    → turn_by sid call reply ≡ Some (Begins admission) → IsStep c h call reply → bad_sid sid ≡ false
begins-good c h sid (calls.Admit other spec) (replies.Admitted placement) admission is step =
    let turn : Turn = Begins (record { spec = spec; placement = placement }) in
    let test : (other == sid) ≡ true = own_turn (other == sid) turn is in
    let same : other ≡ sid = grind (arith, nat_tests) in
    subst (λ s. bad_sid s ≡ false) same
    (passed-admit c (situation_of c h) other spec
    (accepted c h (calls.Admit other spec) (replies.Admitted placement) (λ r refuses. cc) step).0).good
begins-good c h sid (calls.Remove other) replies.Removed admission is step =
    absurd (ends_no (other == sid) admission is)
begins-good c h sid call reply admission is step = absurd cc

-- The SID is one that a flow may have, and the requests in the entries of its life stand in its batches
pub record HasBatches (c : Config) (sid : ℕ) (entries : List Entry) : Type 0 where
  pub good : bad_sid sid ≡ false
  pub within : (batches_in c sid entries).end ≤ asked_in c sid entries
  pub each : EachBetween (λ before e after. IsUnreplaced c sid after → IsRequestIn sid (batches_in c sid entries)
      (asked_in c sid entries) (bytes_of (grants_since sid entries)) (asked_in c sid (before ++ e ∷ [])) e) [] entries

module _ (c : Config) (sid : ℕ) (b : Batches) (asked granted : ℕ) (ends : b.end ≤ asked) where
  ends-cond : (same : Bool) (bytes heard : ℕ)
      → (cond same (with_request b asked granted bytes heard) b).end ≤ asked + cond {A = ℕ} same bytes 0
  ends-cond true bytes heard = ends-new b asked granted bytes heard ends
  ends-cond false bytes heard = omega (arith, ends)

  -- the bytes asked after a call
  abbrev after_call : Call → Reply → ℕ
  after_call call reply = option_map_or (λ bytes. granted + bytes) (replaced_by c sid call reply)
      (asked + added_by c sid call reply)

  -- the batches of a flow whose requests were replaced
  fresh : (bytes heard : ℕ)
      → with_request b granted granted bytes heard ≡ record { end = granted + bytes; first = heard; second = None }
  fresh bytes heard = let test : (granted == granted) ≡ true = grind (arith, nat_tests) in rw test refl

  fresh-in : (bytes heard : ℕ)
      → IsIn (with_request b granted granted bytes heard) (granted + bytes) granted (granted + bytes) heard
  fresh-in bytes heard = rw (fresh bytes heard) (record {
    counted = omega arith;
    first = λ lt within. omega arith;
    second = λ lt behind. absurd (omega arith);
  })

  ends-replaced : (same : Bool) (bytes heard : ℕ) → (cond same (with_request b granted granted bytes heard) b).end
      ≤ option_map_or (λ n. granted + n) (if same then Some bytes else None) (asked + 0)
  ends-replaced true bytes heard = rw (fresh bytes heard) (omega arith)
  ends-replaced false bytes heard = omega (arith, ends)

  ends-by : (call : Call) (reply : Reply)
      → (batches_by c sid call reply b asked granted).end ≤ after_call call reply
  ends-by (calls.Ask receiver other amount heard) replies.Taken =
      ends-cond (other == sid) (requested c amount) heard
  ends-by (calls.Replace receiver other amount heard) replies.Taken =
      ends-replaced (other == sid) (requested c amount) heard
  ends-by call reply = omega (arith, ends)

  same-in : (upto earlier : ℕ) → IsIn b asked granted upto earlier → IsIn b (asked + 0) granted upto earlier
  same-in upto earlier is = record { counted = omega (arith, is.counted); first = is.first; second = is.second }

  in-cond : (same : Bool) (bytes heard upto earlier : ℕ) → IsIn b asked granted upto earlier
      → IsIn (cond same (with_request b asked granted bytes heard) b) (asked + cond {A = ℕ} same bytes 0) granted
      upto earlier
  in-cond true bytes heard upto earlier is = in-new b asked granted bytes heard ends upto earlier is
  in-cond false bytes heard upto earlier is = same-in upto earlier is

  in-other : (same : Bool) (bytes heard upto earlier : ℕ) → (if same then Some bytes else None) ≡ None
      → IsIn b asked granted upto earlier
      → IsIn (cond same (with_request b granted granted bytes heard) b)
      (option_map_or (λ n. granted + n) (if same then Some bytes else None) (asked + 0)) granted upto earlier
  in-other true bytes heard upto earlier silent is = absurd cc
  in-other false bytes heard upto earlier silent is = same-in upto earlier is

  in-by : (call : Call) (reply : Reply) → replaced_by c sid call reply ≡ None → (upto earlier : ℕ)
      → IsIn b asked granted upto earlier
      → IsIn (batches_by c sid call reply b asked granted) (after_call call reply) granted upto earlier
  in-by (calls.Ask receiver other amount heard) replies.Taken silent upto earlier is =
      in-cond (other == sid) (requested c amount) heard upto earlier is
  in-by (calls.Replace receiver other amount heard) replies.Taken silent upto earlier is =
      in-other (other == sid) (requested c amount) heard upto earlier silent is
  in-by call reply silent upto earlier is = same-in upto earlier is

  last-by : (call : Call) (reply : Reply) → AsksSome c call reply
      → HoldsWhereHeard sid (IsIn (batches_by c sid call reply b asked granted) (after_call call reply)
      granted (after_call call reply)) call reply
  last-by (calls.Ask receiver other amount heard) replies.Taken some = λ same.
      let test : (other == sid) ≡ true = grind (arith, nat_tests) in
      rw test (in-last b asked granted (requested c amount) heard ends some)
  last-by (calls.Replace receiver other amount heard) replies.Taken some = λ same.
      let test : (other == sid) ≡ true = grind (arith, nat_tests) in
      rw test (fresh-in (requested c amount) heard)
  last-by call reply some = tt

module _ (c : Config) (sid : ℕ) (entries : List Entry) (e : Entry) (some : AsksSome c e.call e.reply)
    (has : HasBatches c sid entries) where
  abbrev b : Batches
  b = batches_in c sid entries

  abbrev asked : ℕ
  asked = asked_in c sid entries

  abbrev granted : ℕ
  granted = bytes_of (grants_since sid entries)

  abbrev now : Batches
  now = batches_by c sid e.call e.reply b asked granted

  abbrev asked_now : ℕ
  asked_now = asked_then c sid e asked granted

  abbrev granted_now : ℕ
  granted_now = bytes_of (grants_since sid entries ++ grants_by sid e.reply)

  no_less : granted ≤ granted_now
  no_less = omega (arith, sum_by-append (λ (g : Grant). g.bytes) (grants_since sid entries) (grants_by sid e.reply))

  -- a request that is not replaced stands in the batches as before
  stays : (before : List Entry) (x : Entry) (after : List Entry)
      → (IsUnreplaced c sid after → IsRequestIn sid b asked granted (asked_in c sid (before ++ x ∷ [])) x)
      → (replaced_by c sid e.call e.reply ≡ None) × IsUnreplaced c sid after
      → IsRequestIn sid now asked_now granted_now (asked_in c sid (before ++ x ∷ [])) x
  stays before x after is unreplaced =
      let upto : ℕ = asked_in c sid (before ++ x ∷ []) in
      heard-implied sid (IsIn b asked granted upto) (IsIn now asked_now granted_now upto)
      (λ heard here. in-granted now asked_now granted granted_now upto heard no_less
      (in-by c sid b asked granted has.within e.call e.reply unreplaced.0 upto heard here))
      x.call x.reply (is unreplaced.1)

  -- so do those with one entry more
  has-more : HasBatches c sid (entries ++ e ∷ [])
  has-more = record {
    good = has.good;
    within = rw (asked_in-push c sid entries e, batches_in-push c sid entries e)
        (ends-by c sid b asked granted has.within e.call e.reply);
    each = rw (batches_in-push c sid entries e, grants_since-push sid entries e, asked_in-push c sid entries e)
        (each-push
        (λ before x after. IsUnreplaced c sid after
        → IsRequestIn sid b asked granted (asked_in c sid (before ++ x ∷ [])) x)
        (λ before x after. IsUnreplaced c sid after
        → IsRequestIn sid now asked_now granted_now (asked_in c sid (before ++ x ∷ [])) x) e
        (λ before x after is unreplaced. stays before x after is
        (still-by c sid e (replaced_by c sid e.call e.reply) after refl unreplaced)) [] entries has.each
        (λ unreplaced. rw (asked_in-push c sid entries e)
        (heard-implied sid (IsIn now asked_now granted asked_now) (IsIn now asked_now granted_now asked_now)
        (λ heard here. in-granted now asked_now granted granted_now asked_now heard no_less here) e.call e.reply
        (last-by c sid b asked granted has.within e.call e.reply some))));
  }

-- the requests of every life do
abbrev pub HaveBatches : Config → List Entry → Type 0
HaveBatches c h = (sid : ℕ) (life : Life) → life_of sid h ≡ Some life → HasBatches c sid life.since

module _ (c : Config) where
  goes_on : (h : List Entry) (e : Entry) (sid : ℕ) (old : Option Life) (life : Life) → life_of sid h ≡ old
      → option_map (with_since e) old ≡ Some life → IsStep c h e.call e.reply → HaveBatches c h
      → HasBatches c sid life.since
  goes_on h e sid None life was is step have = absurd cc
  goes_on h e sid (Some old) life was is step have =
      let them : with_since e old ≡ life = cc in
      subst (λ (l : Life). HasBatches c sid l.since) them
      (has-more c sid old.since e (asks_some c h e.call e.reply step) (have sid old was))

  begun : (sid : ℕ) → bad_sid sid ≡ false → HasBatches c sid []
  begun sid good = record { good = good; within = omega arith; each = tt }

  turned : (h : List Entry) (e : Entry) (sid : ℕ) (turn : Option Turn) (life : Life) → turn_by sid e.call e.reply ≡ turn
      → life_of sid (h ++ e ∷ []) ≡ Some life → IsStep c h e.call e.reply → HaveBatches c h
      → HasBatches c sid life.since
  turned h e sid None life is lives step have = goes_on h e sid (life_of sid h) life refl
      (sym (life_of-stays sid h e is) ∙ lives) step have
  turned h e sid (Some (Begins admission)) life is lives step have =
      let new : Some (record { admission = admission; since = [] }) ≡ Some life =
      sym (life_of-begins sid h e admission is) ∙ lives in
      let same : life ≡ record { admission = admission; since = [] } = cc in
      subst (λ (l : Life). HasBatches c sid l.since) (sym same)
      (begun sid (begins-good c h sid e.call e.reply admission is step))
  turned h e sid (Some Ends) life is lives step have =
      absurd (let none : None ≡ Some life = sym (life_of-ends sid h e is) ∙ lives in cc)

  -- of a legal history
  pub have_batches : (h : List Entry) → IsLegal c h → HaveBatches c h
  have_batches = legal_induction c (HaveBatches c)
      (λ h e legal step have sid life lives. turned h e sid (turn_by sid e.call e.reply) life refl lives step have)
      (λ sid life none. absurd cc)
