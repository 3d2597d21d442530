-- The requests of a life with one entry more.
use Rattle.std.proofs.Common.{◌≡◌, ℕ, ◌+◌, ◌<◌, ◌≤◌, ◌==◌, ◌&&◌, ◌||◌, Bool, true, false, List, [], ◌∷◌, ◌++◌}
use Rattle.std.proofs.Common.{map, length, take, drop, Option, None, Some, refl, sym, ap, ◌∙◌, subst, append_assoc, arith}
use Rattle.std.proofs.Common.{if◌then◌else◌, length-append, inl, inr}
use Rattle.std.specs.Prelude.{nat_lt}
use Rattle.std.specs.List.{list_any}
use Rattle.std.specs.Option.{option_map_or}
use Rattle.std.proofs.lemmas.Bool.{cases_lt, lt-ltb, le-ltb}
use Rattle.std.proofs.lemmas.List.{append-nil, map-append, length-map, take-append-drop, take-append-le, drop-append-le}
use Rattle.std.proofs.lemmas.List.{length-drop}
use Rattle.minislots.specs.declared.config.Config.{Config}
use Rattle.flow_book.specs.declared.flow.Grant.{Grant}
use Rattle.flow_book.specs.Flows.{bytes_of}
use Rattle.sched_calls.specs.Amount.{requested}
use Rattle.sched_calls.specs.declared.frame_map.FrameMap.{FrameMap}
use Rattle.sched_calls.specs.declared.call.Call.{Call}
use Rattle.sched_calls.specs.declared.call.Call.TheVariants as calls
use Rattle.sched_calls.specs.declared.reply.Reply.{Reply}
use Rattle.sched_calls.specs.declared.reply.Reply.TheVariants as replies
use Rattle.sched_calls.specs.declared.reply.Entry.{Entry}
use Rattle.sched_history.specs.Life.{added_by, replaced_by, asked_in, grants_by, grants_of_map, grants_since}
use Rattle.sched_history.proofs.lives.FlowsAfter.{grants_since-push, asked_in-push}
use Rattle.sched_report.specs.declared.service.Request.{Request}
use Rattle.sched_report.specs.declared.service.Service.{Service}
use Rattle.sched_report.specs.Delays.{Claim}
use Rattle.sched_report.specs.Lives.{until}
use Rattle.sched_report.specs.Requests.{request_by, supersedes_by, supersedes, claim_made, claims_after, claims_in}
use Rattle.sched_report.specs.Served.{waits_with, with_grants, as_superseded, IsServiceOf, IsServiceAfter}
use Rattle.sched_report.specs.Served.{MayAsk, MayCount}
use Rattle.sched_report.proofs.PastLives.{more_until, until-push, any-push}
use Rattle.sched_report.proofs.Reaching.{same_claims}

-- the bytes of a request, where there is one
abbrev pub bytes_or_none : Option Request → ℕ
bytes_or_none None = 0
bytes_or_none (Some r) = r.bytes

-- the bytes are those of the request, none where it is for none
bytes_some : (n heard : ℕ)
    → n ≡ bytes_or_none (if nat_lt 0 n then Some (record { bytes = n; heard = heard }) else None)
bytes_some n heard =
    elim (cases_lt 0 n) [
      | inl some ↦ sym (ap (λ b. bytes_or_none (if b then Some (record { bytes = n; heard = heard }) else None))
          (lt-ltb 0 n some))
      | inr none ↦
          let zero_bytes : n ≡ 0 = omega (arith, none) in
          zero_bytes ∙ sym (ap (λ b. bytes_or_none (if b then Some (record { bytes = n; heard = heard }) else None))
          (le-ltb 0 n none))
    ]

bytes_if : (b : Bool) (n heard : ℕ)
    → (if b then n else 0)
    ≡ bytes_or_none (if b && nat_lt 0 n then Some (record { bytes = n; heard = heard }) else None)
bytes_if true n heard = bytes_some n heard
bytes_if false n heard = refl

replaced_if : (b : Bool) (n heard : ℕ) → (if b then Some n else None) ≡ (if b
    then Some (bytes_or_none (if b && nat_lt 0 n then Some (record { bytes = n; heard = heard }) else None))
    else None)
replaced_if true n heard = ap Some (bytes_some n heard)
replaced_if false n heard = refl

some_is : (p q : Request) → Some p ≡ Some q → p ≡ q
some_is p q is = cc

some_if : (b : Bool) (n heard : ℕ) (r : Request)
    → (if b && nat_lt 0 n then Some (record { bytes = n; heard = heard }) else None) ≡ Some r → 0 < r.bytes
some_if true n heard r is =
    elim (cases_lt 0 n) [
      | inl some ↦
          let same : record { bytes = n; heard = heard } ≡ r =
          some_is (record { bytes = n; heard = heard }) r
          (sym (ap (λ b. if b then Some (record { bytes = n; heard = heard }) else None) (lt-ltb 0 n some)) ∙ is) in
          omega (arith, some, ap (λ (r : Request). r.bytes) same)
      | inr none ↦
          let both : None ≡ Some r =
          sym (ap (λ b. if b then Some (record { bytes = n; heard = heard }) else None) (le-ltb 0 n none)) ∙ is in
          absurd cc
    ]
some_if false n heard r is = absurd cc

-- each request asks for bytes
pub request-some : (c : Config) (sid : ℕ) (call : Call) (reply : Reply) (r : Request)
    → request_by c sid call reply ≡ Some r → 0 < r.bytes
request-some c sid (calls.Ask receiver other amount heard) replies.Taken r is =
    some_if (other == sid) (requested c amount) heard r is
request-some c sid (calls.Replace receiver other amount heard) replies.Taken r is =
    some_if (other == sid) (requested c amount) heard r is
request-some c sid call reply r is = absurd cc

module _ (c : Config) (sid : ℕ) where
  -- a request that supersedes those before leaves its bytes in their place
  replaced_by-request : (call : Call) (reply : Reply) → replaced_by c sid call reply
      ≡ (if supersedes_by sid call reply then Some (bytes_or_none (request_by c sid call reply)) else None)
  replaced_by-request (calls.Replace receiver other amount heard) replies.Taken =
      replaced_if (other == sid) (requested c amount) heard
  replaced_by-request call reply = refl

  -- any other adds them
  added_by-request : (call : Call) (reply : Reply) → supersedes_by sid call reply ≡ false
      → added_by c sid call reply ≡ bytes_or_none (request_by c sid call reply)
  added_by-request (calls.Ask receiver other amount heard) replies.Taken not =
      bytes_if (other == sid) (requested c amount) heard
  added_by-request (calls.Replace receiver other amount heard) replies.Taken not =
      ap (λ b. bytes_or_none (if b && nat_lt 0 (requested c amount)
      then Some (record { bytes = requested c amount; heard = heard }) else None)) (sym not)
  added_by-request call reply not = refl

  -- the bytes asked where a request is counted that supersedes those before, or not
  abbrev pub asked_before : Bool → List Entry → ℕ
  asked_before supersedes es = if supersedes then bytes_of (grants_since sid es) else asked_in c sid es

  asked-by : (es : List Entry) (e : Entry) (b : Bool) → supersedes sid e ≡ b
      → asked_in c sid (es ++ e ∷ []) ≡ asked_before b es + bytes_or_none (request_by c sid e.call e.reply)
  asked-by es e true is =
      asked_in-push c sid es e
      ∙ ap (λ o. option_map_or (λ bytes. bytes_of (grants_since sid es) + bytes) o
      (asked_in c sid es + added_by c sid e.call e.reply))
      (replaced_by-request e.call e.reply
      ∙ ap (λ b. if b then Some (bytes_or_none (request_by c sid e.call e.reply)) else None) is)
  asked-by es e false is =
      asked_in-push c sid es e
      ∙ ap (λ o. option_map_or (λ bytes. bytes_of (grants_since sid es) + bytes) o
      (asked_in c sid es + added_by c sid e.call e.reply))
      (replaced_by-request e.call e.reply
      ∙ ap (λ b. if b then Some (bytes_or_none (request_by c sid e.call e.reply)) else None) is)
      ∙ ap (λ n. asked_in c sid es + n) (added_by-request e.call e.reply is)

  -- the bytes asked with one entry more
  pub asked-more : (es : List Entry) (e : Entry) → asked_in c sid (es ++ e ∷ [])
      ≡ asked_before (supersedes sid e) es + bytes_or_none (request_by c sid e.call e.reply)
  asked-more es e = asked-by es e (supersedes sid e) refl

  -- a request with one entry more of its life
  abbrev pub claim_with : Entry → Claim → Claim
  claim_with e m = if supersedes sid e then as_superseded m else with_grants (grants_by sid e.reply) m

  -- a request of which so much is seen
  abbrev claim_of : List Entry → ℕ → List Entry → Bool → Claim
  claim_of upto heard es superseded = record {
    upto = asked_in c sid upto;
    heard = heard;
    grants = grants_since sid (upto ++ es);
    superseded = superseded;
  }

  claim_more : (upto es more : List Entry) (heard : ℕ) (before now last : Bool) (e : Entry)
      → more ≡ more_until before now e es → last ≡ (before || now)
      → claim_of upto heard more last ≡ (if now then as_superseded (claim_of upto heard es before)
      else with_grants (grants_by sid e.reply) (claim_of upto heard es before))
  claim_more upto es more heard true true last e mores is =
      ap (λ (xs : List Entry). claim_of upto heard xs last) mores ∙ ap (claim_of upto heard es) is
  claim_more upto es more heard true false last e mores is =
      ap (λ (xs : List Entry). claim_of upto heard xs last) mores ∙ ap (claim_of upto heard es) is
  claim_more upto es more heard false true last e mores is =
      ap (λ (xs : List Entry). claim_of upto heard xs last) mores ∙ ap (claim_of upto heard es) is
  claim_more upto es more heard false false last e mores is =
      let seen : grants_since sid (upto ++ (es ++ e ∷ [])) ≡ grants_since sid (upto ++ es) ++ grants_by sid e.reply =
      ap (grants_since sid) (sym (append_assoc upto es (e ∷ []))) ∙ grants_since-push sid (upto ++ es) e in
      ap (λ (xs : List Entry). claim_of upto heard xs last) mores ∙ ap (claim_of upto heard (es ++ e ∷ [])) is
      ∙ ap (λ (gs : List Grant). record {
        upto = asked_in c sid upto;
        heard = heard;
        grants = gs;
        superseded = false;
      }) seen

  claim_made-push : (upto : List Entry) (o : Option Request) (es : List Entry) (e : Entry)
      → claim_made c sid upto o (es ++ e ∷ []) ≡ map (claim_with e) (claim_made c sid upto o es)
  claim_made-push upto None es e = refl
  claim_made-push upto (Some r) es e =
      let test : Entry → Bool = supersedes sid in
      ap (λ (m : Claim). m ∷ [])
      (claim_more upto (until test es) (until test (es ++ e ∷ [])) r.heard (list_any test es) (test e)
      (list_any test (es ++ e ∷ [])) e (until-push test es e) (any-push test es e))

  claims_after-push : (before es : List Entry) (e : Entry)
      → claims_after c sid before (es ++ e ∷ [])
      ≡ map (claim_with e) (claims_after c sid before es)
      ++ claim_made c sid (before ++ (es ++ e ∷ [])) (request_by c sid e.call e.reply) []
  claims_after-push before [] e =
      append-nil (claim_made c sid (before ++ e ∷ []) (request_by c sid e.call e.reply) [])
  claims_after-push before (x ∷ es) e =
      let here : List Claim = claim_made c sid (before ++ x ∷ []) (request_by c sid x.call x.reply) es in
      let later : List Claim = claims_after c sid (before ++ x ∷ []) es in
      let last : List Entry → List Claim = λ upto. claim_made c sid upto (request_by c sid e.call e.reply) [] in
      ap (λ (ms : List Claim). ms ++ claims_after c sid (before ++ x ∷ []) (es ++ e ∷ []))
      (claim_made-push (before ++ x ∷ []) (request_by c sid x.call x.reply) es e)
      ∙ ap (λ (ms : List Claim). map (claim_with e) here ++ ms)
      (claims_after-push (before ++ x ∷ []) es e
      ∙ ap (λ (upto : List Entry). map (claim_with e) later ++ last upto)
      (append_assoc before (x ∷ []) (es ++ e ∷ [])))
      ∙ sym (append_assoc (map (claim_with e) here) (map (claim_with e) later)
      (last (before ++ (x ∷ es ++ e ∷ []))))
      ∙ ap (λ (ms : List Claim). ms ++ last (before ++ (x ∷ es ++ e ∷ [])))
      (sym (map-append (claim_with e) here later))

  -- the requests with one entry more
  pub claims_in-push : (p : ℕ) (es : List Entry) (e : Entry) → p ≤ length es
      → claims_in c sid p (es ++ e ∷ [])
      ≡ map (claim_with e) (claims_in c sid p es)
      ++ claim_made c sid (es ++ e ∷ []) (request_by c sid e.call e.reply) []
  claims_in-push p es e within =
      let front : List Entry = take p es in
      let rest : List Entry = drop p es in
      let whole : front ++ (rest ++ e ∷ []) ≡ es ++ e ∷ [] =
      sym (append_assoc front rest (e ∷ [])) ∙ ap (λ (xs : List Entry). xs ++ e ∷ []) (take-append-drop p es) in
      ap (λ (xs : List Entry). claims_after c sid xs (drop p (es ++ e ∷ []))) (take-append-le p es (e ∷ []) within)
      ∙ ap (claims_after c sid front) (drop-append-le p es (e ∷ []) within)
      ∙ claims_after-push front rest e
      ∙ ap (λ (xs : List Entry). map (claim_with e) (claims_after c sid front rest)
      ++ claim_made c sid xs (request_by c sid e.call e.reply) []) whole

  one_claim : (upto es : List Entry) (o : Option Request) → length (claim_made c sid upto o es) ≤ 1
  one_claim upto es None = omega arith
  one_claim upto es (Some r) = omega arith

  few_after : (before es : List Entry) → length (claims_after c sid before es) ≤ length es
  few_after before [] = omega arith
  few_after before (e ∷ es) =
      omega (
        arith,
        length-append (claim_made c sid (before ++ e ∷ []) (request_by c sid e.call e.reply) es)
            (claims_after c sid (before ++ e ∷ []) es),
        one_claim (before ++ e ∷ []) es (request_by c sid e.call e.reply),
        few_after (before ++ e ∷ []) es,
      )

  -- there are no more requests than entries
  pub few_claims : (p : ℕ) (es : List Entry) → length (claims_in c sid p es) ≤ length es
  few_claims p es = omega (arith, few_after (take p es) (drop p es), length-drop p es)

-- requests where one more supersedes them, or not
abbrev pub claims_before : Bool → List Claim → List Claim
claims_before supersedes ms = if supersedes then map as_superseded ms else ms

-- a request that waits, where there is one, of a flow that asked so many bytes before
abbrev pub claim_for : List Grant → ℕ → Option Request → List Claim
claim_for grants asked None = []
claim_for grants asked (Some r) = waits_with grants (record { upto = asked + r.bytes; heard = r.heard }) ∷ []

module _ (c : Config) (sid p : ℕ) (es : List Entry) (e : Entry) (within : p ≤ length es)
    (ungranted : grants_by sid e.reply ≡ []) where
  grants-same : grants_since sid (es ++ e ∷ []) ≡ grants_since sid es
  grants-same = grants_since-push sid es e ∙ ap (λ (gs : List Grant). grants_since sid es ++ gs) ungranted
      ∙ append-nil (grants_since sid es)

  before-by : (b : Bool) → supersedes sid e ≡ b
      → map (claim_with c sid e) (claims_in c sid p es) ≡ claims_before b (claims_in c sid p es)
  before-by true is =
      ap (λ b. map (λ m. if b then as_superseded m else with_grants (grants_by sid e.reply) m) (claims_in c sid p es)) is
  before-by false is =
      ap (λ b. map (λ m. if b then as_superseded m else with_grants (grants_by sid e.reply) m) (claims_in c sid p es)) is
      ∙ ap (λ (gs : List Grant). map (with_grants gs) (claims_in c sid p es)) ungranted
      ∙ same_claims (claims_in c sid p es)

  made-by : (o : Option Request) → request_by c sid e.call e.reply ≡ o
      → claim_made c sid (es ++ e ∷ []) o []
      ≡ claim_for (grants_since sid es) (asked_before c sid (supersedes sid e) es) o
  made-by None is = refl
  made-by (Some r) is =
      let upto : asked_in c sid (es ++ e ∷ []) ≡ asked_before c sid (supersedes sid e) es + r.bytes =
      asked-more c sid es e ∙ ap (λ o. asked_before c sid (supersedes sid e) es + bytes_or_none o) is in
      let seen : grants_since sid ((es ++ e ∷ []) ++ []) ≡ grants_since sid es =
      ap (grants_since sid) (append-nil (es ++ e ∷ [])) ∙ grants-same in
      ap (λ (n : ℕ). record {
        upto = n;
        heard = r.heard;
        grants = grants_since sid ((es ++ e ∷ []) ++ []);
        superseded = false;
      } ∷ []) upto
      ∙ ap (λ (gs : List Grant). record {
        upto = asked_before c sid (supersedes sid e) es + r.bytes;
        heard = r.heard;
        grants = gs;
        superseded = false;
      } ∷ []) seen

  -- the requests with an entry more that has no MAP
  claims-noted : claims_in c sid p (es ++ e ∷ [])
      ≡ claims_before (supersedes sid e) (claims_in c sid p es)
      ++ claim_for (grants_since sid es) (asked_before c sid (supersedes sid e) es) (request_by c sid e.call e.reply)
  claims-noted =
      claims_in-push c sid p es e within
      ∙ ap (λ (ms : List Claim). ms ++ claim_made c sid (es ++ e ∷ []) (request_by c sid e.call e.reply) [])
      (before-by (supersedes sid e) refl)
      ∙ ap (λ (ms : List Claim). claims_before (supersedes sid e) (claims_in c sid p es) ++ ms)
      (made-by (request_by c sid e.call e.reply) refl)

  -- what is kept of a life with an entry more that has no MAP
  pub after-noted : (s : Service) (b : Bool) (o : Option Request) → supersedes sid e ≡ b
      → request_by c sid e.call e.reply ≡ o
      → IsServiceOf c s (claims_before b (claims_in c sid p es)
      ++ claim_for (grants_since sid es) (asked_before c sid b es) o)
      (asked_before c sid b es + bytes_or_none o) (grants_since sid es)
      → IsServiceAfter c s sid p (es ++ e ∷ [])
  after-noted s b o supersedes_is request_is service =
      let claims : claims_in c sid p (es ++ e ∷ []) ≡ claims_before b (claims_in c sid p es)
      ++ claim_for (grants_since sid es) (asked_before c sid b es) o =
      claims-noted
      ∙ ap (λ b. claims_before b (claims_in c sid p es)
      ++ claim_for (grants_since sid es) (asked_before c sid b es) (request_by c sid e.call e.reply)) supersedes_is
      ∙ ap (λ o. claims_before b (claims_in c sid p es)
      ++ claim_for (grants_since sid es) (asked_before c sid b es) o) request_is in
      let asked : asked_in c sid (es ++ e ∷ []) ≡ asked_before c sid b es + bytes_or_none o =
      asked-more c sid es e
      ∙ ap (λ b. asked_before c sid b es + bytes_or_none (request_by c sid e.call e.reply)) supersedes_is
      ∙ ap (λ o. asked_before c sid b es + bytes_or_none o) request_is in
      subst (λ (ms : List Claim). IsServiceOf c s ms (asked_in c sid (es ++ e ∷ [])) (grants_since sid (es ++ e ∷ [])))
      (sym claims)
      (subst (λ n. IsServiceOf c s (claims_before b (claims_in c sid p es)
      ++ claim_for (grants_since sid es) (asked_before c sid b es) o) n (grants_since sid (es ++ e ∷ []))) (sym asked)
      (subst (λ (gs : List Grant). IsServiceOf c s (claims_before b (claims_in c sid p es)
      ++ claim_for (grants_since sid es) (asked_before c sid b es) o)
      (asked_before c sid b es + bytes_or_none o) gs) (sym grants-same) service))

-- the same in other words
pub with-none : (c : Config) (s : Service) (claims : List Claim) (bytes : ℕ) (grants : List Grant)
    → IsServiceOf c s claims bytes grants → IsServiceOf c s (claims ++ []) (bytes + 0) grants
with-none c s claims bytes grants service =
    let same : bytes ≡ bytes + 0 = omega arith in
    subst (λ (ms : List Claim). IsServiceOf c s ms (bytes + 0) grants) (sym (append-nil claims))
    (subst (λ n. IsServiceOf c s claims n grants) same service)

-- what is kept of a life with an entry that does nothing to it
pub after-unnoted : (c : Config) (s : Service) (sid p : ℕ) (es : List Entry) (e : Entry) → p ≤ length es
    → grants_by sid e.reply ≡ []
    → supersedes sid e ≡ false → request_by c sid e.call e.reply ≡ None → IsServiceAfter c s sid p es
    → IsServiceAfter c s sid p (es ++ e ∷ [])
after-unnoted c s sid p es e within ungranted stays silent service =
    after-noted c sid p es e within ungranted s false None stays silent
    (with-none c s (claims_in c sid p es) (asked_in c sid es) (grants_since sid es) service)

module _ (c : Config) (sid p : ℕ) (es : List Entry) (e : Entry) (s : Service) (b : Bool)
    (is : supersedes sid e ≡ b) where
  -- what is kept where a request is to be counted that supersedes those before, or not
  abbrev pub IsServiceBefore : Type 0
  IsServiceBefore =
      IsServiceOf c s (claims_before b (claims_in c sid p es)) (asked_before c sid b es) (grants_since sid es)

  few-before : (b : Bool) (ms : List Claim) → length (claims_before b ms) ≡ length ms
  few-before true ms = length-map ms as_superseded
  few-before false ms = refl

  -- then it may be counted
  pub may_ask : IsServiceBefore → MayCount c sid es e → (r : Request) → request_by c sid e.call e.reply ≡ Some r
      → MayAsk c s r
  may_ask service may r asks = record {
    claims = claims_before b (claims_in c sid p es);
    bytes = asked_before c sid b es;
    grants = grants_since sid es;
    is = service;
    some = request-some c sid e.call e.reply r asks;
    few = omega (arith, few-before b (claims_in c sid p es), few_claims c sid p es, may.few);
    fits = omega (
      arith,
      may.fits,
      asked-more c sid es e,
      ap (λ b. asked_before c sid b es + bytes_or_none (request_by c sid e.call e.reply)) is,
      ap (λ o. asked_before c sid b es + bytes_or_none o) asks,
    );
  }

-- an entry with a MAP is no request
built_request : (c : Config) (sid : ℕ) (call : Call) (m : FrameMap) → request_by c sid call (replies.Built m) ≡ None
built_request c sid (calls.Ask receiver other amount heard) m = refl
built_request c sid (calls.Replace receiver other amount heard) m = refl
built_request c sid call m = refl

built_supersedes : (sid : ℕ) (call : Call) (m : FrameMap) → supersedes_by sid call (replies.Built m) ≡ false
built_supersedes sid (calls.Replace receiver other amount heard) m = refl
built_supersedes sid call m = refl

module _ (c : Config) (sid p : ℕ) (es : List Entry) (e : Entry) (within : p ≤ length es) (m : FrameMap)
    (built : e.reply ≡ replies.Built m) where
  silent : request_by c sid e.call e.reply ≡ None
  silent = ap (λ (r : Reply). request_by c sid e.call r) built ∙ built_request c sid e.call m

  stays : supersedes sid e ≡ false
  stays = ap (λ (r : Reply). supersedes_by sid e.call r) built ∙ built_supersedes sid e.call m

  -- no bytes are asked with a MAP
  pub asked-built : asked_in c sid (es ++ e ∷ []) ≡ asked_in c sid es
  asked-built =
      asked-more c sid es e
      ∙ ap (λ b. asked_before c sid b es + bytes_or_none (request_by c sid e.call e.reply)) stays
      ∙ ap (λ o. asked_in c sid es + bytes_or_none o) silent ∙ omega arith

  claims-built : claims_in c sid p (es ++ e ∷ []) ≡ map (with_grants (grants_of_map sid m)) (claims_in c sid p es)
  claims-built =
      claims_in-push c sid p es e within
      ∙ ap (λ o. map (claim_with c sid e) (claims_in c sid p es) ++ claim_made c sid (es ++ e ∷ []) o []) silent
      ∙ append-nil (map (claim_with c sid e) (claims_in c sid p es))
      ∙ ap (λ b. map (λ x. if b then as_superseded x else with_grants (grants_by sid e.reply) x) (claims_in c sid p es))
      stays
      ∙ ap (λ (r : Reply). map (with_grants (grants_by sid r)) (claims_in c sid p es)) built

  -- what is kept of a life with a MAP more
  pub after-built : (s : Service) → IsServiceOf c s (map (with_grants (grants_of_map sid m)) (claims_in c sid p es))
      (asked_in c sid es) (grants_since sid es ++ grants_of_map sid m) → IsServiceAfter c s sid p (es ++ e ∷ [])
  after-built s service =
      let grants : grants_since sid (es ++ e ∷ []) ≡ grants_since sid es ++ grants_of_map sid m =
      grants_since-push sid es e ∙ ap (λ (r : Reply). grants_since sid es ++ grants_by sid r) built in
      subst (λ (ms : List Claim). IsServiceOf c s ms (asked_in c sid (es ++ e ∷ []))
      (grants_since sid (es ++ e ∷ []))) (sym claims-built)
      (subst (λ n. IsServiceOf c s (map (with_grants (grants_of_map sid m)) (claims_in c sid p es)) n
      (grants_since sid (es ++ e ∷ []))) (sym asked-built)
      (subst (λ (gs : List Grant). IsServiceOf c s (map (with_grants (grants_of_map sid m)) (claims_in c sid p es))
      (asked_in c sid es) gs) (sym grants) service))
