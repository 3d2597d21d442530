-- What a MAP adds to what is told of lives: one thing after the other.
use Rattle.std.proofs.Common.{◌≡◌, ℕ, ◌+◌, ◌*◌, ◌<◌, ◌≤◌, ◌^◌, ◌&&◌, Bool, true, false, List, [], ◌++◌}
use Rattle.std.proofs.Common.{length, map, get_or, set}
use Rattle.std.proofs.Common.{Option, None, Some, refl, sym, ap, ◌∙◌, subst, append_assoc, inl, inr}
use Rattle.std.proofs.Common.{if◌then◌else◌, arith}
use Rattle.std.specs.Prelude.{sum_by, is_some}
use Rattle.std.specs.List.{zip, cons_option, filter_map}
use Rattle.std.proofs.lemmas.Bool.{cases_Bool, cases_eq, ne_eqb}
use Rattle.std.proofs.lemmas.List.{append-nil, get_or_default, get_or-set_same, get_or-set_other}
use Rattle.std.proofs.lemmas.List.Sums.{sum_by_push}
use Rattle.minislots.specs.declared.config.Config.{Config}
use Rattle.map_codec.specs.declared.element.Element.{Element}
use Rattle.map_drawing.specs.declared.allocation.Allocation.{Allocation}
use Rattle.map_drawing.specs.Allocation.{allocation_at}
use Rattle.flow_book.specs.declared.flow.Grant.{Grant}
use Rattle.map_build.specs.declared.met.Met.{Met}
use Rattle.map_build.specs.Reading.{meets_at}
use Rattle.sched_calls.specs.declared.spec.FlowSpec.{FlowSpec}
use Rattle.sched_calls.specs.declared.spec.FlowSpec.TheVariants as flows
use Rattle.sched_calls.specs.declared.frame_map.FrameMap.{FrameMap}
use Rattle.sched_calls.specs.declared.call.Call.{Call}
use Rattle.sched_calls.specs.declared.call.Call.TheVariants as calls
use Rattle.sched_calls.specs.declared.reply.Reply.{Reply}
use Rattle.sched_calls.specs.declared.reply.Reply.TheVariants as replies
use Rattle.sched_calls.specs.declared.reply.Entry.{Entry}
use Rattle.sched_history.specs.Life.{turn_by, asked_in, grant_by, grants_of_map, grants_since}
use Rattle.sched_history.specs.Reserves.{met_after}
use Rattle.sched_history.specs.Time.{next_after}
use Rattle.sched_report.specs.declared.life.LifeTally.{LifeTally}
use Rattle.sched_report.specs.Delays.{Claim}
use Rattle.sched_report.specs.Granted.{HasMore, HaveMore, MayGrantEach}
use Rattle.sched_report.specs.Live.{AreLive}
use Rattle.sched_report.specs.Lives.{PastLife, spec_of, is_turn, with_entry}
use Rattle.sched_report.specs.Requests.{claims_in}
use Rattle.sched_report.specs.Said.{unsolicited_at, unsolicited_of_map}
use Rattle.sched_report.specs.Served.{IsServiceOf, with_grants}
use Rattle.sched_report.specs.Told.{IsLifeOf, MayNote, Meets, MayGrantAll}
use Rattle.sched_report.specs.Uses.{use_of, is_unsolicited}
use Rattle.sched_report.proofs.Fronts.{first_grants, first_grants-more, MayGrantAll-next}
use Rattle.sched_report.proofs.LifeNotes.{not_ended, may_grant_map, goes_on-granted}
use Rattle.sched_report.proofs.LivesGoing.{with_entry-ended, AreLive-still}
use Rattle.sched_report.proofs.Naming.{no_grant, other_sid}
use Rattle.sched_report.proofs.Reaching.{same_claims, claims_then}
use Rattle.sched_report.proofs.SlotLists.{first_allocations, first_allocations-more}

module _ (c : Config) where
  -- a life to which nothing is added where it goes on stays as it is
  pub HasMore-none : (gs : List Grant) (most n : ℕ) (t : LifeTally) → (t.to ≡ None → gs ≡ [])
      → (t.to ≡ None → n ≡ 0) → HasMore c gs most n t t
  HasMore-none gs most n t none zero = record {
    sid = refl;
    spec = refl;
    beginning = refl;
    to = refl;
    ended = λ never. refl;
    service = λ alive claims bytes before is.
        subst (λ (more : List Grant). IsServiceOf c t.service (map (with_grants more) claims) bytes (before ++ more))
        (sym (none alive))
        (subst (IsServiceOf c t.service (map (with_grants []) claims) bytes) (sym (append-nil before))
        (subst (λ (ms : List Claim). IsServiceOf c t.service ms bytes before) (sym (same_claims claims)) is));
    counted = λ alive. omega (arith, zero alive);
    few = omega arith;
  }

  -- one thing after the other
  pub HasMore-then : (gs hs : List Grant) (k l m n : ℕ) (a b d : LifeTally) → HasMore c gs k m a b
      → HasMore c hs l n b d → HasMore c (gs ++ hs) (k + l) (m + n) a d
  HasMore-then gs hs k l m n a b d first second = record {
    sid = second.sid ∙ first.sid;
    spec = second.spec ∙ first.spec;
    beginning = second.beginning ∙ first.beginning;
    to = second.to ∙ first.to;
    ended = λ never. second.ended (λ alive. never (sym first.to ∙ alive)) ∙ first.ended never;
    service = λ alive claims bytes before is.
        subst (IsServiceOf c d.service (map (with_grants (gs ++ hs)) claims) bytes) (append_assoc before gs hs)
        (subst (λ (ms : List Claim). IsServiceOf c d.service ms bytes ((before ++ gs) ++ hs))
        (claims_then gs hs claims)
        (second.service (first.to ∙ alive) (map (with_grants gs) claims) bytes (before ++ gs)
        (first.service alive claims bytes before is)));
    counted = λ alive. omega (arith, second.counted (first.to ∙ alive), first.counted alive);
    few = omega (arith, first.few, second.few);
  }

  -- the same in other words
  pub HasMore-is : (gs hs : List Grant) (k l m n : ℕ) (a b : LifeTally) → gs ≡ hs → k ≤ l → m ≡ n
      → HasMore c gs k m a b → HasMore c hs l n a b
  HasMore-is gs hs k l m n a b same within count more =
      let wider : HasMore c gs l m a b = record {
        sid = more.sid;
        spec = more.spec;
        beginning = more.beginning;
        to = more.to;
        ended = more.ended;
        service = more.service;
        counted = more.counted;
        few = omega (arith, more.few, within);
      } in
      subst (λ gs. HasMore c gs l n a b) same (subst (λ n. HasMore c gs l n a b) count wider)

module _ (c : Config) (gs : ℕ → List Grant) (most : ℕ) (m : FlowSpec → ℕ → ℕ) where
  -- lives to which nothing is added where they go on stay as they are
  pub HaveMore-none : (ts : List LifeTally)
      → ((k : ℕ) (t : LifeTally) → k < length ts → (get_or ts k t).to ≡ None → gs (get_or ts k t).sid ≡ [])
      → ((k : ℕ) (t : LifeTally) → k < length ts → (get_or ts k t).to ≡ None
      → m (get_or ts k t).spec (get_or ts k t).sid ≡ 0) → HaveMore c gs most m ts ts
  HaveMore-none ts none zero = λ k t below.
      HasMore-none c (gs (get_or ts k t).sid) most (m (get_or ts k t).spec (get_or ts k t).sid) (get_or ts k t)
      (none k t below) (zero k t below)

  -- what is added to one life, where nothing is to the others
  pub HaveMore-set : (ts : List LifeTally) (p : ℕ) (old new : LifeTally) → p < length ts
      → HasMore c (gs (get_or ts p old).sid) most (m (get_or ts p old).spec (get_or ts p old).sid) (get_or ts p old) new
      → ((k : ℕ) (t : LifeTally) → k < length ts → (k ≡ p → ⊥) → (get_or ts k t).to ≡ None
      → gs (get_or ts k t).sid ≡ [])
      → ((k : ℕ) (t : LifeTally) → k < length ts → (k ≡ p → ⊥) → (get_or ts k t).to ≡ None
      → m (get_or ts k t).spec (get_or ts k t).sid ≡ 0) → HaveMore c gs most m ts (set ts p new)
  HaveMore-set ts p old new inside more none zero = λ k t below. elim (cases_eq k p) [
    | inl at ↦
        let same : get_or ts p old ≡ get_or ts k t =
        get_or_default ts p old t inside ∙ ap (λ k. get_or ts k t) (sym at) in
        let here : new ≡ get_or (set ts p new) k t =
        sym (ap (λ k. get_or (set ts p new) k t) at ∙ get_or-set_same ts p new t inside) in
        subst (λ (u : LifeTally). HasMore c (gs u.sid) most (m u.spec u.sid) u (get_or (set ts p new) k t)) same
        (subst (λ (u : LifeTally). HasMore c (gs (get_or ts p old).sid) most
        (m (get_or ts p old).spec (get_or ts p old).sid) (get_or ts p old) u) here more)
    | inr apart ↦
        subst (λ (u : LifeTally). HasMore c (gs (get_or ts k t).sid) most (m (get_or ts k t).spec (get_or ts k t).sid)
        (get_or ts k t) u) (sym (get_or-set_other ts p k new t apart))
        (HasMore-none c (gs (get_or ts k t).sid) most (m (get_or ts k t).spec (get_or ts k t).sid) (get_or ts k t)
        (none k t below apart) (zero k t below apart))
  ]

  -- the same in other words
  pub HaveMore-is : (hs : ℕ → List Grant) (wider : ℕ) (n : FlowSpec → ℕ → ℕ) (a b : List LifeTally)
      → ((sid : ℕ) → gs sid ≡ hs sid) → most ≤ wider → ((spec : FlowSpec) (sid : ℕ) → m spec sid ≡ n spec sid)
      → HaveMore c gs most m a b → HaveMore c hs wider n a b
  HaveMore-is hs wider n a b same within count more = λ k t below.
      let u : LifeTally = get_or a k t in
      HasMore-is c (gs u.sid) (hs u.sid) most wider (m u.spec u.sid) (n u.spec u.sid) u (get_or b k t) (same u.sid)
      within (count u.spec u.sid) (more k t below)

  module _ (a b : List LifeTally) (long : length b ≡ length a) (first : HaveMore c gs most m a b) where
    -- one thing after the other
    pub HaveMore-then : (hs ks : ℕ → List Grant) (later all : ℕ) (n o : FlowSpec → ℕ → ℕ) (d : List LifeTally)
        → HaveMore c hs later n b d → ((sid : ℕ) → gs sid ++ hs sid ≡ ks sid) → most + later ≤ all
        → ((spec : FlowSpec) (sid : ℕ) → m spec sid + n spec sid ≡ o spec sid) → HaveMore c ks all o a d
    HaveMore-then hs ks later all n o d second same within count = λ k t below.
        let x : LifeTally = get_or a k t in
        let y : LifeTally = get_or b k t in
        let z : LifeTally = get_or d k t in
        let more = first k t below in
        let next : HasMore c (hs x.sid) later (n x.spec x.sid) y z =
        subst (λ (sid : ℕ). HasMore c (hs sid) later (n x.spec sid) y z) more.sid
        (subst (λ (spec : FlowSpec). HasMore c (hs y.sid) later (n spec y.sid) y z) more.spec
        (second k t (omega (arith, below, long)))) in
        HasMore-is c (gs x.sid ++ hs x.sid) (ks x.sid) (most + later) all (m x.spec x.sid + n x.spec x.sid)
        (o x.spec x.sid) x z (same x.sid) within (count x.spec x.sid)
        (HasMore-then c (gs x.sid) (hs x.sid) most later (m x.spec x.sid) (n x.spec x.sid) x y z more next)

    -- the lives that go on are still where they were
    pub HaveMore-live : (places : List ℕ) → AreLive places a → AreLive places b
    HaveMore-live places are =
        AreLive-still places a are b long (λ k t below. (first k t below).sid)
        (λ k t below alive. sym (first k t below).to ∙ alive)

-- the next element may be counted, where all may be
pub MayGrantEach-next : (c : Config) (start : ℕ) (es : List Element) (bs : List ℕ) (i : ℕ) (d : Element) (n : ℕ)
    → i < length es → i < length bs → (a b : List LifeTally) → length b ≡ length a
    → HaveMore c (λ sid. first_grants sid start es bs i) 0 (λ spec sid. 0) a b
    → MayGrantEach c (λ sid. filter_map (grant_by sid start) (zip es bs)) a
    → MayGrantEach c (λ sid. cons_option (grant_by sid start (get_or es i d, get_or bs i n)) []) b
MayGrantEach-next c start es bs i d n in_elements in_counts a b long more may = λ k t below alive.
    let within : k < length a = omega (arith, below, long) in
    let x : LifeTally = get_or a k t in
    let y : LifeTally = get_or b k t in
    let so_far = more k t within in
    let goes_on : x.to ≡ None = sym so_far.to ∙ alive in
    subst (λ (sid : ℕ). MayGrantAll c y.service
    (cons_option (grant_by sid start (get_or es i d, get_or bs i n)) [])) (sym so_far.sid)
    (MayGrantAll-next c x.service y.service x.sid start es bs i d n in_elements in_counts (may k t within goes_on)
    (so_far.service goes_on))

-- and with it the lives have what one element more grants
pub HaveMore-next : (c : Config) (start : ℕ) (es : List Element) (bs : List ℕ) (i : ℕ) (d : Element) (n : ℕ)
    → i < length es → i < length bs → (x y z : List LifeTally) → length y ≡ length x
    → HaveMore c (λ sid. first_grants sid start es bs i) 0 (λ spec sid. 0) x y
    → HaveMore c (λ sid. cons_option (grant_by sid start (get_or es i d, get_or bs i n)) []) 0 (λ spec sid. 0) y z
    → HaveMore c (λ sid. first_grants sid start es bs (i + 1)) 0 (λ spec sid. 0) x z
HaveMore-next c start es bs i d n in_elements in_counts x y z long first second =
    HaveMore-then c (λ (sid : ℕ). first_grants sid start es bs i) 0 (λ (spec : FlowSpec) (sid : ℕ). 0) x y long first
    (λ (sid : ℕ). cons_option (grant_by sid start (get_or es i d, get_or bs i n)) [])
    (λ (sid : ℕ). first_grants sid start es bs (i + 1)) 0 0 (λ (spec : FlowSpec) (sid : ℕ). 0)
    (λ (spec : FlowSpec) (sid : ℕ). 0) z second
    (λ sid. sym (first_grants-more sid start es bs i d n in_elements in_counts)) (omega arith)
    (λ spec sid. omega arith)

-- an allocation of another SID is no unsolicited grant
no_unsolicited : (met : List Met) (spec : FlowSpec) (sid : ℕ) (a : Allocation) → (a.sid ≡ sid → ⊥)
    → unsolicited_at met spec sid a ≡ 0
no_unsolicited met (flows.Unsolicited size interval jitter grants) sid a apart =
    ap {B = ℕ} (λ (t : Bool). if t && is_unsolicited (use_of a (meets_at met a.offset) true) then size else 0)
    (ne_eqb a.sid sid apart)
no_unsolicited met (flows.Polled interval jitter rate burst peak) sid a apart = refl
no_unsolicited met (flows.BestEffort priority rate burst peak reserved reserved-burst) sid a apart = refl

module _ (places : List ℕ) (ts : List LifeTally) (are : AreLive places ts) (k : ℕ) (t : LifeTally)
    (below : k < length ts) (alive : (get_or ts k t).to ≡ None) where
  -- an element is no data grant to a life that does not stand at the place of its SID
  pub no_grant-apart : (start bytes : ℕ) (e : Element) → (k ≡ get_or places e.sid 0 → ⊥)
      → cons_option (grant_by (get_or ts k t).sid start (e, bytes)) [] ≡ []
  no_grant-apart start bytes e apart =
      ap (λ (o : Option Grant). cons_option o [])
      (no_grant (get_or ts k t).sid start bytes e
      (λ some same. other_sid places ts are k t below e.sid apart alive same))

  -- and an allocation no unsolicited one
  pub no_unsolicited-apart : (met : List Met) (a : Allocation) → (k ≡ get_or places a.sid 0 → ⊥)
      → unsolicited_at met (get_or ts k t).spec (get_or ts k t).sid a ≡ 0
  no_unsolicited-apart met a apart =
      no_unsolicited met (get_or ts k t).spec (get_or ts k t).sid a
      (λ same. other_sid places ts are k t below a.sid apart alive same)

-- the bytes of the unsolicited grants among some allocations and one more
pub unsolicited-more : (met : List Met) (spec : FlowSpec) (sid : ℕ) (es : List Element) (n : ℕ)
    → sum_by (unsolicited_at met spec sid) (first_allocations es n) + unsolicited_at met spec sid (allocation_at es n)
    ≡ sum_by (unsolicited_at met spec sid) (first_allocations es (n + 1))
unsolicited-more met spec sid es n =
    omega (
      arith,
      ap (sum_by (unsolicited_at met spec sid)) (first_allocations-more es n),
      sum_by_push (unsolicited_at met spec sid) (first_allocations es n) (allocation_at es n),
    )

-- no life begins or ends with an entry that has a MAP
built_turn : (sid : ℕ) (call : Call) (m : FrameMap) → is_some (turn_by sid call (replies.Built m)) ≡ false
built_turn sid (calls.Admit other spec) m = refl
built_turn sid (calls.Remove other) m = refl
built_turn sid call m = refl

module _ (c : Config) (old : LifeTally) (life : PastLife) (slot : ℕ) (e : Entry) (m : FrameMap)
    (built : e.reply ≡ replies.Built m) (is : IsLifeOf c old life) (may : MayNote c life slot e) where
  stays : is_turn life.sid e ≡ false
  stays = ap (λ (r : Reply). is_some (turn_by life.sid e.call r)) built ∙ built_turn life.sid e.call m

  -- the data grants of a MAP may be counted in a life that goes on
  pub may_grant-map : old.to ≡ None → MayGrantAll c old.service (grants_of_map old.sid m)
  may_grant-map none =
      let alive : life.ended ≡ false =
      not_ended life.ended (next_after c (life.upto ++ life.since)) old.to is.to (ap is_some none) in
      subst (λ (sid : ℕ). MayGrantAll c old.service (grants_of_map sid m)) (sym is.sid)
      (may_grant_map c old life slot e is may alive stays m built)

  -- and unsolicited ones
  pub may_count-map : old.unsolicited + 2 ^ 32 * length m.wire.elements ≤ 2 ^ 100
  may_count-map = omega (arith, is.bounded, may.few, (may.orderly m built).within)

  -- the life goes on with the grants of a MAP
  pub goes_on-map : (met : List Met) → Meets c life e met → (new : LifeTally)
      → HasMore c (grants_of_map old.sid m) (length m.wire.elements) (unsolicited_of_map met old.spec old.sid m) old new
      → IsLifeOf c new (with_entry e life)
  goes_on-map met meets new more =
      elim (cases_Bool life.ended) [
        | inl ended ↦
            let never : old.to ≡ None → ⊥ = λ none.
            (let both : Some (next_after c (life.upto ++ life.since)) ≡ None =
            sym (is.to ∙ ap (λ b. if b then Some (next_after c (life.upto ++ life.since)) else None) ended) ∙ none
            in cc) in
            subst (λ (u : LifeTally). IsLifeOf c u (with_entry e life)) (sym (more.ended never))
            (subst (IsLifeOf c old) (sym (with_entry-ended e life ended)) is)
        | inr alive ↦
            let none : old.to ≡ None =
            is.to ∙ ap (λ b. if b then Some (next_after c (life.upto ++ life.since)) else None) alive in
            let same : unsolicited_of_map met old.spec old.sid m
            ≡ unsolicited_of_map (met_after c (life.upto ++ life.since) e.reply) (spec_of life) life.sid m =
            ap (λ (spec : FlowSpec). unsolicited_of_map met spec old.sid m) is.spec
            ∙ ap (λ (sid : ℕ). unsolicited_of_map met (spec_of life) sid m) is.sid
            ∙ ap (λ (met : List Met). unsolicited_of_map met (spec_of life) life.sid m) (meets alive) in
            goes_on-granted c old life slot e is may alive stays new more.sid more.spec more.beginning more.to m built
            (omega (arith, more.counted none, same)) (omega (arith, more.few, (may.orderly m built).within))
            (subst (λ (sid : ℕ). IsServiceOf c new.service
            (map (with_grants (grants_of_map sid m)) (claims_in c life.sid life.passed life.since))
            (asked_in c life.sid life.since) (grants_since life.sid life.since ++ grants_of_map sid m)) is.sid
            (more.service none (claims_in c life.sid life.passed life.since) (asked_in c life.sid life.since)
            (grants_since life.sid life.since) is.service))
      ]
