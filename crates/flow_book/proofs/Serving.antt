-- The first in the queue that may be served is the flow that is served first.
use Rattle.std.proofs.Common.{◌≡◌, refl, sym, ap, ◌∙◌, ℕ, suc, ◌<◌, ◌≤◌, min, true, nat_eq, IsTrue, ◌↔◌, filter}
use Rattle.std.proofs.Common.{◌⊎◌, inl, inr, Contains}
use Rattle.std.proofs.Common.{List, [], ◌∷◌, ◌++◌, map, slice_get, Some, subst, Bool, length, get_or}
use Rattle.std.proofs.Common.{◌==◌, ◌≢◌, ◌&&◌, not, max, nat_lt, cond, false, arith}
use Rattle.std.proofs.lemmas.Bool.{cases_eq, eq-eqb}
use Rattle.std.proofs.lemmas.Bool.Decides.{nat_tests}
use Rattle.std.proofs.lemmas.List.Elements.{All-from_recursion}
use Rattle.std.specs.List.{AllByRecursion}
use Rattle.std.proofs.lemmas.Option.{slice_get_within, get_or_from_slice_get, slice_get_read}
use Rattle.std.proofs.Math.ListN.{get_or-map}
use Rattle.std.proofs.lemmas.List.{length-map}
use Rattle.minislots.specs.declared.config.Config.{Config}
use Rattle.flow_book.specs.declared.flow.Flow.{Flow}
use Rattle.flow_book.specs.declared.waiting.Waiting.{Waiting}
use Rattle.sched_calls.specs.FlowSpec.{rank_of, takes_requests}
use Rattle.minislots.specs.Config.{IsLawful}
use Rattle.minislots.specs.Units.{bytes_in}
use Rattle.minislots.proofs.Bounds.{bounds_of}
use Rattle.minislots.proofs.UnitLaws.{fits_bytes, fits_slots}
use Rattle.flow_book.specs.Flows.{LiveFlow, HaveStartedBy, outstanding}
use Rattle.flow_book.specs.Choice.{last_start, is_before, IsEligible, IsNext, NoneEligible, HasStartedBy}
use Rattle.flow_book.specs.Entry.{live, is_plain, IsBook, IsTurn, KeepsSums}
use Rattle.flow_book.specs.Limits.{HasBegunBy, most_in, most_with}
use Rattle.sched_calls.specs.Sids.{AscendBy}
use Rattle.flow_book.specs.Queue.{IsAt, IsIn, IsPassed, IsNoSooner, IsAble, HasStartedPart, still_waits}
use Rattle.flow_book.specs.Parts.{HasStartedIn}
use Rattle.flow_book.specs.Tiers.{HasTier, queue_limits, limits_in, reserved_in, rank_in, turn_at}
use Rattle.flow_book.specs.Reserved.{wanted_of, is_under, rank_at}
use Rattle.flow_book.specs.Entry.{top_rank, turn_in}
use Rattle.flow_book.specs.Bucket.{BucketView, most_of, reserves}
use Rattle.flow_book.specs.declared.limits.Limits.{Limits}
use Rattle.sched_calls.specs.FlowSpec.{reserved_of, reserved_burst_of}
use Rattle.flow_book.proofs.Buckets.{no-ceiling}
use Rattle.flow_book.proofs.Charges.{begun-by}
use Rattle.flow_book.proofs.Reservation.{under-reserves}
use Rattle.flow_book.proofs.Turns.{turn-sid, turn-in, turn-in-later}
use Rattle.flow_book.specs.declared.tiers.Tier.{Tier}
use Rattle.flow_book.specs.declared.tiers.TheConstants.{NO_TIER}
use Rattle.flow_book.proofs.ByTier.{limits-at, rank-at, queued-limits, queued-nothing, queued-begun}
use Rattle.flow_book.proofs.Amounts.{eligible-is, limits-within, wanted-whole}
use Rattle.flow_book.proofs.Turns.{less-first}
use Rattle.flow_book.proofs.Steps.{all-item}
use Rattle.flow_book.proofs.Queues.{at-within, flow-at, turn-at, wants-at, sustained-at, tier-at}
use Rattle.flow_book.proofs.Queues.{place-of-sid}
use Rattle.flow_book.proofs.StillWaiting.{in-or-out, stays-in, kept-at, filter-split, all-joined, all-behind}
use Rattle.flow_book.proofs.Order.{all-implied}
use Rattle.sched_calls.proofs.Removal.{all-filter}

-- what holds of the flow at each place holds of each
all-places : (P : LiveFlow → Type 0) (items : List Flow)
    → ((k : ℕ) (f : Flow) → slice_get items k ≡ Some f → P (live f)) → AllByRecursion P (map live items)
all-places P [] each = tt
all-places P (f ∷ items) each = (each 0 f refl, all-places P items (λ k g found. each (suc k) g found))

contains-at : (items : List Flow) (k : ℕ) (f : Flow) → slice_get items k ≡ Some f → Contains (map live items) (live f)
contains-at items k f found =
    let within = slice_get_within items k f found in
    let long = length-map items live in
    (k, omega arith, get_or-map live items k f ∙ ap live (get_or_from_slice_get items k f f found))

-- of a place in the queue what holds of each there holds
pub pick : (P : Waiting → Type 0) (place : ℕ) (queue : List Waiting) → IsIn place queue → AllByRecursion P queue
    → (w : Waiting) × (w.place ≡ place) × P w
pick P place [] here all = absurd here
pick P place (w ∷ queue) (inl here) all = (w, here, all.0)
pick P place (w ∷ queue) (inr rest) all = pick P place queue rest all.1

-- what holds of each holds of one of them
pub all-here : {X : Type 0} (P : X → Type 0) (front : List X) (w : X) (back : List X)
    → AllByRecursion P (front ++ w ∷ back) → P w
all-here P [] w back all = all.0
all-here P (x ∷ front) w back all = all-here P front w back all.1

-- those behind a member have later turns
pub above-back : (front : List Waiting) (w : Waiting) (back : List Waiting) → AscendBy (λ v. v.turn) (front ++ w ∷ back)
    → AllByRecursion (λ v. w.turn < v.turn) back
above-back [] w back up = up.0
above-back (x ∷ front) w back up = above-back front w back up.1

-- what a flow that may be served takes at least fits the minislots
pub wanted-fits : (c : Config) (start room : ℕ) (f : LiveFlow) → IsLawful c → IsEligible c start room f
    → min (outstanding f) c.quantum ≤ bytes_in c room
wanted-fits c start room f lawful may =
    fits_bytes c (bounds_of c lawful).bursts (min (outstanding f) c.quantum) room may.takes.fits

-- so where none fit none of these may be served
pub none-fits : (c : Config) (start room : ℕ) (items : List Flow) → IsLawful c → bytes_in c room ≡ 0
    → (ws : List Waiting) → AllByRecursion (IsPassed c start room items) ws
none-fits c start room items lawful none [] = tt
none-fits c start room items lawful none (w ∷ ws) = (
  (λ f at may.
      let fits = wanted-fits c start room (live f) lawful may in
      absurd (omega (arith, fits, none, may.waits, (bounds_of c lawful).quantum_least))),
  none-fits c start room items lawful none ws,
)

-- a flow that waits for these bytes may be served where they, or the quantum, fit and keep the ceilings
pub may-is : (c : Config) (start room : ℕ) (f : Flow) (wants wanted : ℕ) (may : Bool) → IsLawful c → KeepsSums c f
    → HaveStartedBy start f.grants.items → outstanding (live f) ≡ wants → wanted ≡ min wants c.quantum
    → wanted ≤ bytes_in c room
    → IsTrue may ↔ (takes_requests f.spec ≡ true) × (0 < wanted) × (most_in f.limits start wanted ≡ wanted)
    → IsTrue may ↔ IsEligible c start room (live f)
may-is c start room f wants wanted may lawful keeps started asks is fits decides =
    let bounds = bounds_of c lawful in
    let limits : wanted ≡ min (outstanding (live f)) c.quantum = omega arith in
    let most = most_in f.limits start wanted in
    let within = limits-within c (live f) f.limits start room wanted most keeps.limits keeps.charges started
    (sym (ap (λ n. most_with f.limits start n wanted) (sym limits) ∙ wanted-whole f.limits start wanted)) in
    let yes' : IsTrue may → IsEligible c start room (live f) = λ t.
    let p = decides.0 t in
    let whole : IsTrue (nat_eq most wanted) = let e : most ≡ wanted = p.2 in grind (arith, nat_tests) in
    (eligible-is c (live f) start room wanted most p.0 limits p.1
    (fits_slots c bounds.bursts wanted room p.1 fits) within).0 whole in
    let back : IsEligible c start room (live f) → IsTrue may = λ able.
    let some : 0 < wanted = omega (arith, able.waits, bounds.quantum_least) in
    let whole : IsTrue (nat_eq most wanted) =
    (eligible-is c (live f) start room wanted most able.serves limits some
    (fits_slots c bounds.bursts wanted room some fits) within).1 able in
    let e : most ≡ wanted = grind (arith, nat_tests) in
    decides.1 (able.serves, some, e) in
    (yes', back)

pub rank-small : (c : Config) (start : ℕ) (f : Flow) → rank_of f.spec ≤ 255 → rank_at c start (live f) ≤ 255
rank-small c start f small = small-by (is_under c start (live f))
  where
    small-by : (b : Bool) → cond b 8 (rank_of f.spec) ≤ 255
    small-by true = omega arith
    small-by false = small

-- an entry's turn at a minislot is that of its flow's rank there, and no earlier than its own
module _ (c : Config) (start : ℕ) (f : Flow) (tiers : List Tier) (w : Waiting) (keeps : KeepsSums c f)
    (started : HaveStartedBy start f.grants.items) (limits : queue_limits f ≡ limits_in tiers w)
    (wants : outstanding (live f) ≡ w.wants)
    (rank : (f.limits.reserved.per_slot == 0) ≡ false → rank_in tiers w ≡ rank_of f.spec)
    (knows : IsTurn (top_rank f.spec) (last_start f.grants.items) f.sid w.turn) where
  abbrev wanted : ℕ
  wanted = min w.wants c.quantum

  reserved : f.limits.reserved ≡ reserved_in tiers w
  reserved = ap (λ (l : Limits). l.reserved) limits

  under : is_under c start (live f) ≡ reserves (reserved_in tiers w) start wanted
  under =
      under-reserves c (live f) f.limits start keeps.limits keeps.charges started
      ∙ ap (λ b. reserves b start (wanted_of c (live f))) reserved
      ∙ ap (λ n. reserves (reserved_in tiers w) start (min n c.quantum)) wants

  abbrev own : ℕ
  own = cond (reserves (reserved_in tiers w) start wanted) 8 (rank_in tiers w)

  abbrev answer : ℕ → Type 0
  answer turn = IsTurn (rank_at c start (live f)) (last_start f.grants.items) f.sid turn × (w.turn ≤ turn)

  free : (reserved_in tiers w).per_slot ≡ 0 → reserved_of f.spec ≡ 0
  free none =
      no-ceiling c (reserved_of f.spec) (reserved_burst_of f.spec) f.limits.reserved f.grants.reserved
      keeps.limits.reserved (ap (λ (b : BucketView). b.per_slot) reserved ∙ none)

  low : (b : Bool) → nat_lt 0 (reserved_of f.spec) ≡ true → cond b 8 (rank_of f.spec) ≤ top_rank f.spec
  low true is = rw is (omega arith)
  low false is = rw is (omega arith)

  by-tier : (b : Bool) → ((reserved_in tiers w).per_slot == 0) ≡ b → answer (cond b w.turn (turn_in own w.turn))
  by-tier true none =
      let zero' : (reserved_in tiers w).per_slot ≡ 0 = grind (arith, nat_tests) in
      let no-reserve = free zero' in
      let over : is_under c start (live f) ≡ false =
      under ∙ ap (λ b. not b && (most_of (reserved_in tiers w) start wanted == wanted)) none in
      let same : top_rank f.spec ≡ rank_of f.spec =
      ap (λ n. cond (nat_lt 0 n) (max 8 (rank_of f.spec)) (rank_of f.spec)) no-reserve in
      (rw (over, sym same) knows, omega arith)
  by-tier false some =
      let differ : reserved_of f.spec ≢ 0 = λ none.
      let is = keeps.limits.reserved.per_slot in
      let slow : (reserved_in tiers w).per_slot ≡ 0 =
      ap (λ (b : BucketView). b.per_slot) (sym reserved) ∙ (let gone = rw none at is in omega (arith, gone)) in
      absurd (grind (arith, nat_tests)) in
      let has : nat_lt 0 (reserved_of f.spec) ≡ true = grind (arith, nat_tests) in
      let mine = rank (ap (λ (b : BucketView). b.per_slot == 0) reserved ∙ some) in
      let same : own ≡ rank_at c start (live f) =
      ap (λ b. cond b 8 (rank_in tiers w)) (sym under) ∙ ap (λ n. cond (is_under c start (live f)) 8 n) mine in
      let lower : own ≤ top_rank f.spec = rw same (low (is_under c start (live f)) has) in (
        rw (sym same) (turn-in (top_rank f.spec) (last_start f.grants.items) f.sid w.turn own (turn_in own w.turn)
            knows refl),
        turn-in-later (top_rank f.spec) (last_start f.grants.items) f.sid w.turn own lower knows,
      )

  pub turns-now : answer (turn_at c tiers start w)
  turns-now = by-tier ((reserved_in tiers w).per_slot == 0) refl

-- what is known of the flow of an entry of the queue
pub record StandsIn (c : Config) (items : List Flow) (tiers : List Tier) (start : ℕ) (w : Waiting) : Type 0 where
  pub flow : Flow
  pub at : slice_get items w.place ≡ Some flow
  pub keeps : KeepsSums c flow
  pub started : HaveStartedBy start flow.grants.items
  pub turn : flow.turn ≡ w.turn
  pub wants : outstanding (live flow) ≡ w.wants
  pub sustained : (queue_limits flow).sustained ≡ w.sustained
  pub tier : is_plain flow ≡ (w.tier == NO_TIER)
  pub limits : queue_limits flow ≡ limits_in tiers w
  pub now : IsTurn (rank_at c start (live flow)) (last_start flow.grants.items) flow.sid (turn_at c tiers start w)
  pub later : w.turn ≤ turn_at c tiers start w

-- one that stands at its place has a flow
pub stands-at-place : (c : Config) (items : List Flow) (tiers : List Tier) (start : ℕ) (w : Waiting) → IsBook c items
    → AllByRecursion (HasStartedBy start) (map live items) → IsAt items w → HasTier items tiers w
    → StandsIn c items tiers start w
stands-at-place c items tiers start w book began at has =
    let found = flow-at items w (slice_get items w.place) refl at in
    let f = found.0 in
    let within = at-within items w at in
    let read : f ≡ get_or items w.place f = sym (get_or_from_slice_get items w.place f f found.1) in
    let keeps : KeepsSums c f = rw read (All-from_recursion (KeepsSums c) items book.sums w.place f within) in
    let started = all-item live items w.place f within read (HasStartedBy start) began in
    let limits = limits-at c items tiers w f keeps at has found.1 in
    let turns =
    turns-now c start f tiers w keeps started limits (wants-at items w f at found.1)
    (rank-at items tiers w f has found.1) (subst (IsTurn (top_rank f.spec) (last_start f.grants.items) f.sid)
    (turn-at items w f at found.1) keeps.turn.1) in
    record {
      flow = f;
      at = found.1;
      keeps = keeps;
      started = started;
      turn = turn-at items w f at found.1;
      wants = wants-at items w f at found.1;
      sustained = sustained-at items w f at found.1;
      tier = tier-at items w f at found.1;
      limits = limits;
      now = turns.0;
      later = turns.1;
    }

-- an entry that still waits has a flow
pub stands-in : (c : Config) (items : List Flow) (tiers : List Tier) (queue : List Waiting) (start i : ℕ) (w : Waiting)
    → HasStartedPart c items tiers queue start → i < length queue → w ≡ get_or queue i w → 0 < w.wants
    → StandsIn c items tiers start w
stands-in c items tiers queue start i w is lt here waits =
    let still : still_waits w ≡ true = grind (arith, nat_tests) in
    let keeps = ap still_waits (sym here) ∙ still in
    let at : IsAt items w = rw here (kept-at (IsAt items) still_waits queue i w lt keeps is.each) in
    let has = subst (HasTier items tiers) (sym here)
    (kept-at (HasTier items tiers) still_waits queue i w lt keeps is.tiered) in
    stands-at-place c items tiers start w is.book is.started at has

-- the answer to whether one may be served, of which it is known that it stands at its place
abbrev pub AnswersMay : Config → List Tier → ℕ → ℕ → Waiting → Bool → Type 0
AnswersMay c tiers start room w may = (items : List Flow) (f : Flow) → IsBook c items
    → AllByRecursion (HasStartedBy start) (map live items) → IsAt items w → HasTier items tiers w
    → slice_get items w.place ≡ Some f → still_waits w ≡ true → IsTrue may ↔ IsEligible c start room (live f)

module _ (c : Config) (items : List Flow) (tiers : List Tier) (queue : List Waiting) (start : ℕ) where
  -- the buckets of one that waits are counted from a minislot on that is no later
  pub begun-in : (i : ℕ) (w : Waiting) → HasStartedPart c items tiers queue start → i < length queue
      → w ≡ get_or queue i w → still_waits w ≡ true → HasBegunBy start (limits_in tiers w)
  begun-in i w has lt here still =
      let waits : 0 < w.wants = grind (arith, nat_tests) in
      let is = stands-in c items tiers queue start i w has lt here waits in
      rw (sym is.limits) (queued-begun is.flow start
      (begun-by c (live is.flow) is.flow.limits start is.keeps.limits is.keeps.charges is.started))

  module _ (room i : ℕ) (w : Waiting) (may : Bool) (has : HasStartedPart c items tiers queue start)
      (lt : i < length queue) (here : w ≡ get_or queue i w) where
    at-here : still_waits w ≡ true → IsAt items w × HasTier items tiers w
    at-here still =
        let keeps = ap still_waits (sym here) ∙ still in (
          rw here (kept-at (IsAt items) still_waits queue i w lt keeps has.each),
          subst (HasTier items tiers) (sym here) (kept-at (HasTier items tiers) still_waits queue i w lt keeps
              has.tiered),
        )

    -- one that may be served stands here
    pub able-here : (may ≡ true → still_waits w ≡ true) → AnswersMay c tiers start room w may → may ≡ true
        → IsAble c items queue start room i
    able-here waits answers yes' =
        let still = waits yes' in
        let more : 0 < w.wants = grind (arith, nat_tests) in
        let is = stands-in c items tiers queue start i w has lt here more in
        let two = at-here still in
        record {
          waiting = w;
          here = slice_get_read queue (length queue) i w refl lt here;
          waits = still;
          flow = is.flow;
          at = is.at;
          may = (answers items is.flow has.book has.started two.0 two.1 is.at still).0 yes';
        }

    -- and else its flow may not
    pub passed-here : AnswersMay c tiers start room w may → may ≡ false → still_waits w ≡ true
        → IsPassed c start room items w
    passed-here answers no' still = λ g at able.
        let two = at-here still in
        let t : may ≡ true = (answers items g has.book has.started two.0 two.1 at still).1 able in
        absurd (cc)

    -- and its turn at the minislot is no earlier than its own
    pub later-here : still_waits w ≡ true → w.turn ≤ turn_at c tiers start w
    later-here still =
        let more : 0 < w.wants = grind (arith, nat_tests) in
        (stands-in c items tiers queue start i w has lt here more).later

equal : (m n : ℕ) → (m == n) ≡ true → m ≡ n
equal m n same = grind (arith, nat_tests)

-- it may be served where the bytes that it waits for, or the quantum, fit and keep the ceilings
pub entry-may : (c : Config) (start room : ℕ) (items : List Flow) (tiers : List Tier) (w : Waiting) (wanted : ℕ)
    (may : Bool) → IsLawful c → (is : StandsIn c items tiers start w) → wanted ≡ min w.wants c.quantum → 0 < wanted → wanted ≤ bytes_in c room
    → may ≡ (most_in (limits_in tiers w) start wanted == wanted)
    → IsTrue may ↔ IsEligible c start room (live is.flow)
entry-may c start room items tiers w wanted may lawful is limits some fits tested =
    by (takes_requests is.flow.spec) refl
  where
    f : Flow
    f = is.flow

    queued : most_in (queue_limits f) start wanted ≡ most_in (limits_in tiers w) start wanted
    queued = ap (λ l. most_in l start wanted) is.limits

    -- one that takes no requests has no byte in the queue
    by : (b : Bool) → takes_requests f.spec ≡ b → IsTrue may ↔ IsEligible c start room (live f)
    by true takes =
        let most : most_in f.limits start wanted ≡ most_in (limits_in tiers w) start wanted =
        ap (λ l. most_in l start wanted) (sym (queued-limits f takes)) ∙ queued in
        may-is c start room f w.wants wanted may lawful is.keeps is.started is.wants limits fits (
          (λ t. (takes, some, most ∙ equal (most_in (limits_in tiers w) start wanted) wanted (sym tested ∙ t))),
          (λ p. tested ∙ eq-eqb (most_in (limits_in tiers w) start wanted) wanted (sym most ∙ p.2)),
        )
    by false silent =
        let none = sym queued ∙ queued-nothing f start wanted silent in (
          (λ t.
              let all = equal (most_in (limits_in tiers w) start wanted) wanted (sym tested ∙ t) in
              absurd (omega (arith, none, all, some))),
          (λ able. let takes = able.serves in absurd (cc)),
        )

-- what holds of those of a list that still wait holds of one that does
pub kept-of : (P : Waiting → Type 0) (queue : List Waiting) (i : ℕ) (w : Waiting) → slice_get queue i ≡ Some w
    → still_waits w ≡ true → AllByRecursion P (filter still_waits queue) → P w
kept-of P queue i w here still all =
    let within = slice_get_within queue i w here in
    let is : get_or queue i w ≡ w = get_or_from_slice_get queue i w w here in
    subst P is (kept-at P still_waits queue i w within (ap still_waits is ∙ still) all)

-- of those in a list that still wait each has at a minislot a turn no earlier than its own
pub all-later : (c : Config) (items : List Flow) (tiers : List Tier) (start : ℕ) (ws : List Waiting) → IsBook c items
    → AllByRecursion (HasStartedBy start) (map live items) → AllByRecursion (IsAt items) ws
    → AllByRecursion (HasTier items tiers) ws → AllByRecursion (λ w. w.turn ≤ turn_at c tiers start w) ws
all-later c items tiers start [] book began at has = tt
all-later c items tiers start (w ∷ ws) book began at has = (
  (stands-at-place c items tiers start w book began at.0 has.0).later,
  all-later c items tiers start ws book began at.1 has.1,
)

module _ (c : Config) (start room : ℕ) (items : List Flow) (tiers : List Tier) where
  -- an earlier turn is no later either
  pub sooner-still : (turn more : ℕ) (v : Waiting) → turn ≤ more → IsNoSooner c tiers start room items more v
      → IsNoSooner c tiers start room items turn v
  sooner-still turn more v le (inl passed) = inl passed
  sooner-still turn more v le (inr late) = inr (omega (arith, le, late))

  -- what is no sooner than an earlier turn
  pub all-sooner : (turn more : ℕ) (ws : List Waiting) → turn ≤ more
      → AllByRecursion (IsNoSooner c tiers start room items more) ws
      → AllByRecursion (IsNoSooner c tiers start room items turn) ws
  all-sooner turn more ws le =
      all-implied (IsNoSooner c tiers start room items more) (IsNoSooner c tiers start room items turn) ws
      (λ v late. sooner-still turn more v le late)

  -- those that come no earlier in turn do at the minislot
  pub no-sooner : (turn : ℕ) (ws : List Waiting) → AllByRecursion (λ v. turn ≤ v.turn) ws
      → AllByRecursion (λ v. v.turn ≤ turn_at c tiers start v) ws
      → AllByRecursion (IsNoSooner c tiers start room items turn) ws
  no-sooner turn [] all later = tt
  no-sooner turn (v ∷ ws) all later = (inr (omega (arith, all.0, later.0)), no-sooner turn ws all.1 later.1)

  -- those behind one of a turn no earlier than this one come no earlier
  pub late-behind : (turn : ℕ) (front : List Waiting) (w : Waiting) (back queue : List Waiting)
      → queue ≡ front ++ w ∷ back → still_waits w ≡ true → turn ≤ w.turn
      → AscendBy (λ v. v.turn) (filter still_waits queue)
      → AllByRecursion (λ v. v.turn ≤ turn_at c tiers start v) (filter still_waits queue)
      → AllByRecursion (IsNoSooner c tiers start room items turn) (filter still_waits front)
      → AllByRecursion (IsNoSooner c tiers start room items turn) (filter still_waits queue)
  late-behind turn front w back queue split still low up later ahead =
      let P = IsNoSooner c tiers start room items turn in
      let is : filter still_waits queue ≡ filter still_waits front ++ w ∷ filter still_waits back =
      ap (filter still_waits) split ∙ filter-split still_waits front w back still in
      let behind = above-back (filter still_waits front) w (filter still_waits back) (rw is at up) in
      let rest =
      all-behind (λ v. v.turn ≤ turn_at c tiers start v) (filter still_waits front) (w ∷ filter still_waits back)
      (rw is at later) in
      rw is (all-joined P (filter still_waits front) (w ∷ filter still_waits back) ahead
      (no-sooner turn (w ∷ filter still_waits back) (
        low,
        all-implied (λ v. w.turn < v.turn) (λ v. turn ≤ v.turn) (filter still_waits back)
            (λ v lt. omega (arith, lt, low)) behind,
      ) rest))

module _ (c : Config) (start room : ℕ) (items : List Flow) (tiers : List Tier) (queue served : List Waiting)
    (has : HasStartedIn c items tiers queue served start) where
  -- of those that still wait in the two parts what holds of each holds of one at the place of each flow that waits
  one-of : (P : Waiting → Type 0) (k : ℕ) (g : Flow) → slice_get items k ≡ Some g → 0 < outstanding (live g)
      → AllByRecursion P (filter still_waits queue) → AllByRecursion P (filter still_waits served)
      → (v : Waiting) × (v.place ≡ k) × P v
  one-of P k g found waits all all' = elim (in-or-out k served) [
    | inl here ↦ pick P k (filter still_waits served)
        (stays-in items served k g found waits has.order.served_ones.each here) all'
    | inr out ↦ pick P k (filter still_waits queue) (has.order.others.whole k g found out waits) all
  ]

  -- what is known of one that waits, and its turn
  abbrev Known : ℕ → Waiting → Type 0
  Known turn v = IsAt items v × HasTier items tiers v × IsNoSooner c tiers start room items turn v

  known : (turn : ℕ) (ws : List Waiting) → AllByRecursion (IsAt items) ws → AllByRecursion (HasTier items tiers) ws
      → AllByRecursion (IsNoSooner c tiers start room items turn) ws → AllByRecursion (Known turn) ws
  known turn [] at tier all = tt
  known turn (v ∷ ws) at tier all = ((at.0, tier.0, all.0), known turn ws at.1 tier.1 all.1)

  -- one that may be served is served first where each that may be served is no sooner
  pub first-next : (w : Waiting) (f : Flow) → slice_get items w.place ≡ Some f → IsAt items w → HasTier items tiers w
      → IsEligible c start room (live f)
      → AllByRecursion (IsNoSooner c tiers start room items (turn_at c tiers start w)) (filter still_waits queue)
      → AllByRecursion (IsNoSooner c tiers start room items (turn_at c tiers start w)) (filter still_waits served)
      → IsNext c (map live items) start room (live f)
  first-next w f here at tier may all all' =
      let turn = turn_at c tiers start w in
      let both = known turn (filter still_waits queue) has.order.others.each has.others all in
      let both' =
      known turn (filter still_waits served) (all-filter (IsAt items) still_waits served has.order.served_ones.each)
      (all-filter (HasTier items tiers) still_waits served has.ones) all' in
      record {
        live = contains-at items w.place f here;
        eligible = may;
        first = all-places (λ g. IsEligible c start room g → (g ≡ live f) ⊎ (is_before c start (live f) g ≡ true)) items
            (λ k g found may'.
            let v = one-of (Known turn) k g found may'.waits both both' in
            let there : slice_get items v.0.place ≡ Some g = ap (slice_get items) v.1 ∙ found in
            elim v.2.2 [
              | inl passed ↦ absurd (passed g there may')
              | inr late ↦ before-by w v.0 f g k here at tier v.1 v.2.0 v.2.1 there found late
            ]);
      }
    where
      before-by : (w v : Waiting) (f g : Flow) (k : ℕ) → slice_get items w.place ≡ Some f → IsAt items w
          → HasTier items tiers w → v.place ≡ k → IsAt items v → HasTier items tiers v
          → slice_get items v.place ≡ Some g → slice_get items k ≡ Some g
          → turn_at c tiers start w ≤ turn_at c tiers start v
          → (live g ≡ live f) ⊎ (is_before c start (live f) (live g) ≡ true)
      before-by w v f g k here at tier place at' tier' there found late =
          let mine = stands-at-place c items tiers start w has.book has.started at tier in
          let yours = stands-at-place c items tiers start v has.book has.started at' tier' in
          let is : mine.flow ≡ f = let e : Some mine.flow ≡ Some f = sym mine.at ∙ here in cc in
          let is' : yours.flow ≡ g = let e : Some yours.flow ≡ Some g = sym yours.at ∙ there in cc in
          let now : IsTurn (rank_at c start (live f)) (last_start f.grants.items) f.sid (turn_at c tiers start w) =
          rw (sym is) mine.now in
          let now' : IsTurn (rank_at c start (live g)) (last_start g.grants.items) g.sid (turn_at c tiers start v) =
          rw (sym is') yours.now in
          let keeps : KeepsSums c f = rw (sym is) mine.keeps in
          let keeps' : KeepsSums c g = rw (sym is') yours.keeps in
          elim (cases_eq (turn_at c tiers start w) (turn_at c tiers start v)) [
            | inl same ↦ (
                let sids =
                turn-sid (rank_at c start (live f)) (rank_at c start (live g)) (last_start f.grants.items)
                (last_start g.grants.items) f.sid g.sid (turn_at c tiers start w) now (rw same now') in
                let place = place-of-sid c items has.book w.place k f g here found sids in
                let e : Some g ≡ Some f = sym found ∙ ap (slice_get items) (sym place) ∙ here in
                let equal : g ≡ f = cc in
                inl (ap live equal))
            | inr differ ↦ inr (less-first (rank_at c start (live f)) (rank_at c start (live g))
                (last_start f.grants.items) (last_start g.grants.items) f.sid g.sid (turn_at c tiers start w)
                (turn_at c tiers start v) (rank-small c start f keeps.turn.0) (rank-small c start g keeps'.turn.0) now
                now' (omega (arith, late, differ)))
          ]

  -- and where none of them may be served none may
  pub none-next : AllByRecursion (IsPassed c start room items) (filter still_waits queue)
      → AllByRecursion (IsPassed c start room items) (filter still_waits served)
      → NoneEligible c (map live items) start room
  none-next all all' =
      all-places (λ g. IsEligible c start room g → ⊥) items
      (λ k g found may.
      let v = one-of (IsPassed c start room items) k g found may.waits all all' in
      v.2 g (ap (slice_get items) v.1 ∙ found) may)
