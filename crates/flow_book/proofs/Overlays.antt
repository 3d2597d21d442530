-- An overlay as its book's flows are, and with one data grant more.
use Rattle.std.proofs.Common.{◌≡◌, ◌≢◌, refl, sym, ap, ◌∙◌, subst, ℕ, ◌+◌, ◌≤◌, ◌==◌, ◌&&◌, ◌⊎◌, inl, inr, min, Option, Bool, false, cond, ◌<◌}
use Rattle.std.proofs.Common.{List, [], ◌∷◌, ◌++◌}
use Rattle.std.proofs.Common.{map, filter, true, set, get_or, slice_get, Some, option_map, arith}
use Rattle.std.specs.List.{AllZip, AllByRecursion}
use Rattle.std.specs.Option.{IfSome}
use Rattle.std.proofs.lemmas.Bool.{cases_eq, cond_both}
use Rattle.std.proofs.lemmas.Bool.Decides.{nat_tests}
use Rattle.std.proofs.lemmas.Option.{slice_get-map, slice_get_within, get_or_from_slice_get}
use Rattle.minislots.specs.declared.config.Config.{Config}
use Rattle.minislots.specs.Config.{IsLawful}
use Rattle.minislots.specs.Units.{bytes_in}
use Rattle.sched_calls.specs.FlowSpec.{takes_requests}
use Rattle.flow_book.specs.declared.flow.Flow.{Flow}
use Rattle.flow_book.specs.declared.flow.Grant.{Grant}
use Rattle.flow_book.specs.declared.limits.Limits.{Limits}
use Rattle.flow_book.specs.declared.waiting.Waiting.{Waiting}
use Rattle.flow_book.specs.declared.tiers.Tier.{Tier}
use Rattle.flow_book.specs.declared.tiers.TheConstants.{NO_TIER}
use Rattle.flow_book.specs.Flows.{LiveFlow, and_grant, outstanding}
use Rattle.flow_book.specs.Reserved.{wanted_of, is_under, with_grant}
use Rattle.flow_book.specs.Limits.{HasBegunBy, AreLimitsOf, AreSettled, HaveOneMore, StaySettled, most_with}
use Rattle.flow_book.specs.Choice.{last_start, IsAmount, HasStartedBy}
use Rattle.flow_book.specs.Entry.{live, is_plain, top_rank, IsBook, IsTurn, KeepsSums}
use Rattle.flow_book.specs.Book.{changed}
use Rattle.flow_book.specs.Queue.{entry_of, AreOnce, IsShortQueue, IsAt, IsIn, IsQueue, IsQueueAmong, IsQueueIn, IsOrderIn, served_of, HasRoom}
use Rattle.flow_book.specs.Queue.{still_waits}
use Rattle.flow_book.specs.declared.parts.Standing.{Standing}
use Rattle.flow_book.specs.declared.parts.Standing.TheVariants.{Queued, Served}
use Rattle.flow_book.specs.Parts.{one_at, HasStartedIn, IsNextIn, IsPutIn, IsPutBack, IsPut, IsGranted}
use Rattle.flow_book.specs.Tiers.{HasTier, queue_limits, limits_in}
use Rattle.flow_book.specs.Overlay.{IsSameFlow, HaveTiers, IsOverlay}
use Rattle.flow_book.specs.Taking.{CanBeTaken}
use Rattle.flow_book.proofs.Amounts.{amount-of_most, most-in-limits}
use Rattle.flow_book.proofs.Changes.{placed-changed}
use Rattle.flow_book.proofs.InParts.{served-each, order-none}
use Rattle.flow_book.proofs.NextServed.{IsFound, found-next, served-book}
use Rattle.flow_book.proofs.Charges.{charges-more, limits-more, settled-more, begun-by}
use Rattle.flow_book.proofs.ByTier.{queued-limits, queued-begun, own-tier, other-tier}
use Rattle.flow_book.proofs.Queues.{with-one, in-new, in-old, in-one, among-as, among-same, among-others, same-but}
use Rattle.flow_book.proofs.Queues.{all-both, stands-at, put-among, pass-among, set-here}
use Rattle.sched_calls.proofs.Insertion.{all-put_in}
use Rattle.sched_calls.proofs.Removal.{all-filter}
use Rattle.flow_book.proofs.Once.{all-insert, in-inserted, in-still, once-insert}
use Rattle.flow_book.proofs.Serving.{StandsIn, stands-at-place, kept-of}
use Rattle.flow_book.proofs.StillWaiting.{all-at, order-in}
use Rattle.flow_book.proofs.Sums.{one_more, last-more, last-behind, last-started, bytes-added}

pub same-all : (flows : List LiveFlow) → AllZip IsSameFlow flows flows
same-all [] = tt
same-all (f ∷ flows) = (refl, same-all flows)

-- over a book's flows nothing is granted yet
pub over-book : (c : Config) (items : List Flow) (is_long : Bool) (queue : List Waiting) (tiers : List Tier)
    (capacity : ℕ) → IsBook c items → IsQueue items queue → AllByRecursion (HasTier items tiers) queue
    → HasRoom is_long queue [] capacity
    → IsOverlay c (map live items) (map live items) is_long queue [] tiers capacity 0
over-book c items is_long queue tiers capacity book order tiered room = record {
  items = items;
  shows = refl;
  book = book;
  order = order-none is_long items queue order;
  tiered = record {
    ones = ones-none is_long tiered;
    others = all-filter (HasTier items tiers) still_waits queue tiered;
  };
  room = room;
  passed = λ many. tt;
  same = same-all (map live items);
  rest = λ place. inr refl;
}
  where
    ones-none : (b : Bool) → AllByRecursion (HasTier items tiers) queue
        → AllByRecursion (HasTier items tiers) (served_of b queue [])
    ones-none true all = tt
    ones-none false all = all

tiers-served : (b : Bool) (items : List Flow) (tiers : List Tier) (queue served : List Waiting)
    → IsOrderIn b items queue served → AllByRecursion (HasTier items tiers) (served_of b queue served)
    → AllByRecursion (HasTier items tiers) served
tiers-served true items tiers queue served order all = all
tiers-served false items tiers queue served order all =
    subst (AllByRecursion (HasTier items tiers)) (sym order.1) tt

-- the grants of an overlay have started where those of its flows have
pub started-queue : (c : Config) (before flows : List LiveFlow) (is_long : Bool) (queue served : List Waiting)
    (tiers : List Tier) (capacity first start : ℕ)
    → (o : IsOverlay c before flows is_long queue served tiers capacity first)
    → AllByRecursion (HasStartedBy start) flows → HasStartedIn c o.items tiers queue served start
started-queue c before flows is_long queue served tiers capacity first start o started = record {
  book = o.book;
  order = order-in is_long o.items queue served o.order;
  ones = tiers-served is_long o.items tiers queue served o.order o.tiered.ones;
  others = o.tiered.others;
  started = rw o.shows started;
}

-- the flows of a book can be taken over from those that a MAP served
pub can-be-taken : (c : Config) (before flows : List LiveFlow) (is_long : Bool) (queue served : List Waiting)
    (tiers : List Tier) (capacity first : ℕ) (old : List Flow)
    → (o : IsOverlay c before flows is_long queue served tiers capacity first) → IsBook c old → map live old ≡ before
    → CanBeTaken c old o.items tiers (served_of is_long queue served)
can-be-taken c before flows is_long queue served tiers capacity first old o book is = record {
  before = book;
  book = o.book;
  each = (served-each is_long o.items queue served o.order).0;
  tiered = o.tiered.ones;
  once = (served-each is_long o.items queue served o.order).1;
  same = rw (is, o.shows) o.same;
  rest = rw (is, o.shows) o.rest;
}

same-grown : (c : Config) (f g : LiveFlow) (grant : Grant) → IsSameFlow f g → IsSameFlow f (with_grant c grant g)
same-grown c f g grant same =
    let more = with_grant c grant g in
    ap (λ (h : LiveFlow). record h {
      grants = more.grants;
      sustained = more.sustained;
      peak = more.peak;
      reserved = more.reserved;
    }) same

-- flows are the same but for their grants where one has a grant more
pub same-changed : (c : Config) (sid : ℕ) (grant : Grant) (before flows : List LiveFlow) → AllZip IsSameFlow before flows
    → AllZip IsSameFlow before (changed sid (with_grant c grant) flows)
same-changed c sid grant [] [] all = tt
same-changed c sid grant [] (g ∷ flows) all = absurd all
same-changed c sid grant (f ∷ before) [] all = absurd all
same-changed c sid grant (f ∷ before) (g ∷ flows) all = (
  cond_both (g.sid == sid) (with_grant c grant g) g (IsSameFlow f) (λ yes'. same-grown c f g grant all.0) (λ no'. all.0),
  same-changed c sid grant before flows all.1,
)

-- one of the two parts has a flow
pub one-stands : (c : Config) (items : List Flow) (tiers : List Tier) (queue served : List Waiting) (start : ℕ)
    (at : Standing) (w : Waiting) → HasStartedIn c items tiers queue served start → one_at at queue served ≡ Some w
    → still_waits w ≡ true → StandsIn c items tiers start w × HasTier items tiers w
one-stands c items tiers queue served start (Queued i) w has here still =
    let tier = kept-of (HasTier items tiers) queue i w here still has.others in (
      stands-at-place c items tiers start w has.book has.started
          (kept-of (IsAt items) queue i w here still has.order.others.each) tier,
      tier,
    )
one-stands c items tiers queue served start (Served i) w has here still =
    let tier = all-at (HasTier items tiers) served i w has.ones here in (
      stands-at-place c items tiers start w has.book has.started
          (all-at (IsAt items) served i w has.order.served_ones.each here) tier,
      tier,
    )

-- the one that stands where the next stands is the next
next-waiting : (c : Config) (items : List Flow) (queue served : List Waiting) (start room : ℕ) (at : Standing)
    (w : Waiting)
    → one_at at queue served ≡ Some w → (first : IsNextIn c items queue served start room at) → first.waiting ≡ w
next-waiting c items queue served start room at w here first =
    let e : Some first.waiting ≡ Some w = sym first.here ∙ here in cc

-- and still waits
pub next-waits : (c : Config) (items : List Flow) (queue served : List Waiting) (start room : ℕ) (at : Standing)
    (w : Waiting)
    → one_at at queue served ≡ Some w → IsNextIn c items queue served start room at → still_waits w ≡ true
next-waits c items queue served start room at w here first =
    subst (λ (v : Waiting). still_waits v ≡ true)
    (next-waiting c items queue served start room at w here first) first.waits

module _ (c : Config) (items : List Flow) (tiers : List Tier) (queue served : List Waiting) (start room : ℕ)
    (at : Standing) (w : Waiting) (has : HasStartedIn c items tiers queue served start)
    (next : IsNextIn c items queue served start room at) (here : one_at at queue served ≡ Some w) where
  next-stands : StandsIn c items tiers start w
  next-stands =
      (one-stands c items tiers queue served start at w has here
      (next-waits c items queue served start room at w here next)).0

  -- so its buckets are counted from a minislot on that is no later
  pub next-begun : HasBegunBy start (limits_in tiers w)
  next-begun =
      rw (sym next-stands.limits) (queued-begun next-stands.flow start
      (begun-by c (live next-stands.flow) next-stands.flow.limits start next-stands.keeps.limits next-stands.keeps.charges
      next-stands.started))

  -- and its turn after a grant is no earlier
  pub next-later : (n : ℕ) → ((rank : ℕ) (last : Option ℕ) (sid : ℕ) → IsTurn rank last sid w.turn
      → IfSome last (λ m. m ≤ start) → w.turn ≤ n) → w.turn ≤ n
  next-later n later =
      let f = next-stands.flow in
      later (top_rank f.spec) (last_start f.grants.items) f.sid
      (subst (IsTurn (top_rank f.spec) (last_start f.grants.items) f.sid) next-stands.turn next-stands.keeps.turn.1)
      (last-started start f.grants.items next-stands.started)

-- the flow that is next, the flows with its grant, and their queue
pub record IsServed (c : Config) (items : List Flow) (is_long : Bool) (after : List Tier)
    (queue served queue_after served_after : List Waiting) (start room bytes : ℕ) (w new : Waiting) : Type 0 where
  pub flow : Flow
  pub found : IsFound c items start room w.place flow
  pub amount : IsAmount c (live flow) start room bytes
  pub turn : IsTurn (top_rank flow.spec) (Some start) flow.sid new.turn
  pub grown : List Flow
  pub shows : map live grown ≡ changed flow.sid (with_grant c (record { start = start; bytes = bytes })) (map live items)
  pub book : IsBook c grown
  pub order : IsOrderIn is_long grown queue_after served_after
  pub tiered : HaveTiers is_long grown after queue_after served_after
  pub rest : (before : List LiveFlow) → ((place : ℕ) → IsIn place (served_of is_long queue served)
      ⊎ (slice_get (map live items) place ≡ slice_get before place)) → (place : ℕ)
      → IsIn place (served_of is_long queue_after served_after) ⊎ (slice_get (map live grown) place ≡ slice_get before place)

module _ (c : Config) (items : List Flow) (tiers after : List Tier) (queue served queue_after served_after : List Waiting)
    (start room sid bytes more : ℕ) (at : Standing) (w new : Waiting) (lawful : IsLawful c)
    (has : HasStartedIn c items tiers queue served start) (here : one_at at queue served ≡ Some w)
    (first : IsNextIn c items queue served start room at) (cap : more ≡ min (bytes_in c room) c.grant_cap)
    (granted : IsGranted c.quantum tiers after w new start more sid bytes) where
  both : StandsIn c items tiers start w × HasTier items tiers w
  both =
      one-stands c items tiers queue served start at w has here
      (next-waits c items queue served start room at w here first)

  abbrev stands : StandsIn c items tiers start w
  stands = both.0

  abbrev wants : new.wants + bytes ≡ w.wants
  wants = granted.wants

  abbrev same : new.place ≡ w.place
  same = granted.place

  abbrev f : Flow
  f = stands.flow

  read : f ≡ get_or items w.place f
  read = sym (get_or_from_slice_get items w.place f f stands.at)

  first-is : first.flow ≡ f
  first-is =
      let e' : Some first.flow ≡ Some f =
      sym first.stands ∙ ap (λ (v : Waiting). slice_get items v.place)
      (next-waiting c items queue served start room at w here first) ∙ stands.at in
      cc

  -- the flow is the one that is next
  found : IsFound c items start room w.place f
  found =
      found-next c items start room w.place f has.book.sound.ascending
      (rw (slice_get-map live items w.place, stands.at) (rw (sym first-is) first.next)) read

  takes : takes_requests f.spec ≡ true
  takes = found.next.eligible.serves

  -- so what its ceilings leave to it is what they leave to its flow
  limits : f.limits ≡ limits_in tiers w
  limits = sym (queued-limits f takes) ∙ stands.limits

  -- what it wants at least is what its flow does
  wanted : min w.wants c.quantum ≡ wanted_of c (live f)
  wanted = ap (λ n. min n c.quantum) (sym stands.wants)

  amount : IsAmount c (live f) start room bytes
  amount =
      amount-of_most c lawful start room (live f) bytes found.next.eligible
      (most-in-limits c (live f) f.limits start room (min w.wants more) bytes lawful
      (omega (arith, cap, stands.wants)) stands.keeps.limits stands.keeps.charges stands.started
      (granted.amount ∙ ap (λ l. most_with l start (min w.wants c.quantum) (min w.wants more)) (sym limits)
      ∙ ap (λ n. most_with f.limits start n (min w.wants more)) wanted))

  -- it with the grant
  abbrev granted-flow : Flow
  granted-flow = record f {
    turn = new.turn;
    granted = f.granted + bytes;
    limits = limits_in after new;
    grants = record f.grants {
      items = f.grants.items ++ one_more start bytes;
      sustained = and_grant f.grants.sustained start bytes;
      peak = and_grant f.grants.peak start bytes;
      reserved =
          cond (is_under c start (live f)) (and_grant f.grants.reserved start bytes) f.grants.reserved;
    };
  }

  keeps : KeepsSums c granted-flow
  keeps = record {
    granted = omega (arith, stands.keeps.granted, bytes-added f.grants.items start bytes);
    turn = (
      stands.keeps.turn.0,
      rw (last-more f.grants.items (record { start = start; bytes = bytes }))
          (granted.turn (top_rank f.spec) (last_start f.grants.items) f.sid
          (subst (IsTurn (top_rank f.spec) (last_start f.grants.items) f.sid) stands.turn stands.keeps.turn.1)),
    );
    last = last-behind f.grants.items (record { start = start; bytes = bytes }) stands.started;
    charges = charges-more c (live f) (record { start = start; bytes = bytes }) stands.keeps.charges;
    limits = limits-more c (live f) (limits_in tiers w) (limits_in after new) start bytes stands.keeps.charges
        stands.started (subst (AreLimitsOf c (live f)) limits stands.keeps.limits)
        (subst (λ n. HaveOneMore (limits_in tiers w) (limits_in after new) start n bytes) wanted granted.limits);
    settled = settled-more c (live f) (limits_in tiers w) (limits_in after new) start bytes stands.keeps.charges
        stands.started (subst (AreLimitsOf c (live f)) limits stands.keeps.limits)
        (subst (AreSettled (live f)) limits stands.keeps.settled)
        (subst (λ n. StaySettled (limits_in tiers w) (limits_in after new) start n bytes) wanted granted.settled);
  }

  -- the flows with it
  abbrev granted-items : List Flow
  granted-items = set items w.place granted-flow

  granted-book : IsBook c granted-items
  granted-book = served-book c items start room w.place f bytes granted-flow has.book found refl amount keeps

  granted-shows : map live granted-items
      ≡ changed f.sid (with_grant c (record { start = start; bytes = bytes })) (map live items)
  granted-shows =
      placed-changed f.sid (with_grant c (record { start = start; bytes = bytes })) items w.place granted-flow f
      has.book.sound.ascending found.stands refl

  at-granted : slice_get granted-items w.place ≡ Some granted-flow
  at-granted = set-here items w.place granted-flow (slice_get_within items w.place f stands.at)

  -- what its peak rate and its reserved rate bring is as before
  plain : is_plain granted-flow ≡ is_plain f
  plain =
      ap (λ n. n == 0 && granted-flow.limits.reserved.per_slot == 0)
      (keeps.limits.peak.per_slot ∙ sym stands.keeps.limits.peak.per_slot)
      ∙ ap (λ n. f.limits.peak.per_slot == 0 && n == 0)
      (keeps.limits.reserved.per_slot ∙ sym stands.keeps.limits.reserved.per_slot)

  new-tier : (new.tier == NO_TIER) ≡ is_plain granted-flow
  new-tier = ap (λ k. k == NO_TIER) granted.tier.same ∙ sym stands.tier ∙ sym plain

  -- it has its tier, and each other one has its own
  has-own : HasTier granted-items after new
  has-own =
      own-tier c items tiers after w new f granted-flow stands.at both.1 granted.tier
      (slice_get_within items w.place f stands.at) same plain refl refl refl

  have-theirs : (ws : List Waiting) → AllByRecursion (λ v. v.place ≢ w.place) ws → AllByRecursion (HasTier items tiers) ws
      → AllByRecursion (HasTier granted-items after) ws
  have-theirs ws =
      all-both (λ v. v.place ≢ w.place) (HasTier items tiers) (HasTier granted-items after) ws
      (other-tier c items tiers after w new f granted-flow stands.at both.1 granted.tier)

  new-sustained : new.sustained ≡ (queue_limits granted-flow).sustained
  new-sustained = sym (ap (λ (l : Limits). l.sustained) (queued-limits granted-flow takes))

  new-wants : new.wants ≡ outstanding (live granted-flow)
  new-wants = omega (arith, wants, stands.wants, bytes-added f.grants.items start bytes)

  waiting-by : (b : Bool) → still_waits new ≡ b → (left : List Waiting)
      → IsQueueAmong granted-items (λ other. other ≢ w.place) left → IsQueue granted-items (cond b (with-one new left) left)
  waiting-by true still left there =
      put-among c granted-items granted-book (λ other. other ≢ w.place) (λ other. Unit {0}) left w.place
      granted-flow at-granted (λ k may. cases_eq k w.place) (λ k other. tt) there new same refl new-wants new-sustained
      new-tier (λ differ. differ refl) tt
  waiting-by false idle left there =
      pass-among c granted-items granted-book (λ other. other ≢ w.place) (λ other. Unit {0}) left w.place
      granted-flow at-granted (λ k may. cases_eq k w.place) (λ k other. tt) there
      (λ more. let some : 0 < new.wants = omega (arith, new-wants, more) in absurd (grind (arith, nat_tests, idle)))

  module _ (put : IsPutIn items new queue served queue_after served_after) where
    -- those left of those served
    left-queue : IsQueueAmong granted-items (λ k. IsIn k put.left) put.left
    left-queue =
        among-same (λ k. IsIn k put.left) w.place items granted-items put.left
        (λ k in-it equal. put.out (subst (λ n. IsIn n put.left) (equal ∙ sym same) in-it))
        (same-but items w.place granted-flow) put.among

    put-in : IsQueueAmong granted-items (λ k. IsIn k (with-one new put.left)) (with-one new put.left)
    put-in =
        put-among c granted-items granted-book (λ k. IsIn k put.left) (λ k. IsIn k
        (with-one new put.left)) put.left w.place
        granted-flow at-granted (λ k in-it. elim (in-one k new put.left in-it) [
          | inl equal ↦ inl (equal ∙ same)
          | inr old ↦ inr old
        ]) (λ k in-it. in-old k new put.left in-it) left-queue new same refl
        (omega (arith, wants, stands.wants, bytes-added f.grants.items start bytes)) new-sustained new-tier
        (λ in-it. put.out (subst (λ n. IsIn n put.left) (sym same) in-it))
        (subst (λ n. IsIn n (with-one new put.left)) same (in-new new put.left))

    -- and the others
    others-queue : IsQueueAmong granted-items (λ k. IsIn k (with-one new put.left) → ⊥) (filter still_waits queue_after)
    others-queue =
        let Others : ℕ → Type 0 = λ k. (IsIn k put.left → ⊥) × (k ≢ new.place) in
        among-as granted-items Others (λ k. IsIn k (with-one new put.left) → ⊥) (filter still_waits queue_after)
        (λ k both in-it. elim (in-one k new put.left in-it) [
          | inl equal ↦ both.1 equal
          | inr old ↦ both.0 old
        ])
        (λ k out. (
          (λ in-it. out (in-old k new put.left in-it)),
          (λ equal. out (subst (λ n. IsIn n (with-one new put.left)) (sym equal) (in-new new put.left))),
        ))
        (among-same Others w.place items granted-items (filter still_waits queue_after)
        (λ k both equal. both.1 (equal ∙ sym same)) (same-but items w.place granted-flow) put.others)

    long-queue : IsQueueIn granted-items queue_after served_after
    long-queue =
        subst (IsQueueIn granted-items queue_after) (sym put.is) (record { served_ones = put-in; others = others-queue })

    long-tiers : HaveTiers true granted-items after queue_after served_after
    long-tiers =
        let Out : Waiting → Type 0 = λ v. v.place ≢ w.place in
        let left-out =
        all-both (λ v. IsIn v.place put.left) (λ v. IsIn v.place put.left) Out put.left
        (λ v in-it in-it'. (λ equal. put.out (subst (λ n. IsIn n put.left) (equal ∙ sym same) in-it))) put.among.among
        put.among.among in
        let others-out =
        all-both (λ v. (IsIn v.place put.left → ⊥) × (v.place ≢ new.place))
        (λ v. (IsIn v.place put.left → ⊥) × (v.place ≢ new.place)) Out (filter still_waits queue_after)
        (λ v both' both''. (λ equal. both'.1 (equal ∙ sym same))) put.others.among put.others.among in
        record {
          ones = subst (AllByRecursion (HasTier granted-items after)) (sym put.is)
              (all-put_in (λ v. v.turn) (HasTier granted-items after) new put.left has-own
              (have-theirs put.left left-out (put.tiered tiers has.ones)));
          others = have-theirs (filter still_waits queue_after) others-out (put.others_tiered tiers has.others);
        }

  -- where few wait it stays in the queue
  module _ (put : IsPutBack items new queue queue_after) where
    waiting-queue : (b : Bool) → still_waits new ≡ b
        → IsQueue granted-items (cond b (with-one new (filter still_waits put.others)) (filter still_waits put.others))
    waiting-queue b still =
        let left = filter still_waits put.others in
        let others = subst (λ k. IsQueueAmong items (λ other. other ≢ k) left) same put.among in
        let there = among-others w.place items granted-items left (same-but items w.place granted-flow) others in
        waiting-by b still left there

    short-queue : IsShortQueue granted-items queue_after
    short-queue =
        let apart = subst (λ k. AllByRecursion (λ v. v.place ≢ k) put.others) same put.new in
        let each =
        all-both (IsAt items) (λ v. v.place ≢ w.place) (IsAt granted-items) put.others
        (λ v at' differ. ap (option_map entry_of) (same-but items w.place granted-flow v.place differ) ∙ at') put.each
        apart in
        let stands-new : IsAt granted-items new =
        stands-at items new w.place granted-flow (slice_get_within items w.place f stands.at) refl new-wants new-sustained
        new-tier same in
        record {
          waiting = subst (IsQueue granted-items) (sym put.still) (waiting-queue (still_waits new) refl);
          each = subst (AllByRecursion (IsAt granted-items)) (sym put.is)
              (all-insert (IsAt granted-items) put.others put.at new put.within stands-new each);
          once = subst AreOnce (sym put.is) (once-insert put.others put.at new put.within put.once put.new);
        }

    short-tiers : AllByRecursion (HasTier items tiers) queue → HaveTiers false granted-items after queue_after served_after
    short-tiers all =
        let apart = subst (λ k. AllByRecursion (λ v. v.place ≢ k) put.others) same put.new in
        let ones =
        subst (AllByRecursion (HasTier granted-items after)) (sym put.is)
        (all-insert (HasTier granted-items after) put.others put.at new put.within has-own
        (have-theirs put.others apart (put.tiered tiers all))) in
        record { ones = ones; others = all-filter (HasTier granted-items after) still_waits queue_after ones }

  granted-order : (b : Bool) → IsPut b items new queue served queue_after served_after
      → IsOrderIn b granted-items queue_after served_after
  granted-order true put = long-queue put
  granted-order false put = (short-queue put.0, put.1)

  granted-tiers : (b : Bool) → AllByRecursion (HasTier items tiers) (served_of b queue served)
      → IsPut b items new queue served queue_after served_after
      → HaveTiers b granted-items after queue_after served_after
  granted-tiers true all put = long-tiers put
  granted-tiers false all put = short-tiers put.0 all

  -- each other flow is as it was
  others-rest : (ones left after : List Waiting) → IsIn new.place after
      → ((place : ℕ) → IsIn place left → IsIn place after)
      → ((place : ℕ) → IsIn place ones → (place ≡ new.place) ⊎ IsIn place left)
      → (before : List LiveFlow) → ((place : ℕ) → IsIn place ones
      ⊎ (slice_get (map live items) place ≡ slice_get before place)) → (place : ℕ)
      → IsIn place after ⊎ (slice_get (map live granted-items) place ≡ slice_get before place)
  others-rest ones left after has still-has stay before rest place = elim (cases_eq place w.place) [
    | inl at-it ↦ inl (subst (λ k. IsIn k after) (same ∙ sym at-it) has)
    | inr differ ↦ elim (rest place) [
      | inl was ↦ elim (stay place was) [
        | inl equal ↦ absurd (differ (equal ∙ same))
        | inr stays ↦ inl (still-has place stays)
      ]
      | inr is ↦ inr (slice_get-map live granted-items place
          ∙ ap (λ o. option_map live o) (same-but items w.place granted-flow place differ)
          ∙ sym (slice_get-map live items place) ∙ is)
    ]
  ]

  granted-rest : (b : Bool) → IsPut b items new queue served queue_after served_after
      → (before : List LiveFlow) → ((place : ℕ) → IsIn place (served_of b queue served)
      ⊎ (slice_get (map live items) place ≡ slice_get before place)) → (place : ℕ)
      → IsIn place (served_of b queue_after served_after)
      ⊎ (slice_get (map live granted-items) place ≡ slice_get before place)
  granted-rest true put =
      others-rest served put.left served_after (subst (IsIn new.place) (sym put.is) (in-new new put.left))
      (λ k here. subst (IsIn k) (sym put.is) (in-old k new put.left here)) put.stay
  granted-rest false put =
      let back = put.0 in
      others-rest queue back.others queue_after
      (subst (IsIn new.place) (sym back.is) (in-inserted back.others back.at new back.within))
      (λ k here. subst (IsIn k) (sym back.is) (in-still k back.others back.at new back.within here)) back.stay

  pub is-served : (b : Bool) → AllByRecursion (HasTier items tiers) (served_of b queue served)
      → IsPut b items new queue served queue_after served_after
      → IsServed c items b after queue served queue_after served_after start room bytes w new
  is-served b all put = record {
    flow = f;
    found = found;
    amount = amount;
    turn = granted.turn (top_rank f.spec) (last_start f.grants.items) f.sid
        (subst (IsTurn (top_rank f.spec) (last_start f.grants.items) f.sid) stands.turn stands.keeps.turn.1);
    grown = granted-items;
    shows = granted-shows;
    book = granted-book;
    order = granted-order b put;
    tiered = granted-tiers b all put;
    rest = granted-rest b put;
  }

module _ (c : Config) (before flows : List LiveFlow) (is_long : Bool) (queue served : List Waiting) (tiers : List Tier)
    (capacity first : ℕ) (old : List Flow) (o : IsOverlay c before flows is_long queue served tiers capacity first)
    (book : IsBook c old) (is-before : map live old ≡ before) where
  -- where many waited those served can be taken over
  pub can-long : is_long ≡ true → CanBeTaken c old o.items tiers served
  can-long many =
      subst (λ b. CanBeTaken c old o.items tiers (served_of b queue served)) many
      (can-be-taken c before flows is_long queue served tiers capacity first old o book is-before)

  -- and where few did those of the queue
  pub can-short : is_long ≡ false → CanBeTaken c old o.items tiers queue
  can-short few =
      subst (λ b. CanBeTaken c old o.items tiers (served_of b queue served)) few
      (can-be-taken c before flows is_long queue served tiers capacity first old o book is-before)
